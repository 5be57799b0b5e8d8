use Rattle.std.proofs.Common.{◌≡◌, ◌+◌, ◌*◌, false, map, sym, ◌∙◌, rules}
use Rattle.apl_struct.proofs.Kept.{not_all}
use Rattle.apl_struct.proofs.bits.truths_of.Goals as goal

pub returns-then-not-judge_up_to : goal.returns-then-not-judge_up_to
returns-then-not-judge_up_to g c =
    let failed : c.judge_up_to.result ≡ false = search rules in
    not_all (map g.T.Numeric.number_in c.args.numbers.now) (c.loop-turn.turn * 4 + 4) (sym c.judge_up_to.ensures.bits ∙ failed)
