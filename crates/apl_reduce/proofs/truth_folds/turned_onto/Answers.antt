use Rattle.std.proofs.Common.{◌≡◌, ◌%◌, ◌<◌, ◌-ℤ◌, ℤ, pos, Ok, FitsSigned, to_z, of_z, w64, sym, ap, ◌∙◌, arith}
use Rattle.std.proofs.lemmas.Int.{ints, to_z-of_z}
use Rattle.apl_reduce.proofs.TruthFolds.{is_small, even_onto, odd_onto}
use Rattle.apl_reduce.proofs.truth_folds.turned_onto.Goals as goal
use Rattle.apl_reduce.proofs.truth_folds.turned_onto.Goals.{After-turn_count-turns}

read : (c : After-turn_count-turns) → to_z w64 (of_z w64 c.args.total) ≡ c.args.total
read c = to_z-of_z w64 c.args.total c.ranges.total

low : (c : After-turn_count-turns) → of_z w64 c.args.total < 2
low c = let bits = c.cast_unsigned.ensures ∙ ap (of_z w64) (read c) in omega (arith, bits, c.if-cast_unsigned-gt1.false)

one_less : (z : ℤ) → FitsSigned w64 z → of_z w64 z < 2 → FitsSigned w64 (pos 1 -ℤ z)
one_less z fits few = let near = is_small z fits (omega (arith, few)) in omega (arith, ints, near)

pub returns-then-turns-eq0 : goal.returns-then-turns-eq0
returns-then-turns-eq0 c = λ f asks.
    let at = (goal.at.returns-then-turns-eq0 c).After-turn_count-turns in
    even_onto c.args.truths.now c.args.first c.args.count c.args.total c.ranges.total (low at) f c.args.turn asks (ap (λ n. n % 2) (sym c.turn_count-turns.ensures) ∙ c.if-turns-eq0.true)
    ∙ ap (λ (z : ℤ). Ok z) (sym (read at))

pub returns-else-turns-eq0 : goal.returns-else-turns-eq0
returns-else-turns-eq0 c = λ f asks.
    let at = (goal.at.returns-else-turns-eq0 c).After-turn_count-turns in
    let odd : c.turn_count-turns.result % 2 ≡ 1 = omega (arith, c.if-turns-eq0.false) in
    rw (read at, to_z-of_z w64 (pos 1 -ℤ c.args.total) (one_less c.args.total c.ranges.total (low at)))
    (odd_onto c.args.truths.now c.args.first c.args.count c.args.total c.ranges.total (low at) f c.args.turn asks (ap (λ n. n % 2) (sym c.turn_count-turns.ensures) ∙ odd))
