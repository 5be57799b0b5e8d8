use Rattle.std.proofs.Common.{◌≡◌, ◌+◌, ◌-◌, ◌*◌, ◌<◌, ◌≤◌, length, take, drop, slice_index_or, length-drop, length-take-le, ap, sym, ◌∙◌, ⊎_elim, arith}
use Rattle.std.proofs.lemmas.Bool.{cases_lt}
use Rattle.apl_scan.proofs.TruthLines.{part_at}
use Rattle.apl_scan.proofs.truth_lines.count_in_blocks.Goals as goal

pub loop-block-preserved : goal.loop-block-preserved
loop-block-preserved c = λ k d below.
    let truths = c.args.truths.now in
    let first = c.loop-block.block * 64 in
    ⊎_elim
    (λ before. c.loop-block.invariant k d before)
    (λ from.
    let j = k - first in
    let within : j < 64 = omega (arith, below, from) in
    let room : first + 64 ≤ length truths = omega arith in
    let part = take (first + 64 - first) (drop first truths) in
    let size : first + 64 - first ≤ length (drop first truths) = omega (arith, room, length-drop first truths) in
    let long : length part ≡ first + 64 - first = length-take-le (first + 64 - first) (drop first truths) size in
    let place : first + j ≡ k = omega (arith, from) in
    ap (λ p. slice_index_or truths p d) (sym place) ∙ sym (part_at truths first (first + 64) j d (omega (arith, within))) ∙ c.has_end.ensures c.if-has_end.false j d (omega (arith, within, long)))
    (cases_lt k first)
