use Rattle.std.proofs.Common.{◌≡◌, ◌+◌, ◌-◌, ◌*◌, ◌<◌, ◌≤◌, ℤ, List, Ok, length, take, drop, map, to_z, of_z, w64, sym, ap, subst, ◌∙◌, arith, rules}
use Rattle.std.proofs.lemmas.List.{take-map, drop-map, length-map}
use Rattle.apl_reduce.specs.Magnitudes.{IsProductSum}
use Rattle.apl_reduce.proofs.ProductSums.{line, line_length, line_at, line_within, line_sum}
use Rattle.apl_reduce.proofs.product_sums.sure_sum.Goals as goal

pub returns-then-line-near-2 : goal.returns-then-line-near-2
returns-then-line-near-2 g c =
    let items = c.args.items.now in
    let law = c.range_is_decided.ensures in
    let near = c.args.near in
    let most = near.left * near.right in
    let left_number = g.T.Numeric.number_in in
    let right_number = g.U.Numeric.number_in in
    let left = map left_number items.left.now in
    let right = map right_number items.right.now in
    let last : items.count - 1 < items.count = omega (arith, c.requires.some) in
    let left_held = line_within items.left_start items.left_stride items.count _ c.requires.left c.requires.some (items.left_within (items.count - 1) last) in
    let right_held = line_within items.right_start items.right_stride items.count _ c.requires.right c.requires.some (items.right_within (items.count - 1) last) in
    let left_within : items.left_start + items.count ≤ length left = omega (arith, left_held, length-map items.left.now left_number) in
    let right_within : items.right_start + items.count ≤ length right = omega (arith, right_held, length-map items.right.now right_number) in
    let left_line = line left items.left_start items.count left_within in
    let right_line = line right items.right_start items.count right_within in
    let left_slice = take (items.left_start + items.count - items.left_start) (drop items.left_start items.left.now) in
    let right_slice = take (items.right_start + items.count - items.right_start) (drop items.right_start items.right.now) in
    let left_moved : map left_number left_slice ≡ left_line = sym (take-map left_number _ _) ∙ ap (take _) (sym (drop-map left_number items.left_start items.left.now)) in
    let right_moved : map right_number right_slice ≡ right_line = sym (take-map right_number _ _) ∙ ap (take _) (sym (drop-map right_number items.right_start items.right.now)) in
    let all : length left_slice ≡ items.count = sym (length-map left_slice left_number) ∙ ap length left_moved ∙ line_length left items.left_start items.count left_within in
    let line = c.product_sum-line.result in
    let read : to_z w64 (of_z w64 line.sum) ≡ line.sum = search rules in
    let sums : IsProductSum left_line right_line near 0 items.count line =
    subst (λ n. IsProductSum left_line right_line near 0 n line) all
    (subst (λ r. IsProductSum left_line r near 0 (length left_slice) line) right_moved
    (subst (λ l. IsProductSum l (map right_number right_slice) near 0 (length left_slice) line) left_moved c.product_sum-line.ensures)) in
    let is = sums c.requires.small c.if-line-near.true c.if-line-near-2.true in
    rw (c.elements_are_numbers.ensures, c.elements_are_numbers-2.ensures)
    (line_sum law.decided law.bits left right items.left_start items.left_stride items.right_start items.right_stride items.count most left_line right_line c.requires.left c.requires.right
    (line_at left items.left_start items.count left_within) (line_at right items.right_start items.count right_within) c.requires.small _ is
    ∙ ap Ok (sym read))
