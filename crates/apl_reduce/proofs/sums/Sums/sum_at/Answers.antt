use Rattle.std.proofs.Common.{◌≡◌, ◌+◌, ◌*◌, ◌*ℤ◌, ◌+ℤ◌, ℕ, ℤ, pos, suc, get_or, to_z, of_z, w64, FitsSigned, refl, subst, ap, ◌∙◌, sym, arith}
use Rattle.std.proofs.lemmas.Int.{to_z-of_z}
use Rattle.apl_reduce.specs.Layouts.{product_in}
use Rattle.apl_reduce.specs.Magnitudes.{sum_of}
use Rattle.apl_reduce.proofs.Distances.{product_fits, sum_fits, one_more}
use Rattle.apl_reduce.proofs.sums.Sums.sum_at.Goals as goal

-- the numbers that meet
abbrev left_number : goal.After-right-1 → ℤ
left_number c =
    let sums = c.args.self.now in
    get_or sums.left.now (c.starts-left_start.result.0 + c.loop-k.k * sums.layout.now.left.item) (pos 0)

abbrev right_number : goal.After-right-1 → ℤ
right_number c =
    let sums = c.args.self.now in
    get_or sums.right.now (c.starts-left_start.result.1 + c.loop-k.k * sums.layout.now.right.item) (pos 0)

abbrev number : goal.After-right-1 → ℕ → ℤ
number c = product_in c.args.self.now.layout.now c.args.self.now.left.now c.args.self.now.right.now c.args.line c.args.column

left_read : (c : goal.After-right-1) → to_z w64 (of_z w64 (left_number c)) ≡ left_number c
left_read c = grind (arith, to_z-of_z)

right_read : (c : goal.After-right-1) → to_z w64 (of_z w64 (right_number c)) ≡ right_number c
right_read c = grind (arith, to_z-of_z)

fits : (c : goal.After-right-1) → FitsSigned w64 (left_number c *ℤ right_number c)
fits c =
    let sums = c.args.self.now in
    let layout = sums.layout.now in
    product_fits sums.left.now sums.right.now layout.items sums.small (c.starts-left_start.result.0 + c.loop-k.k * layout.left.item)
    (c.starts-left_start.result.1 + c.loop-k.k * layout.right.item) (omega (arith, c.loop-k-test.true))

meets : (c : goal.After-right-1) → left_number c *ℤ right_number c ≡ number c c.loop-k.k
meets c =
    let starts = c.starts-left_start.ensures in
    rw (starts.left, starts.right) refl

sum_fits_next : (c : goal.After-right-1) → FitsSigned w64 (sum_of (number c) (suc c.loop-k.k))
sum_fits_next c =
    let sums = c.args.self.now in
    let layout = sums.layout.now in
    sum_fits sums.left.now sums.right.now layout.items sums.small (λ m. c.args.line * layout.left.line + m * layout.left.item) (λ m. c.args.column * layout.right.line + m * layout.right.item) (suc c.loop-k.k) (omega (arith, c.loop-k-test.true))

sum_is_next : (c : goal.After-right-1) → to_z w64 c.loop-k.total-bits +ℤ to_z w64 (of_z w64 (to_z w64 (of_z w64 (left_number c)) *ℤ to_z w64 (of_z w64 (right_number c)))) ≡ sum_of (number c) (suc c.loop-k.k)
sum_is_next c = one_more (number c) c.loop-k.k _ (left_number c) (right_number c) _ _ c.loop-k.invariant (left_read c) (right_read c) (meets c) (fits c)

pub overflow_mul-total : goal.overflow_mul-total
overflow_mul-total c =
    let left = left_read c in
    let right = right_read c in
    rw (left, right) (fits c)

pub overflow_add-total : goal.overflow_add-total
overflow_add-total c = subst (FitsSigned w64) (sym (sum_is_next c)) (sum_fits_next c)

pub loop-k-preserved : goal.loop-k-preserved
loop-k-preserved c =
    let next : suc c.loop-k.k ≡ c.loop-k.k + 1 = omega arith in
    ap (λ z. to_z w64 (of_z w64 z)) (sum_is_next c) ∙ to_z-of_z w64 (sum_of (number c) (suc c.loop-k.k)) (sum_fits_next c) ∙ ap (sum_of (number c)) next
