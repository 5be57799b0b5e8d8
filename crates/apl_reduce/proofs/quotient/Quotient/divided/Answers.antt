use Rattle.std.proofs.Common.{◌≡◌, ◌^◌, pos, ◌+ℤ◌, ◌*ℤ◌, ◌<ℤ◌, ◌≤ℤ◌, FitsSigned, to_z, of_z, ap, ◌∙◌, arith}
use Rattle.std.specs.Int.{w128, int_min, saturate_signed}
use Rattle.std.proofs.lemmas.Int.{ints, clamps, to_z-of_z}
use Rattle.apl_scalar.specs.Arithmetic.{floor_quotient}
use Rattle.apl_reduce.specs.Carrying.{signed}
use Rattle.apl_reduce.proofs.Quotients.{floor_product}
use Rattle.apl_reduce.proofs.Dividing.{signed_near, past_largest, cut_most, cut_past, product_more}
use Rattle.apl_reduce.proofs.quotient.Quotient.divided.Goals as goal

pub invariant_of-result : goal.invariant_of-result
invariant_of-result c =
    let fa : FitsSigned w128 c.args.self.added = search (arith, ints) in
    let least : c.min.result ≡ int_min c.args.self.added (pos (2 ^ 63)) = rw (to_z-of_z w128 c.args.self.added fa) at c.min.ensures.value in
    record {
      natural = omega (arith, ints, clamps, least);
      below = omega (arith, ints, clamps, least);
      most = omega (arith, ints);
    }

pub invariant_of-result-2 : goal.invariant_of-result-2
invariant_of-result-2 c =
    let own = c.args.self in
    let a = own.added in
    let d = own.divisor in
    let e = c.args.by in
    let fd : FitsSigned w128 d = search (arith, ints) in
    let fe : FitsSigned w128 e = c.ranges.by in
    let divisor = c.saturating_mul-divisor.result in
    let read : to_z w128 (of_z w128 divisor) ≡ divisor = omega (arith, ints) in
    let cut : divisor ≡ saturate_signed w128 (d *ℤ e) = rw (to_z-of_z w128 d fd, to_z-of_z w128 e fe) at c.saturating_mul-divisor.ensures in
    let above : pos 0 <ℤ d = omega (arith, ints) in
    let some : pos 0 <ℤ e = c.requires in
    let more : d ≤ℤ (d *ℤ e) = product_more d e above some in
    let few : divisor ≤ℤ pos (2 ^ 65) = omega (arith, ints) in
    let is : divisor ≡ d *ℤ e = cut ∙ cut_most (d *ℤ e) (rw cut at few) (omega (arith, ints, more)) in
    record {
      natural = omega (arith, ints);
      below = omega (arith, ints, is, more);
      most = omega (arith, ints);
    }

pub returns-then-divisor-gt-MOST_DIVISOR : goal.returns-then-divisor-gt-MOST_DIVISOR
returns-then-divisor-gt-MOST_DIVISOR c = λ b inside.
    let own = c.args.self in
    let a = own.added in
    let d = own.divisor in
    let e = c.args.by in
    let fd : FitsSigned w128 d = search (arith, ints) in
    let fe : FitsSigned w128 e = c.ranges.by in
    let divisor = c.saturating_mul-divisor.result in
    let read : to_z w128 (of_z w128 divisor) ≡ divisor = omega (arith, ints) in
    let cut : divisor ≡ saturate_signed w128 (d *ℤ e) = rw (to_z-of_z w128 d fd, to_z-of_z w128 e fe) at c.saturating_mul-divisor.ensures in
    let above : pos 0 <ℤ d = omega (arith, ints) in
    let some : pos 0 <ℤ e = c.requires in
    let more : d ≤ℤ (d *ℤ e) = product_more d e above some in
    let fa : FitsSigned w128 a = search (arith, ints) in
    let past : pos (2 ^ 65) <ℤ divisor = omega (arith, ints) in
    let least : c.min.result ≡ int_min a (pos (2 ^ 63)) = rw (to_z-of_z w128 a fa) at c.min.ensures.value in
    let added : to_z w128 (of_z w128 c.min.result) ≡ int_min a (pos (2 ^ 63)) = omega (arith, ints, least) in
    let t = signed own.is_negated b in
    ap (λ x. floor_quotient (t +ℤ x) (pos (2 ^ 65))) added
    ∙ past_largest t a d e (signed_near own.is_negated b inside) own.natural own.below own.most some (cut_past (d *ℤ e) (rw cut at past))

pub returns : goal.returns
returns c = λ b inside.
    let own = c.args.self in
    let a = own.added in
    let d = own.divisor in
    let e = c.args.by in
    let fd : FitsSigned w128 d = search (arith, ints) in
    let fe : FitsSigned w128 e = c.ranges.by in
    let divisor = c.saturating_mul-divisor.result in
    let read : to_z w128 (of_z w128 divisor) ≡ divisor = omega (arith, ints) in
    let cut : divisor ≡ saturate_signed w128 (d *ℤ e) = rw (to_z-of_z w128 d fd, to_z-of_z w128 e fe) at c.saturating_mul-divisor.ensures in
    let above : pos 0 <ℤ d = omega (arith, ints) in
    let some : pos 0 <ℤ e = c.requires in
    let more : d ≤ℤ (d *ℤ e) = product_more d e above some in
    let few : divisor ≤ℤ pos (2 ^ 65) = omega (arith, ints) in
    let is : divisor ≡ d *ℤ e = cut ∙ cut_most (d *ℤ e) (rw cut at few) (omega (arith, ints, more)) in
    let t = signed own.is_negated b in
    let added : to_z w128 (of_z w128 a) ≡ a = omega (arith, ints) in
    ap (λ x. floor_quotient (t +ℤ x) (to_z w128 (of_z w128 divisor))) added ∙ ap (floor_quotient (t +ℤ a)) (read ∙ is) ∙ floor_product (t +ℤ a) d e above some
