use Rattle.std.proofs.Common.{◌≡◌, ◌+◌, ◌-◌, ◌*◌, ◌/◌, ◌^◌, ◌≤◌, pos, Ok, sym, ap, ◌∙◌, arith, w64}
use Rattle.std.proofs.lemmas.Int.{to_z_pos}
use Rattle.apl_scalar.specs.Arithmetic.{binomial}
use Rattle.apl_scalar.proofs.Exact.{RangeLaw, exact_small, exact_large}
use Rattle.apl_scalar.proofs.Counting.{choose, choose_next, choices_beyond, binomial-choose}
use Rattle.apl_scalar.proofs.arithmetic.choices.Goals as goal

pub returns-then-count : goal.returns-then-count
returns-then-count c =
    let n = c.args.n in
    let i = c.loop-i.i in
    let next : c.loop-i.count * (n - i) / (i + 1) ≡ choose n (i + 1) =
    ap (λ x. x * (n - i) / (i + 1)) c.loop-i.invariant.0 ∙ choose_next n i (omega arith) in
    let large : 2 ^ 63 ≤ choose n (i + 1) = omega (arith, next, c.if-count.true) in
    let range : RangeLaw = record { decided = c.range_is_decided.ensures.decided; bits = c.range_is_decided.ensures.bits } in
    sym (exact_large range (binomial n c.args.k) (choices_beyond n c.args.k i c.requires.half (omega arith) large))

pub loop-i-preserved : goal.loop-i-preserved
loop-i-preserved c =
    let n = c.args.n in
    let i = c.loop-i.i in (
      ap (λ x. x * (n - i) / (i + 1)) c.loop-i.invariant.0 ∙ choose_next n i (omega arith),
      omega arith,
    )

pub returns : goal.returns
returns c =
    let all : c.loop-i.i ≡ c.args.k = omega arith in
    let is : c.loop-i.count ≡ binomial c.args.n c.args.k =
    c.loop-i.invariant.0 ∙ ap (choose c.args.n) all ∙ sym (binomial-choose c.args.n c.args.k (omega arith)) in
    let range : RangeLaw = record { decided = c.range_is_decided.ensures.decided; bits = c.range_is_decided.ensures.bits } in
    ap Ok (to_z_pos w64 c.loop-i.count c.loop-i.invariant.1) ∙ ap (λ m. Ok (pos m)) is
    ∙ sym (exact_small range (binomial c.args.n c.args.k) (omega (arith, is, c.loop-i.invariant.1)))
