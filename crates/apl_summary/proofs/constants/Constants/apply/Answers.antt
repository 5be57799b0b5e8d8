use Rattle.std.proofs.Common.{◌≡◌, ℤ, Ok, Err, sym, ◌∙◌, subst, arith}
use Rattle.std.proofs.lemmas.Int.{ints}
use mir.Syntax.{w64, w128}
use mir.Val.{to_z, of_z}
use Rattle.apl_pool.specs.declared.kernel.Fault.TheVariants.{Limit}
use Rattle.apl_pool.specs.Summaries.{IsI64}
use Rattle.apl_summary.specs.Constants.{signed_outcome}
use Rattle.apl_summary.proofs.SignedSums.{passes, stays_in, tested, untested}
use Rattle.apl_summary.proofs.constants.Constants.apply.Goals as goal

pub narrow-requires : goal.narrow-requires
narrow-requires c =
    let n : to_z w128 (of_z w128 c.whole.result) ≡ c.whole.result = omega (arith, ints) in
    subst IsI64 (sym (n ∙ c.whole.ensures)) (stays_in _ _ _ c.requires.lawful.1 (passes _ _ (sym c.keeps_range.ensures ∙ c.if-keeps_range.true)))

pub returns-then-keeps_range : goal.returns-then-keeps_range
returns-then-keeps_range c =
    let e : to_z w128 (of_z w128 c.from-right.result) ≡ c.args.right = omega (arith, ints) in
    let n : to_z w64 (of_z w64 c.narrow.result) ≡ c.whole.result = omega (arith, ints) in
    subst (λ (x : ℤ). Ok (to_z w64 (of_z w64 c.narrow.result)) ≡ signed_outcome c.args.self.now x) e (tested c.args.self.now (to_z w128 (of_z w128 c.from-right.result)) _ (sym c.keeps_range.ensures ∙ c.if-keeps_range.true) (n ∙ c.whole.ensures))

pub returns-else-keeps_range : goal.returns-else-keeps_range
returns-else-keeps_range c =
    let e : to_z w128 (of_z w128 c.from-right.result) ≡ c.args.right = omega (arith, ints) in
    subst (λ (x : ℤ). Err Limit ≡ signed_outcome c.args.self.now x) e (sym (untested c.args.self.now (to_z w128 (of_z w128 c.from-right.result)) (sym c.keeps_range.ensures ∙ c.if-keeps_range.false)))
