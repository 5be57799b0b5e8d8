use Rattle.std.proofs.Common.{◌≡◌, ◌∙◌, sym, ap, arith, rules}
use Rattle.apl_array.specs.Array.{element_in, kind_of}
use Rattle.apl_scalar.specs.Scalar.{as_element}
use Rattle.apl_scalar.proofs.Sources.{own_kind, mixed}
use Rattle.apl_scalar.proofs.arrays.fill_with_right.Goals as goal
use Rattle.apl_scalar.proofs.arrays.fill_with_right.Goals.{in_default-via-in-Numbers+in_default, in_default-via-in-Narrow+in_default, in_default-via-in-Truths+in_default, in_default-via-in-Characters+in_default}

pub returns-in_default : goal.returns-in_default
returns-in_default g c = λ outcome same.
    let a = c.args.left.now in
    let differ : a.kind ≡ kind_of c.args.y → ⊥ = elim c.in_default.branch [
      | in_default-via-in-Numbers+in_default w ↦ search rules
      | in_default-via-in-Narrow+in_default w ↦ search rules
      | in_default-via-in-Truths+in_default w ↦ search rules
      | in_default-via-in-Characters+in_default w ↦ search rules
    ] in
    c.fill_mixed.ensures outcome (λ place inside.
    let kind = own_kind a c.elements.ensures.lawful place (omega (arith, inside, c.requires)) in
    ap as_element (mixed c.args.f (element_in a place) c.args.y (λ e. differ (sym kind ∙ e))) ∙ same place inside)
