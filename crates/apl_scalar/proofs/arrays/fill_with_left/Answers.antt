use Rattle.std.proofs.Common.{◌≡◌, ◌∙◌, sym, ap, arith, rules}
use Rattle.apl_array.specs.Array.{element_in, kind_of}
use Rattle.apl_scalar.specs.Scalar.{as_element}
use Rattle.apl_scalar.proofs.Sources.{own_kind, mixed}
use Rattle.apl_scalar.proofs.arrays.fill_with_left.Goals as goal
use Rattle.apl_scalar.proofs.arrays.fill_with_left.Goals.{in_default-via-in-Int+in_default, in_default-via-in-Chr+in_default}

pub returns-in_default : goal.returns-in_default
returns-in_default g c = λ outcome same.
    let b = c.args.right.now in
    let differ : kind_of c.args.x ≡ b.kind → ⊥ = elim c.in_default.branch [
      | in_default-via-in-Int+in_default w ↦ search rules
      | in_default-via-in-Chr+in_default w ↦ search rules
    ] in
    c.fill_mixed.ensures outcome (λ place inside.
    let kind = own_kind b c.elements.ensures.lawful place (omega (arith, inside, c.requires)) in
    ap as_element (mixed c.args.f c.args.x (element_in b place) (λ e. differ (e ∙ kind))) ∙ same place inside)
