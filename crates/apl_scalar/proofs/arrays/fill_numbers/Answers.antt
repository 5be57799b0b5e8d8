use Rattle.std.proofs.Common.{◌≡◌, ◌∙◌, sym, ap, arith, rules}
use Rattle.apl_array.specs.Array.{element_in}
use Rattle.apl_scalar.specs.Scalar.{as_element}
use Rattle.apl_scalar.proofs.Sources.{own_kind, mixed}
use Rattle.apl_scalar.proofs.arrays.fill_numbers.Goals as goal

pub returns-in-Characters : goal.returns-in-Characters
returns-in-Characters g c = λ outcome same.
    let a = c.args.left.now in
    let b = c.args.right.now in
    let differ : a.kind ≡ b.kind → ⊥ = search rules in
    c.fill_mixed.ensures outcome (λ place inside.
    let left = own_kind a c.requires.lawful place (omega (arith, inside, c.requires.left)) in
    let right = own_kind b c.elements.ensures.lawful place (omega (arith, inside, c.requires.right)) in
    ap as_element (mixed c.args.f (element_in a place) (element_in b place) (λ e. differ (sym left ∙ e ∙ right))) ∙ same place inside)
