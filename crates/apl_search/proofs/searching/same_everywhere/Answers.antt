use Rattle.std.proofs.Common.{◌≡◌, ℕ, pos, List, Ok, to_z, of_z, w64, subst, ap, ◌∙◌, rules}
use Rattle.apl_array.specs.declared.array.Elem.TheVariants.{Int}
use Rattle.apl_array.specs.declared.array.Kind.TheVariants.{Number}
use Rattle.apl_array.specs.Shape.{index_at}
use Rattle.apl_answer.specs.Pointwise.{answer_of, IsAnswerOf}
use Rattle.apl_search.proofs.searching.same_everywhere.Goals as goal

pub returns : goal.returns
returns g c = λ outcome same.
    let b = c.args.b.now in
    let shapes : c.in_ok-shape.shape ≡ b.shape = search rules in
    let number : to_z w64 (of_z w64 (pos c.args.number)) ≡ pos c.args.number = search rules in
    let P : List ℕ → Type 0 = λ s. IsAnswerOf (answer_of s outcome Number) c.constant_array.result in
    subst P shapes
    (c.constant_array.ensures outcome
    (λ place inside. ap (λ z. Ok (Int z)) number ∙ same place (rw shapes at inside) ∙ ap (λ s. outcome (index_at s place)) (search rules)))
