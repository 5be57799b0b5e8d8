use Rattle.std.proofs.Common.{◌≡◌, inl, inr, List, ℕ, Result, Ok, refl, ap, sym, subst, ◌∙◌}
use Rattle.std.specs.Prelude.{IfOk, IfErr}
use Rattle.apl_array.specs.declared.array.Elem.{Elem}
use Rattle.apl_array.specs.Array.{ArrayValue, element_at, element_in}
use Rattle.apl_pool.specs.declared.kernel.Fault.{Fault}
use Rattle.apl_answer.specs.declared.fault.OpFault.{OpFault}
use Rattle.apl_answer.specs.declared.fault.OpFault.TheVariants.{Memory}
use Rattle.apl_answer.specs.Pointwise.{IsAnswerOf, IsAnswerAt, answer_of}
use Rattle.apl_answer.proofs.row_order.array_copy.Goals as goal

-- the copy, or `Memory` in its place
abbrev IsCopyOf : ArrayValue → Result ArrayValue OpFault → Type 0
IsCopyOf a result = IfOk result (λ copy. copy ≡ a) × IfErr result (λ fault. fault ≡ Memory)

copy_or_none : (a : ArrayValue) (result : Result ArrayValue OpFault) → IsAnswerOf (Ok a) result → IsCopyOf a result
copy_or_none a result (inl is) = subst (IsCopyOf a) (sym is) (refl, tt)
copy_or_none a result (inr is) = subst (IsCopyOf a) (sym is) (tt, refl)

by_place : (g : _) (c : goal.After-array_of_elements g) → IsAnswerAt c.args.b.now.shape c.args.b.now.kind (λ place. Ok (element_in c.args.b.now place)) c.array_of_elements.result
by_place g c =
    let shape : c.in_ok-shape.shape ≡ c.args.b.now.shape = c.in_ok-shape.ensures.copy ∙ c.shape.ensures.shape in
    rw shape at c.array_of_elements.ensures

is_copy : (g : _) (c : goal.After-array_of_elements g) → IsCopyOf c.args.b.now c.array_of_elements.result
is_copy g c =
    let b = c.args.b.now in
    let same_place = c.places_match_index_lists.ensures.same_place in
    let outcome : List ℕ → Result Elem Fault = λ index. Ok (element_at b index) in
    let whole : answer_of b.shape outcome b.kind ≡ Ok b =
    (c.answer_is_each_outcome.ensures.array b.shape outcome b.kind b c.shape.ensures.lawful).1 (record { shape_is = refl; kind_is = refl; each = λ index is. refl }) in
    copy_or_none b c.array_of_elements.result
    (subst (λ wanted. IsAnswerOf wanted c.array_of_elements.result) whole
    (by_place g c outcome (λ place inside. ap (λ p. Ok (element_in b p)) (sym (same_place b.shape place inside)))))

pub returns-clause-ok : goal.returns-clause-ok
returns-clause-ok g c = (is_copy g c).0

pub returns-clause-err : goal.returns-clause-err
returns-clause-err g c = (is_copy g c).1

pub returns-clause-by_place : goal.returns-clause-by_place
returns-clause-by_place g c = by_place g c
