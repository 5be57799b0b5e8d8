-- The last operation of a tree says whether the tree is an assignment.
use Rattle.std.proofs.Common.{◌≡◌, ◌-◌, ◌∷◌, [], ◌++◌, List, length, Option, Some, refl, sym, ◌∙◌, ap, append_assoc, arith}
use Rattle.std.specs.Prelude.{Bool, true, false}
use Rattle.std.specs.List.{slice_get}
use Rattle.std.proofs.lemmas.List.{length-append}
use Rattle.std.proofs.lemmas.Option.{slice_get-get_or}
use Rattle.std.proofs.Math.Seq.{get_or-append_seam}
use Rattle.apl_grammar.specs.declared.program.IndexedName.{IndexedName}
use Rattle.apl_grammar.specs.declared.program.Operation.{Operation}
use Rattle.apl_grammar.specs.declared.program.Operation.TheVariants as op
use Rattle.apl_grammar.specs.Tree.{Expr, value, dyadic, monadic, assign, assign_at, constant, name, group, index, brackets, indexed_name, axis_brackets, semicolons, operations, operand_operations, list_operations, axis_operations}
use Rattle.apl_eval.specs.Meaning.{is_assignment}

abbrev pub assigns : Option Operation → Bool
assigns (Some (op.Assign c n r)) = true
assigns (Some (op.AssignAt target)) = true
assigns _ = false

record EndsWith (e : Expr) : Type 0 where
  front : List Operation
  end : Operation
  split : operations e ≡ front ++ end ∷ []
  is : assigns (Some end) ≡ is_assignment e

ends : (e : Expr) → EndsWith e
ends (value (constant c v)) = record { front = []; end = op.Constant c v; split = refl; is = refl }
ends (value (name c n)) = record { front = []; end = op.Name c n; split = refl; is = refl }
ends (value (group l e r)) = record { front = operations e; end = op.Group (brackets l r); split = refl; is = refl }
ends (value (index o l s r)) = record { front = list_operations s ++ operand_operations o; end = op.Index (semicolons s) (brackets l r); split = simp append_assoc; is = refl }
ends (dyadic o f a e) = record { front = operations e ++ (axis_operations a ++ operand_operations o); end = op.Dyadic f (axis_brackets a); split = simp append_assoc; is = refl }
ends (monadic f a e) = record { front = operations e ++ axis_operations a; end = op.Monadic f (axis_brackets a); split = simp append_assoc; is = refl }
ends (assign c n r e) = record { front = operations e; end = op.Assign c n r; split = refl; is = refl }
ends (assign_at c n l s r a e) = record { front = operations e ++ list_operations s; end = op.AssignAt (indexed_name c n (semicolons s) (brackets l r) a); split = simp append_assoc; is = refl }

last_of : (os : List Operation) (o : Operation) → slice_get (os ++ o ∷ []) (length (os ++ o ∷ []) - 1) ≡ Some o
last_of os o =
    let place : length (os ++ o ∷ []) - 1 ≡ length os = omega (arith, length-append os (o ∷ [])) in
    rw place (slice_get-get_or (os ++ o ∷ []) (length os) o (omega (arith, length-append os (o ∷ []))) ∙ ap Some (get_or-append_seam os o [] o))

pub assigns-last : (e : Expr) (ops : List Operation) (found : Option Operation) → operations e ≡ ops → found ≡ slice_get ops (length ops - 1) → assigns found ≡ is_assignment e
assigns-last e ops found program is =
    let x = ends e in
    let all : ops ≡ x.front ++ x.end ∷ [] = sym program ∙ x.split in
    ap assigns (is ∙ ap (λ os. slice_get os (length os - 1)) all ∙ last_of x.front x.end) ∙ x.is

pub is_assignment_at_end : (e : Expr) (ops before : List Operation) (target : IndexedName) → operations e ≡ ops → ops ≡ before ++ op.AssignAt target ∷ [] → is_assignment e ≡ true
is_assignment_at_end e ops before target program split =
    let found : slice_get ops (length ops - 1) ≡ Some (op.AssignAt target) = ap (λ os. slice_get os (length os - 1)) split ∙ last_of before (op.AssignAt target) in
    sym (assigns-last e ops (Some (op.AssignAt target)) program (sym found))
