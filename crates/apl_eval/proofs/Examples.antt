-- Worked examples: the meaning of a tree in the opening workspace, or in one with a name. A comment before each has its line.
use Rattle.std.proofs.Common.{◌≡◌, ℕ, pos, negsuc, true, false, List, [], ◌∷◌, Some, None, length, map, codes, refl, ap}
use Rattle.std.specs.FinMap.{get-empty}
use Rattle.std.specs.Cmp.Lexicographic.{slice_cmp}
use Rattle.std.specs.Ordering.{nat_cmp}
use Rattle.apl_array.specs.declared.function.ScalarFunction.{ScalarFunction}
use Rattle.apl_array.specs.declared.function.ScalarFunction.TheVariants.{Plus, Minus, Times, Divide}
use Rattle.apl_array.specs.Array.{ArrayValue, number_array}
use Rattle.apl_grammar.specs.declared.forms.DefaultAxis.TheVariants.{Last}
use Rattle.apl_grammar.specs.declared.forms.MonadicFunction.TheVariants as of_one
use Rattle.apl_grammar.specs.declared.forms.DyadicFunction.TheVariants as of_two
use Rattle.apl_grammar.specs.declared.forms.Operator.TheVariants.{Reduction}
use Rattle.apl_grammar.specs.declared.forms.MonadicForm.TheVariants as one
use Rattle.apl_grammar.specs.declared.forms.DyadicForm.{DyadicForm}
use Rattle.apl_grammar.specs.declared.forms.DyadicForm.TheVariants as two
use Rattle.apl_grammar.specs.Tree.{value, dyadic, monadic, assign, assign_at, Operand, constant, name, group, index, last, given, none, along}
use Rattle.apl_print.specs.declared.reports.Report.TheVariants.{Value, Index, Length, Domain, Limit}
use Rattle.apl_eval.specs.Workspace.{WorkspaceValue, value_of, assigned, opening_workspace}
use Rattle.apl_eval.specs.Functions.{reversed_along, monadic_result, dyadic_result, index_result, assign_at_result}
use Rattle.apl_eval.specs.Meaning.{done, failed, then, outcome_at, name_result, dyadic_outcome, index_outcome, assign_at_outcome_of, meaning_of, is_assignment}
use Rattle.apl_eval.proofs.NameLemmas.{get-insert_name}

abbrev scalar : ℕ → ArrayValue
scalar n = number_array [] (pos n ∷ [])

abbrev vector : List ℕ → ArrayValue
vector ns = number_array (length ns ∷ []) (map pos ns)

abbrev number : ℕ → ℕ → Operand
number column n = constant column (scalar n)

abbrev symbol : ℕ → ScalarFunction → DyadicForm
symbol column f = two.Plain column (of_two.Scalar f)

abbrev A : List ℕ
A = codes "A"

abbrev opening : WorkspaceValue
opening = opening_workspace

-- the value of a name that was assigned last, and of a name that has none
is_assigned : (v : ArrayValue) (w : WorkspaceValue) → value_of A (assigned A v w) ≡ Some v
is_assigned v w = get-insert_name w.names A v A

has_none : (text : List ℕ) → value_of text opening ≡ None
has_none text = get-empty (slice_cmp nat_cmp) text

-- ---- values

-- 10-4-3
from_the_right : meaning_of (dyadic (number 0 10) (symbol 2 Minus) none (dyadic (number 3 4) (symbol 4 Minus) none (value (number 5 3)))) opening
    ≡ done (scalar 9) opening
unfolding dyadic_result
from_the_right = refl

-- 2 3⍴⍳6
table : meaning_of (dyadic (constant 0 (vector (2 ∷ 3 ∷ []))) (two.Plain 3 of_two.Reshape) none (monadic (one.Plain 4 of_one.Iota) none (value (number 5 6)))) opening
    ≡ done (number_array (2 ∷ 3 ∷ []) (pos 1 ∷ pos 2 ∷ pos 3 ∷ pos 4 ∷ pos 5 ∷ pos 6 ∷ [])) opening
unfolding dyadic_result monadic_result
table = refl

-- +/9223372036854775807 1 ¯1
partial_results_in_the_range : meaning_of (monadic (one.Reduce 0 Plus 1 (Reduction Last)) none (value (constant 2 (number_array (3 ∷ []) (pos 9223372036854775807 ∷ pos 1 ∷ negsuc 0 ∷ []))))) opening
    ≡ done (scalar 9223372036854775807) opening
unfolding monadic_result
partial_results_in_the_range = refl

-- 1 2+.×3 4
inner_product : meaning_of (dyadic (constant 0 (vector (1 ∷ 2 ∷ []))) (two.Inner 3 Plus 4 5 Times) none (value (constant 6 (vector (3 ∷ 4 ∷ []))))) opening
    ≡ done (scalar 11) opening
unfolding dyadic_result
inner_product = refl

-- 5 6 7[2]
element : meaning_of (value (index (constant 0 (vector (5 ∷ 6 ∷ 7 ∷ []))) 5 (last (given (value (number 6 2)))) 7)) opening
    ≡ done (scalar 6) opening
unfolding index_result
element = refl

-- ---- errors, with their columns

-- 7÷2
not_whole : meaning_of (dyadic (number 0 7) (symbol 1 Divide) none (value (number 2 2))) opening ≡ failed Domain 1 opening
unfolding dyadic_result
not_whole = refl

-- 1 2+1 2 3
lengths_differ : meaning_of (dyadic (constant 0 (vector (1 ∷ 2 ∷ []))) (symbol 3 Plus) none (value (constant 4 (vector (1 ∷ 2 ∷ 3 ∷ []))))) opening
    ≡ failed Length 3 opening
unfolding dyadic_result
lengths_differ = refl

-- +/¯1 1 9223372036854775807: at the slash
partial_result_out_of_range : meaning_of (monadic (one.Reduce 0 Plus 1 (Reduction Last)) none (value (constant 2 (number_array (3 ∷ []) (negsuc 0 ∷ pos 1 ∷ pos 9223372036854775807 ∷ []))))) opening
    ≡ failed Limit 1 opening
unfolding monadic_result
partial_result_out_of_range = refl

-- ⌽[9]1 2: at the function
no_such_axis : meaning_of (monadic (one.Reverse 0 Last) (along 1 (value (number 2 9)) 3) (value (constant 4 (vector (1 ∷ 2 ∷ []))))) opening
    ≡ failed Index 0 opening
unfolding monadic_result reversed_along
no_such_axis = refl

-- B[1]: at the name
no_value : meaning_of (value (index (name 0 (codes "B")) 1 (last (given (value (number 2 1)))) 3)) opening ≡ failed Value 0 opening
no_value = ap (λ found. then (outcome_at 0 (name_result found) opening) (λ array. index_outcome 1 array (Some (scalar 1) ∷ []))) (has_none (codes "B"))

-- ---- assignments

-- A←3 is no value to print, and (A←3) is one
assignment : meaning_of (assign 0 A 1 (value (number 2 3))) opening ≡ done (scalar 3) (assigned A (scalar 3) opening)
assignment = refl

assignment_is_silent : is_assignment (assign 0 A 1 (value (number 2 3))) ≡ true
assignment_is_silent = refl

in_parentheses_it_is_shown : is_assignment (value (group 0 (assign 1 A 2 (value (number 3 3))) 4)) ≡ false
in_parentheses_it_is_shown = refl

-- A+A←3: the right side comes first
used_on_its_left : meaning_of (dyadic (name 0 A) (symbol 1 Plus) none (assign 2 A 3 (value (number 4 3)))) opening
    ≡ done (scalar 6) (assigned A (scalar 3) opening)
unfolding dyadic_result
used_on_its_left = ap (λ found. then (outcome_at 0 (name_result found) (assigned A (scalar 3) opening)) (λ left. dyadic_outcome (symbol 1 Plus) None left (scalar 3)))
    (is_assigned (scalar 3) opening)

-- (A←1)+A←2: the left one comes last
left_comes_last : meaning_of (dyadic (group 0 (assign 1 A 2 (value (number 3 1))) 4) (symbol 5 Plus) none (assign 6 A 7 (value (number 8 2)))) opening
    ≡ done (scalar 3) (assigned A (scalar 1) (assigned A (scalar 2) opening))
unfolding dyadic_result
left_comes_last = refl

-- (1÷0)+A←3: the error keeps the assignment before it
kept_before_an_error : meaning_of (dyadic (group 0 (dyadic (number 1 1) (symbol 2 Divide) none (value (number 3 0))) 4) (symbol 5 Plus) none (assign 6 A 7 (value (number 8 3)))) opening
    ≡ failed Domain 2 (assigned A (scalar 3) opening)
unfolding dyadic_result
kept_before_an_error = refl

-- A[2]←9 where A is 1 2 3: the value is 9, and A has it at its second place
abbrev with_A : WorkspaceValue
with_A = assigned A (vector (1 ∷ 2 ∷ 3 ∷ [])) opening

replaced : meaning_of (assign_at 0 A 1 (last (given (value (number 2 2)))) 3 4 (value (number 5 9))) with_A
    ≡ done (scalar 9) (assigned A (vector (1 ∷ 9 ∷ 3 ∷ [])) with_A)
unfolding assign_at_result
replaced = ap (λ found. assign_at_outcome_of (assign_at_result with_A.origin found (Some (scalar 2) ∷ []) (scalar 9)) 0 A 4 (scalar 9) with_A)
    (is_assigned (vector (1 ∷ 2 ∷ 3 ∷ [])) opening)

-- A[4]←9: at the arrow, and A stays
no_fourth : meaning_of (assign_at 0 A 1 (last (given (value (number 2 4)))) 3 4 (value (number 5 9))) with_A ≡ failed Index 4 with_A
unfolding assign_at_result
no_fourth = ap (λ found. assign_at_outcome_of (assign_at_result with_A.origin found (Some (scalar 4) ∷ []) (scalar 9)) 0 A 4 (scalar 9) with_A)
    (is_assigned (vector (1 ∷ 2 ∷ 3 ∷ [])) opening)

-- B[1]←9: at the name
nothing_to_change : meaning_of (assign_at 0 (codes "B") 1 (last (given (value (number 2 1)))) 3 4 (value (number 5 9))) opening ≡ failed Value 0 opening
unfolding assign_at_result
nothing_to_change = ap (λ found. assign_at_outcome_of (assign_at_result opening.origin found (Some (scalar 1) ∷ []) (scalar 9)) 0 (codes "B") 4 (scalar 9) opening)
    (has_none (codes "B"))
