-- The operations of a tree determine the tree: it is built again from them, over a stack of the trees found so far.
use Rattle.std.proofs.Common.{◌≡◌, ◌++◌, ◌∷◌, [], List, Option, Some, None, refl, sym, ◌∙◌, ap, append_assoc, reverse}
use Rattle.std.specs.Prelude.{ℕ}
use Rattle.std.proofs.lemmas.List.{append-nil, reverse-append}
use Rattle.apl_grammar.specs.declared.program.Brackets.{Brackets}
use Rattle.apl_grammar.specs.declared.forms.MonadicForm.{MonadicForm}
use Rattle.apl_grammar.specs.declared.forms.DyadicForm.{DyadicForm}
use Rattle.apl_grammar.specs.declared.program.Operation.{Operation}
use Rattle.apl_grammar.specs.declared.program.Operation.TheVariants as op
use Rattle.apl_grammar.specs.Tree.{Expr, value, dyadic, monadic, assign, assign_at, Operand, constant, name, group, index, Slots, last, more, Slot, nothing, given, Axis, none, along, brackets, indexed_name, axis_brackets, semicolons, operations, operand_operations, list_operations, slot_operations, axis_operations}

-- a tree, or an empty slot
data Item : Type 0 where
  found : Expr → Item
  missing : Item

some_operand : Operand
some_operand = name 0 []

abbrev expr_of : Item → Expr
expr_of (found e) = e
expr_of missing = value some_operand

abbrev operand_in : Expr → Operand
operand_in (value o) = o
operand_in _ = some_operand

abbrev slot_in : Item → Slot
slot_in (found e) = given e
slot_in missing = nothing

abbrev item_of : Slot → Item
item_of nothing = missing
item_of (given e) = found e

abbrev top : List Item → Item
top [] = missing
top (x ∷ xs) = x

abbrev below : List Item → List Item
below [] = []
below (x ∷ xs) = xs

-- the list of slots with these columns of semicolons, from left to right, and what is below its slots
abbrev slots_in : List ℕ → List Item → Slots
slots_in [] xs = last (slot_in (top xs))
slots_in (c ∷ cs) xs = more (slot_in (top xs)) c (slots_in cs (below xs))

abbrev below_slots : List ℕ → List Item → List Item
below_slots [] xs = below xs
below_slots (c ∷ cs) xs = below_slots cs (below xs)

abbrev axis_in : Option Brackets → List Item → Axis
axis_in None xs = none
axis_in (Some b) xs = along b.left (expr_of (top xs)) b.right

abbrev below_axis : Option Brackets → List Item → List Item
below_axis None xs = xs
below_axis (Some b) xs = below xs

abbrev rebuild_one : Operation → List Item → List Item
rebuild_one (op.Constant c v) xs = found (value (constant c v)) ∷ xs
rebuild_one (op.Name c n) xs = found (value (name c n)) ∷ xs
rebuild_one (op.Group b) xs = found (value (group b.left (expr_of (top xs)) b.right)) ∷ below xs
rebuild_one op.EmptySlot xs = missing ∷ xs
rebuild_one (op.Index cs b) xs =
    found (value (index (operand_in (expr_of (top xs))) b.left (slots_in (reverse cs) (below xs)) b.right)) ∷ below_slots (reverse cs) (below xs)
rebuild_one (op.Assign c n r) xs = found (assign c n r (expr_of (top xs))) ∷ below xs
rebuild_one (op.AssignAt t) xs =
    found (assign_at t.column t.name t.brackets.left (slots_in (reverse t.semicolons) xs) t.brackets.right t.arrow (expr_of (top (below_slots (reverse t.semicolons) xs)))) ∷ below (below_slots (reverse t.semicolons) xs)
rebuild_one (op.Monadic f a) xs = found (monadic f (axis_in a xs) (expr_of (top (below_axis a xs)))) ∷ below (below_axis a xs)
rebuild_one (op.Dyadic f a) xs =
    found (dyadic (operand_in (expr_of (top xs))) f (axis_in a (below xs)) (expr_of (top (below_axis a (below xs))))) ∷ below (below_axis a (below xs))

abbrev rebuild : List Operation → List Item → List Item
rebuild [] xs = xs
rebuild (o ∷ os) xs = rebuild os (rebuild_one o xs)

abbrev items_of : Slots → List Item → List Item
items_of (last s) xs = item_of s ∷ xs
items_of (more s c ss) xs = item_of s ∷ items_of ss xs

abbrev axis_items : Axis → List Item → List Item
axis_items none xs = xs
axis_items (along l e r) xs = found e ∷ xs

-- the columns of the semicolons from left to right
abbrev columns_of : Slots → List ℕ
columns_of (last s) = []
columns_of (more s c ss) = c ∷ columns_of ss

reverse-semicolons : (s : Slots) → reverse (semicolons s) ≡ columns_of s
reverse-semicolons (last s) = refl
reverse-semicolons (more s c ss) = reverse-append (semicolons ss) (c ∷ []) ∙ ap (λ x. c ∷ x) (reverse-semicolons ss)

slot_in-item : (s : Slot) → slot_in (item_of s) ≡ s
slot_in-item nothing = refl
slot_in-item (given e) = refl

slots_in-items : (s : Slots) (xs : List Item) → slots_in (columns_of s) (items_of s xs) ≡ s
slots_in-items (last s) xs = ap last (slot_in-item s)
slots_in-items (more s c ss) xs = ap (λ x. more x c (slots_in (columns_of ss) (items_of ss xs))) (slot_in-item s) ∙ ap (λ x. more s c x) (slots_in-items ss xs)

below_slots-items : (s : Slots) (xs : List Item) → below_slots (columns_of s) (items_of s xs) ≡ xs
below_slots-items (last s) xs = refl
below_slots-items (more s c ss) xs = below_slots-items ss xs

index_one : (x : Operand) (l : ℕ) (s : Slots) (r : ℕ) (xs : List Item) → rebuild_one (op.Index (semicolons s) (brackets l r)) (found (value x) ∷ items_of s xs) ≡ found (value (index x l s r)) ∷ xs
index_one x l s r xs =
    ap (λ cs. found (value (index x l (slots_in cs (items_of s xs)) r)) ∷ below_slots cs (items_of s xs)) (reverse-semicolons s)
    ∙ ap (λ y. found (value (index x l y r)) ∷ below_slots (columns_of s) (items_of s xs)) (slots_in-items s xs)
    ∙ ap (λ y. found (value (index x l s r)) ∷ y) (below_slots-items s xs)

assign_at_one : (c : ℕ) (n : List ℕ) (l : ℕ) (s : Slots) (r a : ℕ) (e : Expr) (xs : List Item) → rebuild_one (op.AssignAt (indexed_name c n (semicolons s) (brackets l r) a)) (items_of s (found e ∷ xs)) ≡ found (assign_at c n l s r a e) ∷ xs
assign_at_one c n l s r a e xs =
    ap (λ cs. found (assign_at c n l (slots_in cs (items_of s (found e ∷ xs))) r a (expr_of (top (below_slots cs (items_of s (found e ∷ xs)))))) ∷ below (below_slots cs (items_of s (found e ∷ xs)))) (reverse-semicolons s)
    ∙ ap (λ y. found (assign_at c n l y r a (expr_of (top (below_slots (columns_of s) (items_of s (found e ∷ xs)))))) ∷ below (below_slots (columns_of s) (items_of s (found e ∷ xs)))) (slots_in-items s (found e ∷ xs))
    ∙ ap (λ y. found (assign_at c n l s r a (expr_of (top y))) ∷ below y) (below_slots-items s (found e ∷ xs))

monadic_one : (f : MonadicForm) (a : Axis) (e : Expr) (xs : List Item) → rebuild_one (op.Monadic f (axis_brackets a)) (axis_items a (found e ∷ xs)) ≡ found (monadic f a e) ∷ xs
monadic_one f none e xs = refl
monadic_one f (along l x r) e xs = refl

dyadic_one : (o : Operand) (f : DyadicForm) (a : Axis) (e : Expr) (xs : List Item) → rebuild_one (op.Dyadic f (axis_brackets a)) (found (value o) ∷ axis_items a (found e ∷ xs)) ≡ found (dyadic o f a e) ∷ xs
dyadic_one o f none e xs = refl
dyadic_one o f (along l x r) e xs = refl

mutual
  rebuild-operations : (e : Expr) (rest : List Operation) (xs : List Item) → rebuild (operations e ++ rest) xs ≡ rebuild rest (found e ∷ xs)
  rebuild-operations (value o) rest xs = rebuild-operand o rest xs
  rebuild-operations (dyadic o f a e) rest xs =
      let last_one : Operation = op.Dyadic f (axis_brackets a) in
      let regrouped : (operations e ++ (axis_operations a ++ (operand_operations o ++ last_one ∷ []))) ++ rest ≡ operations e ++ (axis_operations a ++ (operand_operations o ++ last_one ∷ rest)) = simp append_assoc in
      ap (λ x. rebuild x xs) regrouped
      ∙ rebuild-operations e (axis_operations a ++ (operand_operations o ++ last_one ∷ rest)) xs
      ∙ rebuild-axis a (operand_operations o ++ last_one ∷ rest) (found e ∷ xs)
      ∙ rebuild-operand o (last_one ∷ rest) (axis_items a (found e ∷ xs))
      ∙ ap (rebuild rest) (dyadic_one o f a e xs)
  rebuild-operations (monadic f a e) rest xs =
      let last_one : Operation = op.Monadic f (axis_brackets a) in
      let regrouped : (operations e ++ (axis_operations a ++ last_one ∷ [])) ++ rest ≡ operations e ++ (axis_operations a ++ last_one ∷ rest) = simp append_assoc in
      ap (λ x. rebuild x xs) regrouped
      ∙ rebuild-operations e (axis_operations a ++ last_one ∷ rest) xs
      ∙ rebuild-axis a (last_one ∷ rest) (found e ∷ xs)
      ∙ ap (rebuild rest) (monadic_one f a e xs)
  rebuild-operations (assign c n r e) rest xs =
      ap (λ x. rebuild x xs) (append_assoc (operations e) (op.Assign c n r ∷ []) rest)
      ∙ rebuild-operations e (op.Assign c n r ∷ rest) xs
  rebuild-operations (assign_at c n l s r a e) rest xs =
      let last_one : Operation = op.AssignAt (indexed_name c n (semicolons s) (brackets l r) a) in
      let regrouped : (operations e ++ (list_operations s ++ last_one ∷ [])) ++ rest ≡ operations e ++ (list_operations s ++ last_one ∷ rest) = simp append_assoc in
      ap (λ x. rebuild x xs) regrouped
      ∙ rebuild-operations e (list_operations s ++ last_one ∷ rest) xs
      ∙ rebuild-list s (last_one ∷ rest) (found e ∷ xs)
      ∙ ap (rebuild rest) (assign_at_one c n l s r a e xs)

  rebuild-operand : (o : Operand) (rest : List Operation) (xs : List Item) → rebuild (operand_operations o ++ rest) xs ≡ rebuild rest (found (value o) ∷ xs)
  rebuild-operand (constant c v) rest xs = refl
  rebuild-operand (name c n) rest xs = refl
  rebuild-operand (group l e r) rest xs =
      ap (λ x. rebuild x xs) (append_assoc (operations e) (op.Group (brackets l r) ∷ []) rest)
      ∙ rebuild-operations e (op.Group (brackets l r) ∷ rest) xs
  rebuild-operand (index x l s r) rest xs =
      let last_one : Operation = op.Index (semicolons s) (brackets l r) in
      let regrouped : (list_operations s ++ (operand_operations x ++ last_one ∷ [])) ++ rest ≡ list_operations s ++ (operand_operations x ++ last_one ∷ rest) = simp append_assoc in
      ap (λ y. rebuild y xs) regrouped
      ∙ rebuild-list s (operand_operations x ++ last_one ∷ rest) xs
      ∙ rebuild-operand x (last_one ∷ rest) (items_of s xs)
      ∙ ap (rebuild rest) (index_one x l s r xs)

  rebuild-list : (s : Slots) (rest : List Operation) (xs : List Item) → rebuild (list_operations s ++ rest) xs ≡ rebuild rest (items_of s xs)
  rebuild-list (last s) rest xs = rebuild-slot s rest xs
  rebuild-list (more s c ss) rest xs =
      ap (λ x. rebuild x xs) (append_assoc (list_operations ss) (slot_operations s) rest)
      ∙ rebuild-list ss (slot_operations s ++ rest) xs
      ∙ rebuild-slot s rest (items_of ss xs)

  rebuild-slot : (s : Slot) (rest : List Operation) (xs : List Item) → rebuild (slot_operations s ++ rest) xs ≡ rebuild rest (item_of s ∷ xs)
  rebuild-slot nothing rest xs = refl
  rebuild-slot (given e) rest xs = rebuild-operations e rest xs

  rebuild-axis : (a : Axis) (rest : List Operation) (xs : List Item) → rebuild (axis_operations a ++ rest) xs ≡ rebuild rest (axis_items a xs)
  rebuild-axis none rest xs = refl
  rebuild-axis (along l e r) rest xs = rebuild-operations e rest xs

rebuild_whole : (e : Expr) → rebuild (operations e) [] ≡ found e ∷ []
rebuild_whole e = ap (λ x. rebuild x []) (sym (append-nil (operations e))) ∙ rebuild-operations e [] []

-- the operations have one reading
pub operations-injective : (e f : Expr) → operations e ≡ operations f → e ≡ f
operations-injective e f same =
    let lists : ◌≡◌ {A = List Item} (found e ∷ []) (found f ∷ []) = sym (rebuild_whole e) ∙ ap (λ x. rebuild x []) same ∙ rebuild_whole f in
    cc
