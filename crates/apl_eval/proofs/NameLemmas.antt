-- A hash map's names as a finite map, and maps laid over one another.
use Rattle.std.proofs.Common.{Result, Ok, Err, OnOk, OnErr, IfErr, IsSome, ◌≡◌, ◌≤◌, ◌+◌, ℕ, List, [], ◌∷◌, ◌++◌, length, map, Option, Some, None, refl, sym, ap, ◌∙◌, subst, arith, Bor, ◌⊎◌, inl, inr}
use Rattle.std.specs.Prelude.{is_some, Bool, true, false, cond, string_bytes, String, option_map, option_copied, MatchOption, string_eq, bytes_eq}
use Rattle.std.specs.Ordering.{nat_cmp, eq_by_cmp}
use Rattle.std.specs.Cmp.Lexicographic.{slice_cmp, nat_list_cmp_total}
use Rattle.std.specs.Cmp.{eq_by_cmp_equiv}
use Rattle.std.specs.FinMap.{find, entries, get, insert, empty, get-from_entries, get-entries, get-insert, get-empty, same_map, slice_cmp-IsAntisymmetric, nat_cmp-IsAntisymmetric}
use Rattle.std.specs.HashMap.{HashMap, get_by_text, IsUnique, UpdatesBy, WritesThrough, spare}
use Rattle.std.specs.HashMap.{get as hash_get}
use Rattle.std.specs.Map.{lookup, keys_of}
use Rattle.std.specs.List.{IsDistinct, AllByRecursion}
use Rattle.std.specs.declared.rc.Rc.{Rc}
use Rattle.std.proofs.lemmas.Slice.Eq.{bytes_eq-Decides}
use Rattle.std.proofs.lemmas.Map.Text.{is_eq-slice_cmp, hash_map_updates_text}
use Rattle.apl_array.specs.Array.{ArrayValue}
use Rattle.apl_answer.specs.declared.fault.OpFault.{OpFault}
use Rattle.apl_answer.specs.declared.fault.OpFault.TheVariants as faults
use Rattle.apl_answer.specs.Pointwise.{IsAnswerOf}
use Rattle.apl_eval.specs.Workspace.{NameValues}
use Rattle.apl_print.specs.declared.reports.Report.{Report}
use Rattle.apl_eval.specs.declared.functions.FunctionRefusal.{FunctionRefusal}
use Rattle.apl_eval.specs.declared.functions.FunctionRefusal.TheVariants.{Error}
use Rattle.apl_eval.specs.Functions.{result_of}
use Rattle.apl_eval.specs.Refusals.{refusal_of, Answers}
use Rattle.apl_eval.specs.Names.{named, names_in, overlaid}

abbrev pub or_else : Option ArrayValue → Option ArrayValue → Option ArrayValue
or_else (Some v) other = Some v
or_else None other = other

-- equal names, as the finite map tells them
abbrev pub is_name : List ℕ → List ℕ → Bool
is_name a b = eq_by_cmp (slice_cmp nat_cmp) a b

is_name_comm : (a b : List ℕ) → is_name a b ≡ is_name b a
is_name_comm a b = (eq_by_cmp_equiv nat_list_cmp_total).symm a b

-- maps that answer alike are equal
pub same_names : (m n : NameValues) → ((q : List ℕ) → get m q ≡ get n q) → m ≡ n
same_names = same_map nat_list_cmp_total (slice_cmp-IsAntisymmetric nat_cmp-IsAntisymmetric)

pub get-insert_name : (m : NameValues) (k : List ℕ) (v : ArrayValue) (q : List ℕ) → get (insert m k v) q ≡ cond (is_name q k) (Some v) (get m q)
get-insert_name = get-insert nat_list_cmp_total

find-append : (es fs : List (List ℕ × ArrayValue)) (q : List ℕ) → find (slice_cmp nat_cmp) q (es ++ fs) ≡ or_else (find (slice_cmp nat_cmp) q es) (find (slice_cmp nat_cmp) q fs)
find-append [] fs q = refl
find-append (e ∷ es) fs q =
    elim (is_name q e.0) as (λ b. cond b (Some e.1) (find (slice_cmp nat_cmp) q (es ++ fs)) ≡ or_else (cond b (Some e.1) (find (slice_cmp nat_cmp) q es)) (find (slice_cmp nat_cmp) q fs)) [ true ↦ refl | false ↦ find-append es fs q ]

pub get-overlaid : (s m : NameValues) (q : List ℕ) → get (overlaid s m) q ≡ or_else (get s q) (get m q)
get-overlaid s m q =
    get-from_entries nat_list_cmp_total (entries s ++ entries m) q ∙ find-append (entries s) (entries m) q
    ∙ (λ i. or_else (sym (get-entries s q) i) (sym (get-entries m q) i))

pub get-overlaid_first : (s m : NameValues) (q : List ℕ) (v : ArrayValue) → get s q ≡ Some v → get (overlaid s m) q ≡ Some v
get-overlaid_first s m q v e = get-overlaid s m q ∙ ap (λ o. or_else o (get m q)) e

pub get-overlaid_second : {Z : Type 0} (s m : NameValues) (q : List ℕ) (r : Option (Bor (Rc ArrayValue Z))) → get s q ≡ None → MatchOption r (get m q ≡ None) (λ v. get m q ≡ Some v.now.value)
    → MatchOption r (get (overlaid s m) q ≡ None) (λ v. get (overlaid s m) q ≡ Some v.now.value)
get-overlaid_second s m q None e is = get-overlaid s m q ∙ ap (λ x. or_else x (get m q)) e ∙ is
get-overlaid_second s m q (Some v) e is = get-overlaid s m q ∙ ap (λ x. or_else x (get m q)) e ∙ is

pub overlaid-empty : (m : NameValues) → overlaid empty m ≡ m
overlaid-empty m = same_names _ m (λ q. get-overlaid empty m q ∙ ap (λ o. or_else o (get m q)) (get-empty (slice_cmp nat_cmp) q))

or_else-none : (o : Option ArrayValue) → or_else o None ≡ o
or_else-none (Some v) = refl
or_else-none None = refl

pub overlaid-nothing : (m : NameValues) → overlaid m empty ≡ m
overlaid-nothing m = same_names _ m (λ q. get-overlaid m empty q ∙ ap (or_else (get m q)) (get-empty (slice_cmp nat_cmp) q) ∙ or_else-none (get m q))

-- a name that gets the value that it has
pub insert_same : (m : NameValues) (k : List ℕ) (v : ArrayValue) → get m k ≡ Some v → insert m k v ≡ m
insert_same m k v has = same_names _ m (λ q. get-insert_name m k v q ∙ by_test q (is_name q k) refl)
  where
    by_test : (q : List ℕ) (b : Bool) → is_name q k ≡ b → cond b (Some v) (get m q) ≡ get m q
    by_test q true e =
        let same : q ≡ k = (bytes_eq-Decides q k).0 (sym (is_eq-slice_cmp q k) ∙ e) in
        sym has ∙ ap (get m) (sym same)
    by_test q false e = refl

pub get-insert_own : (m : NameValues) (k : List ℕ) (v : ArrayValue) → get (insert m k v) k ≡ Some v
get-insert_own m k v = get-insert_name m k v k ∙ ap (λ b. cond b (Some v) (get m k)) ((eq_by_cmp_equiv nat_list_cmp_total).refl k)

-- ---- a line that shares what a workspace has

pub shared_first : {Z : Type 0} (s m : NameValues) (q : List ℕ) (r : Option (Bor (Rc ArrayValue Z))) → MatchOption r (get s q ≡ None) (λ v. get s q ≡ Some v.now.value) → is_some r ≡ true → get s q ≡ get (overlaid s m) q
shared_first s m q None is some = absurd cc
shared_first s m q (Some v) is some = is ∙ sym (get-overlaid_first s m q v.now.value is)

pub only_second : {Z : Type 0} (s m : NameValues) (q : List ℕ) (v : ArrayValue) (r : Option (Bor (Rc ArrayValue Z))) → MatchOption r (get s q ≡ None) (λ v. get s q ≡ Some v.now.value) → is_some r ≡ false → get m q ≡ Some v → get (overlaid s m) q ≡ Some v
only_second s m q v None none some there = get-overlaid s m q ∙ ap (λ o. or_else o (get m q)) none ∙ there
only_second s m q v (Some x) none some there = absurd cc

pub none_second : (s m : NameValues) (q : List ℕ) → get m q ≡ None → get s q ≡ get (overlaid s m) q
none_second s m q none = sym (get-overlaid s m q ∙ ap (or_else (get s q)) none ∙ or_else-none (get s q))

-- ---- what is refused

pub refused : (wanted : Result ArrayValue OpFault) (fault : OpFault) → IsAnswerOf wanted (Err fault) → Answers (result_of wanted) (Err (refusal_of fault))
refused wanted fault (inl is) = subst (λ answer. Answers (result_of answer) (Err (refusal_of fault))) is (own fault)
  where
    own : (fault : OpFault) → Answers (result_of (Err fault)) (Err (refusal_of fault))
    own faults.Rank = refl
    own faults.Length = refl
    own faults.Index = refl
    own faults.Domain = refl
    own faults.Limit = refl
    own faults.Memory = tt
refused wanted faults.Memory (inr is) = tt
refused wanted faults.Rank (inr is) = absurd cc
refused wanted faults.Length (inr is) = absurd cc
refused wanted faults.Index (inr is) = absurd cc
refused wanted faults.Domain (inr is) = absurd cc
refused wanted faults.Limit (inr is) = absurd cc

pub told : {X : Type 0} (wanted : Result ArrayValue Report) (r : Result X FunctionRefusal) (report : Report) → r ≡ Err (Error report) → IfErr r (λ refusal. Answers wanted (Err refusal)) → wanted ≡ Err report
told wanted r report is h = subst (λ r. IfErr r (λ refusal. Answers wanted (Err refusal))) is h

pub err_of : {X : Type 0} (r : Result X FunctionRefusal) (f g : Result ArrayValue Report) → f ≡ g → IfErr r (λ refusal. Answers f (Err refusal)) → IfErr r (λ refusal. Answers g (Err refusal))
err_of r f g same h = subst (λ wanted. IfErr r (λ refusal. Answers wanted (Err refusal))) same h

pub at_err : {X E P : Type 0} (r : Result X E) (e : E) → r ≡ Err e → OnErr r P → P
at_err {P = P} r e is h = subst (λ r. OnErr r P) is h

pub on_ok : {X E P Q : Type 0} (r : Result X E) → (P → Q) → OnOk r P → OnOk r Q
on_ok (Ok x) f h = f h
on_ok (Err e) f h = h

pub on_err : {X E P Q : Type 0} (r : Result X E) → (P → Q) → OnErr r P → OnErr r Q
on_err (Ok x) f h = h
on_err (Err e) f h = f h

or_else-cond : (b : Bool) (v : ArrayValue) (o p : Option ArrayValue) → or_else (cond b (Some v) o) p ≡ cond b (Some v) (or_else o p)
or_else-cond true v o p = refl
or_else-cond false v o p = refl

pub overlaid-insert : (s m : NameValues) (k : List ℕ) (v : ArrayValue) → overlaid (insert s k v) m ≡ insert (overlaid s m) k v
overlaid-insert s m k v = same_names _ _ (λ q.
    get-overlaid (insert s k v) m q ∙ ap (λ o. or_else o (get m q)) (get-insert_name s k v q) ∙ or_else-cond (is_name q k) v (get s q) (get m q)
    ∙ sym (get-insert_name (overlaid s m) k v q ∙ ap (cond (is_name q k) (Some v)) (get-overlaid s m q)))

abbrev pub text_is : {Y : Type 0} → List ℕ → String Y → Bool
text_is q k = bytes_eq q (string_bytes k)

abbrev pub value_in : {Z : Type 0} → Rc ArrayValue Z → ArrayValue
value_in r = r.value

find-named : {Y Z : Type 0} (es : List (String Y × Rc ArrayValue Z)) (q : List ℕ) → find (slice_cmp nat_cmp) q (map named es) ≡ option_map value_in (lookup (text_is q) es)
find-named [] q = refl
find-named (e ∷ es) q =
    ap (λ b. cond b (Some e.1.value) (find (slice_cmp nat_cmp) q (map named es))) (is_eq-slice_cmp q (string_bytes e.0))
    ∙ elim (text_is q e.0) as (λ b. cond b (Some e.1.value) (find (slice_cmp nat_cmp) q (map named es)) ≡ option_map value_in (cond b (Some e.1) (lookup (text_is q) es))) [ true ↦ refl | false ↦ find-named es q ]

option_map-cond : {Z : Type 0} (b : Bool) (v : Rc ArrayValue Z) (o : Option (Rc ArrayValue Z)) → option_map value_in (cond b (Some v) o) ≡ cond b (Some v.value) (option_map value_in o)
option_map-cond true v o = refl
option_map-cond false v o = refl

-- some key has this text, or no key is found
key_or_none : {Y Z : Type 0} (es : List (String Y × Rc ArrayValue Z)) (q : List ℕ) → ((k : String Y) × (string_bytes k ≡ q)) ⊎ (lookup (text_is q) es ≡ None)
key_or_none [] q = inr refl
key_or_none {Y} (e ∷ es) q =
    elim (text_is q e.0) as (λ b. text_is q e.0 ≡ b → ((k : String Y) × (string_bytes k ≡ q)) ⊎ (cond b (Some e.1) (lookup (text_is q) es) ≡ None)) [
      | true ↦ λ is. inl (e.0, sym ((bytes_eq-Decides q (string_bytes e.0)).0 is))
      | false ↦ λ is. key_or_none es q
    ] refl

-- a text that is a key's is found in no later entry
none_later : {Y Z : Type 0} (k : String Y) (es : List (String Y × Rc ArrayValue Z)) → AllByRecursion (λ y. string_eq k y ≡ false) (keys_of es) → lookup (text_is (string_bytes k)) es ≡ None
none_later k [] h = refl
none_later k (e ∷ es) h = ap (λ b. cond b (Some e.1) (lookup (text_is (string_bytes k)) es)) h.0 ∙ none_later k es h.1

later : {Y : Type 0} (k : String Y) (ks : List (String Y)) → IsDistinct string_eq (k ∷ ks) → AllByRecursion (λ y. string_eq k y ≡ false) ks × IsDistinct string_eq ks
unfolding IsDistinct
later k ks h = h

one_more : {Z : Type 0} (b : Bool) (v : Rc ArrayValue Z) (o : Option (Rc ArrayValue Z)) (p : Option ArrayValue) → (b ≡ true → o ≡ None) → or_else (option_map value_in o) (cond b (Some v.value) p) ≡ or_else (option_map value_in (cond b (Some v) o)) p
one_more true v o p h = ap (λ x. or_else (option_map value_in x) (Some v.value)) (h refl)
one_more false v o p h = refl

module _ {Y Z S : Type 0} where
  pub get-names_in : (m : HashMap (String Y) (Rc ArrayValue Z) S) (q : List ℕ) → get (names_in m) q ≡ option_map value_in (get_by_text m q)
  get-names_in m q = get-from_entries nat_list_cmp_total (map named m.entries) q ∙ find-named m.entries q

  -- a key put into the hash map
  pub names_in-updates : (m n : HashMap (String Y) (Rc ArrayValue Z) S) (k : List ℕ) (v : Rc ArrayValue Z) → UpdatesBy string_eq (text_is k) m n (Some v) → names_in n ≡ insert (names_in m) k v.value
  names_in-updates m n k v h = same_names _ _ (λ q.
      get-names_in n q ∙ ap (option_map value_in) (hash_map_updates_text k m n (Some v) h q) ∙ option_map-cond (bytes_eq k q) v (get_by_text m q)
      ∙ ap (λ b. cond b (Some v.value) (option_map value_in (get_by_text m q))) (sym (is_eq-slice_cmp k q) ∙ is_name_comm k q)
      ∙ sym (get-insert_name (names_in m) k v.value q ∙ ap (cond (is_name q k) (Some v.value)) (get-names_in m q)))

  -- what a look-up lends
  pub found_value : (m : HashMap (String Y) (Rc ArrayValue Z) S) (q : List ℕ) (r : Option (Bor (Rc ArrayValue Z))) → option_copied r ≡ get_by_text m q → MatchOption r (get (names_in m) q ≡ None) (λ v. get (names_in m) q ≡ Some v.now.value)
  found_value m q None e = get-names_in m q ∙ ap (option_map value_in) (sym e)
  found_value m q (Some v) e = get-names_in m q ∙ ap (option_map value_in) (sym e)

  pub found_here : (m : HashMap (String Y) (Rc ArrayValue Z) S) (k : List ℕ) (held : Rc ArrayValue Z) → Some held ≡ get_by_text m k → get (names_in m) k ≡ Some held.value
  found_here m k held found = get-names_in m k ∙ ap (option_map value_in) (sym found)

  -- a value written through what a look-up lent
  pub names_in-written : (m n : HashMap (String Y) (Rc ArrayValue Z) S) (k : List ℕ) (held v : Rc ArrayValue Z) → Some held ≡ get_by_text m k → WritesThrough string_eq (text_is k) m v n → names_in n ≡ insert (names_in m) k v.value
  names_in-written m n k held v found h = names_in-updates m n k v (h.3 (subst IsSome found refl))

  -- nothing is changed by the value that is there
  pub names_in-unwritten : (m n : HashMap (String Y) (Rc ArrayValue Z) S) (k : List ℕ) (held v : Rc ArrayValue Z) → Some held ≡ get_by_text m k → v.value ≡ held.value → WritesThrough string_eq (text_is k) m v n → names_in n ≡ names_in m
  names_in-unwritten m n k held v found same h =
      names_in-written m n k held v found h ∙ ap (insert (names_in m) k) same ∙ insert_same (names_in m) k held.value (found_here m k held found)

  pub not_found : (m : HashMap (String Y) (Rc ArrayValue Z) S) (k : List ℕ) → None ≡ get_by_text m k → get (names_in m) k ≡ None
  not_found m k none = get-names_in m k ∙ ap (option_map value_in) (sym none)

  -- entries in another order
  text_reordered : (m n : HashMap (String Y) (Rc ArrayValue Z) S) → ((k : String Y) → hash_get string_eq n k ≡ hash_get string_eq m k) → (q : List ℕ) → get_by_text n q ≡ get_by_text m q
  text_reordered m n h q =
      let at : (k : String Y) → string_bytes k ≡ q → get_by_text n q ≡ get_by_text m q = λ k e. subst (λ t. get_by_text n t ≡ get_by_text m t) e (h k) in
      elim (key_or_none n.entries q) [
        | inl w ↦ at w.0 w.1
        | inr none ↦ elim (key_or_none m.entries q) [ inl w ↦ at w.0 w.1 | inr also ↦ none ∙ sym also ]
      ]

  pub names_in-reordered : (m n : HashMap (String Y) (Rc ArrayValue Z) S) → ((k : String Y) → hash_get string_eq n k ≡ hash_get string_eq m k) → names_in n ≡ names_in m
  names_in-reordered m n h = same_names _ _ (λ q. get-names_in n q ∙ ap (option_map value_in) (text_reordered m n h q) ∙ sym (get-names_in m q))

  -- what the loop keeps that moves staged names in: those that are left are over the names so far
  pub record Keeps (all : NameValues) (rest : List (String Y × Rc ArrayValue Z)) (names : HashMap (String Y) (Rc ArrayValue Z) S) : Type 0 where
    pub room : length rest ≤ spare names
    pub unique : IsDistinct string_eq (keys_of rest)
    pub same : (q : List ℕ) → or_else (option_map value_in (lookup (text_is q) rest)) (get (names_in names) q) ≡ get all q

  pub Keeps-start : (staged : HashMap (String Y) (Rc ArrayValue Z) S) (names : HashMap (String Y) (Rc ArrayValue Z) S) → length staged.entries ≤ spare names → IsUnique string_eq staged → Keeps (overlaid (names_in staged) (names_in names)) staged.entries names
  Keeps-start staged names room unique = record {
    room = room;
    unique = unique;
    same = λ q. ap (λ o. or_else o (get (names_in names) q)) (sym (get-names_in staged q)) ∙ sym (get-overlaid (names_in staged) (names_in names) q);
  }

  pub Keeps-more : (all : NameValues) (k : String Y) (v : Rc ArrayValue Z) (rest : List (String Y × Rc ArrayValue Z)) (m n : HashMap (String Y) (Rc ArrayValue Z) S) → Keeps all ((k, v) ∷ rest) m → UpdatesBy string_eq (text_is (string_bytes k)) m n (Some v) → spare m ≤ spare n + 1 → Keeps all rest n
  Keeps-more all k v rest m n h updates room = record {
    room = omega (arith, h.room, room);
    unique = (later k (keys_of rest) h.unique).1;
    same = λ q.
        let here : get (names_in n) q ≡ cond (text_is q k) (Some v.value) (get (names_in m) q) =
        ap (λ x. get x q) (names_in-updates m n (string_bytes k) v updates) ∙ get-insert_name (names_in m) (string_bytes k) v.value q
        ∙ ap (λ b. cond b (Some v.value) (get (names_in m) q)) (is_eq-slice_cmp q (string_bytes k)) in
        let none : text_is q k ≡ true → lookup (text_is q) rest ≡ None =
        λ e. subst (λ t. lookup (text_is t) rest ≡ None) (sym ((bytes_eq-Decides q (string_bytes k)).0 e)) (none_later k rest (later k (keys_of rest) h.unique).0) in
        ap (or_else (option_map value_in (lookup (text_is q) rest))) here ∙ one_more (text_is q k) v (lookup (text_is q) rest) (get (names_in m) q) none ∙ h.same q;
  }

  pub Keeps-all : (all : NameValues) (m : HashMap (String Y) (Rc ArrayValue Z) S) → Keeps all [] m → names_in m ≡ all
  Keeps-all all m h = same_names _ _ h.same
