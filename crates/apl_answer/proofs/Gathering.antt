-- All elements or the first fault, place by place.
use Rattle.std.proofs.Common.{◌≡◌, ℕ, zero, suc, ◌<◌, List, [], ◌∷◌, length, Result, Ok, Err, get_or, refl, sym, ap, subst, arith}
use Rattle.std.specs.Prelude.{IsOk}
use Rattle.std.proofs.lemmas.Bool.{false≢true}
use Rattle.apl_array.specs.declared.array.Elem.{Elem}
use Rattle.apl_pool.specs.declared.kernel.Fault.{Fault}
use Rattle.apl_answer.specs.Pointwise.{and_first, collect_outcomes}

head_elements : (x : Elem) (r : Result (List Elem) Fault) (xs : List Elem) → and_first x r ≡ Ok xs → (ys : List Elem) × (r ≡ Ok ys) × (xs ≡ x ∷ ys)
head_elements x (Ok ys) xs is = let same : xs ≡ x ∷ ys = cc in (ys, refl, same)
head_elements x (Err fault) xs is = absurd cc

later_fault : (x : Elem) (r : Result (List Elem) Fault) (fault : Fault) → and_first x r ≡ Err fault → r ≡ Err fault
later_fault x (Ok ys) fault is = absurd cc
later_fault x (Err other) fault is = let same : other ≡ fault = cc in ap Err same

after_element : (r : Result Elem Fault) (rs : List (Result Elem Fault)) (fault : Fault) → IsOk r → collect_outcomes rs ≡ Err fault → collect_outcomes (r ∷ rs) ≡ Err fault
after_element (Ok x) rs fault ok is = rw is refl
after_element (Err other) rs fault ok is = absurd (false≢true ok)

-- `d` and `e` stand past the ends of the lists
module _ (d : Elem) (e : Result Elem Fault) where
  -- no outcome is a fault, and these are the elements
  pub record AreElements (rs : List (Result Elem Fault)) (xs : List Elem) : Type 0 where
    pub len : length xs ≡ length rs
    pub each : (k : ℕ) → k < length rs → get_or rs k e ≡ Ok (get_or xs k d)

  -- the first outcome that is a fault
  pub record IsFirst (rs : List (Result Elem Fault)) (fault : Fault) : Type 0 where
    pub place : ℕ
    pub below : place < length rs
    pub faulty : get_or rs place e ≡ Err fault
    pub earlier : (k : ℕ) → k < place → IsOk (get_or rs k e)

  pub all_from_each : (rs : List (Result Elem Fault)) (xs : List Elem) → AreElements rs xs → collect_outcomes rs ≡ Ok xs
  all_from_each [] [] all = refl
  all_from_each [] (x ∷ xs) all = absurd (omega (arith, all.len))
  all_from_each (r ∷ rs) [] all = absurd (omega (arith, all.len))
  all_from_each (r ∷ rs) (x ∷ xs) all =
      let here : r ≡ Ok x = all.each 0 (omega arith) in
      let rest = all_from_each rs xs record { len = omega (arith, all.len); each = λ k inside. all.each (suc k) (omega arith) } in
      rw (here, rest) refl

  each_after : (x : Elem) (rs : List (Result Elem Fault)) (xs : List Elem) → AreElements rs xs
      → (k : ℕ) → k < suc (length rs) → get_or (Ok x ∷ rs) k e ≡ Ok (get_or (x ∷ xs) k d)
  each_after x rs xs all zero inside = refl
  each_after x rs xs all (suc k) inside = all.each k (omega arith)

  pub each_from_all : (rs : List (Result Elem Fault)) (xs : List Elem) → collect_outcomes rs ≡ Ok xs → AreElements rs xs
  each_from_all [] [] is = record { len = refl; each = λ k inside. absurd (omega arith) }
  each_from_all [] (x ∷ xs) is = absurd cc
  each_from_all (Err fault ∷ rs) xs is = absurd cc
  each_from_all (Ok x ∷ rs) xs is =
      let head = head_elements x (collect_outcomes rs) xs is in
      let rest = each_from_all rs head.0 head.1 in
      let P : List Elem → Type 0 = λ all. AreElements (Ok x ∷ rs) all in
      subst P (sym head.2) record { len = omega (arith, rest.len); each = each_after x rs head.0 rest }

  pub first_from_least : (rs : List (Result Elem Fault)) (fault : Fault) (place : ℕ) → place < length rs → get_or rs place e ≡ Err fault
      → ((k : ℕ) → k < place → IsOk (get_or rs k e)) → collect_outcomes rs ≡ Err fault
  first_from_least [] fault place below faulty earlier = absurd (omega arith)
  first_from_least (r ∷ rs) fault zero below faulty earlier = let here : r ≡ Err fault = faulty in rw here refl
  first_from_least (r ∷ rs) fault (suc place) below faulty earlier =
      after_element r rs fault (earlier 0 (omega arith))
      (first_from_least rs fault place (omega arith) faulty (λ k before. earlier (suc k) (omega arith)))

  earlier_after : (x : Elem) (rs : List (Result Elem Fault)) (place : ℕ) → ((k : ℕ) → k < place → IsOk (get_or rs k e))
      → (k : ℕ) → k < suc place → IsOk (get_or (Ok x ∷ rs) k e)
  earlier_after x rs place earlier zero before = refl
  earlier_after x rs place earlier (suc k) before = earlier k (omega arith)

  pub least_from_first : (rs : List (Result Elem Fault)) (fault : Fault) → collect_outcomes rs ≡ Err fault → IsFirst rs fault
  least_from_first [] fault is = absurd cc
  least_from_first (Err other ∷ rs) fault is =
      let same : other ≡ fault = cc in
      record { place = 0; below = omega arith; faulty = ap Err same; earlier = λ k before. absurd (omega arith) }
  least_from_first (Ok x ∷ rs) fault is =
      let rest = least_from_first rs fault (later_fault x (collect_outcomes rs) fault is) in
      record { place = suc rest.place; below = omega (arith, rest.below); faulty = rest.faulty; earlier = earlier_after x rs rest.place rest.earlier }
