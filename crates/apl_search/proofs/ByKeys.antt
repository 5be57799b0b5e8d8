-- The numbers by which the elements of an array are found.
use Rattle.std.proofs.Common.{◌≡◌, ℕ, ℤ, pos, ◌-◌, ◌<◌, ◌≤◌, List, length, map, take, drop, get_or, int_eq, refl, sym, ap, ◌∙◌, arith}
use Rattle.std.proofs.lemmas.Bool.Decides.{nat_tests}
use Rattle.std.proofs.lemmas.List.{length-map, length-take, length-drop, map-id, take-map, drop-map}
use Rattle.std.proofs.lemmas.Simd.{map-map}
use Rattle.apl_array.specs.declared.array.Elem.TheVariants.{Int, Chr}
use Rattle.apl_array.specs.declared.array.Elements.{Elements}
use Rattle.apl_array.specs.declared.array.Elements.TheVariants.{Numbers, Narrow, Truths, Characters}
use Rattle.apl_array.specs.declared.array.Kind.{Kind}
use Rattle.apl_array.specs.declared.array.Kind.TheVariants.{Number, Character}
use Rattle.apl_array.specs.Array.{ArrayValue, bit, element_in, truth_element}
use Rattle.apl_array.specs.Elements.{AreElementsOf}
use Rattle.apl_search.specs.Finding.{element_of, first_place}
use Rattle.apl_search.specs.Keys.{keys_in}
use Rattle.apl_search.specs.Searching.{is_same_element}
use Rattle.apl_search.specs.Tables.{place_of, AreReplies}
use Rattle.apl_search.proofs.FirstPlaces.{place_at_key}
use Rattle.apl_search.proofs.Searches.{number_or_character}

-- there are as many as elements
pub keys_long : (a : ArrayValue) (elements : Elements) → AreElementsOf a elements → length (keys_in elements) ≡ length a.ravel
keys_long a (Numbers numbers) are = sym (length-map numbers.now Int) ∙ ap (λ v. length v.ravel) (sym are)
keys_long a (Narrow numbers) are = sym (length-map numbers.now Int) ∙ ap (λ v. length v.ravel) (sym are)
keys_long a (Truths truths) are = length-map truths.now bit ∙ sym (length-map truths.now truth_element) ∙ ap (λ v. length v.ravel) (sym are)
keys_long a (Characters characters) are = length-map characters.now pos ∙ sym (length-map characters.now Chr) ∙ ap (λ v. length v.ravel) (sym are)

-- numbers are found by themselves
number_keys : (a : ArrayValue) (elements : Elements) → AreElementsOf a elements → a.kind ≡ Number → a.ravel ≡ map Int (keys_in elements)
number_keys a (Numbers numbers) are kind = ap (λ v. v.ravel) are
number_keys a (Narrow numbers) are kind = ap (λ v. v.ravel) are
number_keys a (Truths truths) are kind = ap (λ v. v.ravel) are ∙ sym (map-map Int bit truths.now)
number_keys a (Characters characters) are kind = absurd (number_or_character (sym kind ∙ ap (λ v. v.kind) are))

-- characters are found by their codes
character_keys : (a : ArrayValue) (elements : Elements) → AreElementsOf a elements → a.kind ≡ Character
    → (codes : List ℕ) × (a.ravel ≡ map Chr codes) × (keys_in elements ≡ map pos codes)
character_keys a (Numbers numbers) are kind = absurd (number_or_character (sym (ap (λ v. v.kind) are) ∙ kind))
character_keys a (Narrow numbers) are kind = absurd (number_or_character (sym (ap (λ v. v.kind) are) ∙ kind))
character_keys a (Truths truths) are kind = absurd (number_or_character (sym (ap (λ v. v.kind) are) ∙ kind))
character_keys a (Characters characters) are kind = (characters.now, ap (λ v. v.ravel) are, refl)

by_number : (list xs : List ℤ) (k : ℕ) → k < length xs → first_place (map Int list) (element_of (map Int xs) k) ≡ place_of list (get_or xs k (pos 0))
by_number list xs k inside = rw (map-id list, map-id xs) at (place_at_key Int (λ n. n) (λ x y. refl) list xs k inside)

same_code : (c d : ℕ) → is_same_element (Chr c) (Chr d) ≡ int_eq (pos c) (pos d)
same_code c d = grind (arith, nat_tests)

by_code : (list xs : List ℕ) (k : ℕ) → k < length xs → first_place (map Chr list) (element_of (map Chr xs) k) ≡ place_of (map pos list) (get_or (map pos xs) k (pos 0))
by_code list xs k inside = place_at_key Chr pos same_code list xs k inside

-- in arrays of one kind, elements are found where their numbers are
place_by_keys : (kind : Kind) (a b : ArrayValue) (list elements : Elements) → AreElementsOf a list → AreElementsOf b elements → a.kind ≡ kind → b.kind ≡ kind
    → (k : ℕ) → k < length (keys_in elements) → first_place a.ravel (element_in b k) ≡ place_of (keys_in list) (get_or (keys_in elements) k (pos 0))
place_by_keys Number a b list elements of_a of_b kind_a kind_b k inside =
    rw (number_keys a list of_a kind_a, number_keys b elements of_b kind_b) (by_number (keys_in list) (keys_in elements) k inside)
place_by_keys Character a b list elements of_a of_b kind_a kind_b k inside =
    let cs = character_keys a list of_a kind_a in
    let ds = character_keys b elements of_b kind_b in
    rw (cs.1, cs.2, ds.1, ds.2) (by_code cs.0 ds.0 k (omega (arith, inside, length-map ds.0 pos, ap length ds.2)))

pub first_by_keys : (a b : ArrayValue) (list elements : Elements) → AreElementsOf a list → AreElementsOf b elements → a.kind ≡ b.kind
    → (k : ℕ) → k < length (keys_in elements) → first_place a.ravel (element_in b k) ≡ place_of (keys_in list) (get_or (keys_in elements) k (pos 0))
first_by_keys a b list elements of_a of_b same = place_by_keys b.kind a b list elements of_a of_b same refl

-- replies to a part of a list, by the numbers of all of it
pub replies_of_part : {T V : Type 0} (value : ℕ → V) (least : ℤ) (places : List ℕ) (key : T → ℤ) (xs : List T) (keys : List ℤ) (from to : ℕ) (room : List V)
    → map key xs ≡ keys → to ≤ length keys
    → AreReplies value least places (map key (take (to - from) (drop from xs))) (length (take (to - from) (drop from xs))) room
    → AreReplies value least places (take (to - from) (drop from keys)) (to - from) room
replies_of_part value least places key xs keys from to room are within written = λ numbers table k d inside.
    let part = sym (take-map key (to - from) (drop from xs)) ∙ ap (take (to - from)) (sym (drop-map key from xs) ∙ ap (drop from) are) in
    let long : to ≤ length xs = omega (arith, length-map xs key, ap length are, within) in
    let all : k < length (take (to - from) (drop from xs)) = omega (arith, inside, long, length-take (to - from) (drop from xs), length-drop from xs) in
    written numbers table k d all ∙ ap (λ ks. value (place_of numbers (get_or ks k (pos 0)))) part
