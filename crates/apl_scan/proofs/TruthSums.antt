-- The sum of truth values, and of one more.
use Rattle.std.proofs.Common.{◌≡◌, ℕ, ℤ, pos, negsuc, neg_ℤ, ◌+◌, ◌<◌, ◌+ℤ◌, ◌-ℤ◌, ◌≤ℤ◌, int_le, Bool, true, false, true≢false, cond, not, ◌&&◌, List, [], ◌∷◌, ◌++◌, length, Result, Ok, Err, refl, sym, ap, ◌∙◌, arith}
use Rattle.std.proofs.lemmas.Int.{ints}
use Rattle.std.proofs.lemmas.List.{length_push}
use Rattle.apl_array.specs.Array.{bit}
use Rattle.apl_array.specs.Range.{in_range}
use Rattle.apl_pool.specs.declared.kernel.Fault.{Fault}
use Rattle.apl_pool.specs.declared.kernel.Fault.TheVariants.{Limit}
use Rattle.apl_pool.specs.declared.kernel.TheConstants.{MOST_PLACES}
use Rattle.apl_pool.specs.Summaries.{and_then, fold_onto}
use Rattle.apl_scalar.specs.Scalar.{dyadic_numbers}
use Rattle.apl_summary.specs.Constants.{signed_function}
use Rattle.apl_summary.specs.Fronts.{signed_total}
use Rattle.apl_scan.specs.TruthLines.{IsTruthSum}
use Rattle.apl_scan.proofs.Joins.{fold_append}

abbrev signed : Bool → ℤ → ℤ → Result ℤ Fault
signed is_plus = dyadic_numbers (signed_function is_plus)

-- what a number makes of the one on its right
abbrev of_pair : Bool → ℤ → ℤ → ℤ
of_pair is_plus x right = cond is_plus (x +ℤ right) (x -ℤ right)

true_le : (a b : ℤ) → a ≤ℤ b → int_le a b ≡ true
true_le a b h = grind (arith, ints)

both : (a b : Bool) → a ≡ true → b ≡ true → a && b ≡ true
both true b p q = q
both false b p q = absurd (cc)

in_range_true : (v : ℤ) → negsuc 9223372036854775807 ≤ℤ v → v ≤ℤ pos 9223372036854775807 → in_range v ≡ true
in_range_true v low high = both _ _ (true_le _ _ low) (true_le _ _ high)

signed_ok : (is_plus : Bool) (x right : ℤ) → in_range (of_pair is_plus x right) ≡ true → signed is_plus x right ≡ Ok (of_pair is_plus x right)
signed_ok true x right e = ap (λ (b : Bool). cond b (Ok (x +ℤ right)) (Err Limit)) e
signed_ok false x right e = ap (λ (b : Bool). cond b (Ok (x -ℤ right)) (Err Limit)) e

-- the sign after one more number
abbrev pub next_sign : (is_plus is_negated : Bool) → Bool
next_sign is_plus is_negated = not is_plus && not is_negated

plus_stays : (is_plus is_negated : Bool) → is_plus ≡ true → next_sign is_plus is_negated ≡ false
plus_stays true is_negated e = refl
plus_stays false is_negated e = absurd (true≢false (sym e))

total_behind : (is_plus is_negated : Bool) (total x right : ℤ) → (is_plus ≡ true → is_negated ≡ false)
    → signed_total is_negated total (of_pair is_plus x right) ≡ signed_total (next_sign is_plus is_negated) (signed_total is_negated total x) right
total_behind true true total x right only_plus = absurd (true≢false (only_plus refl))
total_behind true false total x right only_plus = omega (arith, ints)
total_behind false true total x right only_plus = omega (arith, ints)
total_behind false false total x right only_plus = omega (arith, ints)

record IsBit (x : ℤ) : Type 0 where
  pub low : pos 0 ≤ℤ x
  pub high : x ≤ℤ pos 1

is_bit : (truth : Bool) → IsBit (bit truth)
is_bit true = record { low = omega (arith, ints); high = omega (arith, ints) }
is_bit false = record { low = omega (arith, ints); high = omega (arith, ints) }

-- the total is at most the count
record IsWithin (count : ℕ) (total : ℤ) : Type 0 where
  pub least : neg_ℤ (pos count) ≤ℤ total
  pub greatest : total ≤ℤ pos count

within_next : (is_negated : Bool) (count more : ℕ) (total x : ℤ) → more ≡ count + 1 → IsBit x → neg_ℤ (pos count) ≤ℤ total → total ≤ℤ pos count → IsWithin more (signed_total is_negated total x)
within_next true count more total x is b least greatest = record { least = omega (arith, ints, is, b.low, b.high, least); greatest = omega (arith, ints, is, b.low, b.high, greatest) }
within_next false count more total x is b least greatest = record { least = omega (arith, ints, is, b.low, b.high, least); greatest = omega (arith, ints, is, b.low, b.high, greatest) }

-- how far from 0 a number may be, before one more truth value
abbrev slack : ℕ → ℤ
slack count = pos 4611686018427387904 -ℤ pos count

record IsNear (count : ℕ) (v : ℤ) : Type 0 where
  pub low : neg_ℤ (slack count) ≤ℤ v
  pub high : v ≤ℤ slack count

near_next : (is_plus : Bool) (count more : ℕ) (x right : ℤ) → more ≡ count + 1 → IsBit x → neg_ℤ (slack more) ≤ℤ right → right ≤ℤ slack more → IsNear count (of_pair is_plus x right)
near_next true count more x right is b low high = record { low = omega (arith, ints, is, b.low, b.high, low); high = omega (arith, ints, is, b.low, b.high, high) }
near_next false count more x right is b low high = record { low = omega (arith, ints, is, b.low, b.high, high); high = omega (arith, ints, is, b.low, b.high, low) }

near_in : (count : ℕ) (v : ℤ) → IsNear count v → in_range v ≡ true
near_in count v near = in_range_true v (omega (arith, ints, near.low)) (omega (arith, ints, near.high))

module _ (is_plus is_negated : Bool) (total : ℤ) (truth : Bool) (xs : List ℤ) (is : IsTruthSum is_plus is_negated total xs) where
  -- the total with one more truth value is that of all of these, which is their fold
  pub sum_value : length xs < MOST_PLACES → fold_onto (signed is_plus) xs (bit truth) ≡ Ok (signed_total is_negated total (bit truth))
  sum_value few = let b = is_bit truth in is.sum.adds (bit truth) (omega (arith, ints, few, b.low)) (omega (arith, ints, few, b.high))

  pub sum_next : IsTruthSum is_plus (next_sign is_plus is_negated) (signed_total is_negated total (bit truth)) (xs ++ bit truth ∷ [])
  sum_next =
      let x = bit truth in
      let b = is_bit truth in
      let more : length (xs ++ x ∷ []) ≡ length xs + 1 = length_push xs x in
      let within = within_next is_negated (length xs) (length (xs ++ x ∷ [])) total x more b is.least is.greatest in
      record {
        least = within.least;
        greatest = within.greatest;
        sum = record {
          only_plus = plus_stays is_plus is_negated;
          adds = λ right low high.
              let v = of_pair is_plus x right in
              let near = near_next is_plus (length xs) (length (xs ++ x ∷ [])) x right more b low high in
              fold_append (signed is_plus) xs (x ∷ []) right
              ∙ ap (λ o. and_then o (fold_onto (signed is_plus) xs)) (signed_ok is_plus x right (near_in (length xs) v near))
              ∙ is.sum.adds v near.low near.high
              ∙ ap (λ (z : ℤ). Ok z) (total_behind is_plus is_negated total x right is.sum.only_plus);
        };
      }
