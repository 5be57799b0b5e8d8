-- One more small item on the left.
use Rattle.std.proofs.Common.{◌≡◌, ℕ, ◌+◌, Bool, true, false, true≢false, cond, not, ◌&&◌, ℤ, pos, ◌≤ℤ◌, ◌+ℤ◌, ◌-ℤ◌, refl, ap, arith}
use Rattle.std.proofs.lemmas.Int.{ints, clamps}
use Rattle.std.specs.Int.{int_min, int_max}
use Rattle.apl_summary.specs.declared.small_constants.SmallBounds.{SmallBounds}
use Rattle.apl_summary.specs.declared.small_constants.SmallConstants.{SmallConstants}
use Rattle.apl_summary.specs.Constants.{bounds, constants, constants_of_one, constants_of_both, AreConstants}
use Rattle.apl_summary.specs.SmallConstants.{widened, with_constant, IsSmallSum, AreSmallConstants}

abbrev total_of : Bool → ℤ → ℤ → ℤ
total_of is_plus x total = cond is_plus (x +ℤ total) (x -ℤ total)

abbrev pub behind : Bool → ℤ → SmallConstants → SmallConstants
behind is_plus x c =
    let neg = not is_plus && not c.is_negated in
    let total = total_of is_plus x c.total in
    record { count = c.count + 1; is_negated = neg; total = total; plus = cond neg c.plus (with_constant c.plus total); minus = cond neg (with_constant c.minus total) c.minus }

least_beside : (least x total : ℤ) → least ≤ℤ total → int_min least (x +ℤ total) ≡ int_min least (int_min (pos 0) x +ℤ total)
least_beside least x total below = omega (arith, ints, clamps, below)

greatest_beside : (greatest x total : ℤ) → total ≤ℤ greatest → int_max greatest (x +ℤ total) ≡ int_max greatest (int_max (pos 0) x +ℤ total)
greatest_beside greatest x total above = omega (arith, ints, clamps, above)

same_least : (least total : ℤ) → least ≤ℤ total → least ≡ int_min least (pos 0 +ℤ total)
same_least least total below = omega (arith, ints, clamps, below)

same_greatest : (greatest total : ℤ) → total ≤ℤ greatest → greatest ≡ int_max greatest (pos 0 +ℤ total)
same_greatest greatest total above = omega (arith, ints, clamps, above)

with_both : (n m : ℕ) (neg : Bool) (total pl pg ml mg pl2 pg2 ml2 mg2 : ℤ) → n ≡ m → pl ≡ pl2 → pg ≡ pg2 → ml ≡ ml2 → mg ≡ mg2
    → constants n neg total (bounds pl pg) (bounds ml mg) ≡ constants m neg total (bounds pl2 pg2) (bounds ml2 mg2)
with_both n m neg total pl pg ml mg pl2 pg2 ml2 mg2 count a b c d = cc

abbrev small_of : ℕ → Bool → ℤ → ℤ → ℤ → ℤ → ℤ → SmallConstants
small_of n neg total pl pg ml mg = record { count = n; is_negated = neg; total = total; plus = record { least = pl; greatest = pg }; minus = record { least = ml; greatest = mg } }

behind_by_cases : (is_plus neg : Bool) (n : ℕ) (x total pl pg ml mg : ℤ) → AreConstants is_plus (constants n neg total (bounds pl pg) (bounds ml mg))
    → widened (behind is_plus x (small_of n neg total pl pg ml mg)) ≡ constants_of_both is_plus (constants_of_one is_plus x) (constants n neg total (bounds pl pg) (bounds ml mg))
behind_by_cases true true n x total pl pg ml mg are = absurd (true≢false (are.only_plus refl).0)
behind_by_cases true false n x total pl pg ml mg are =
    let e = are.total_with_plus refl in
    with_both _ _ _ _ _ _ _ _ _ _ _ _ (omega arith) (least_beside pl x total e.0) (greatest_beside pg x total e.1) refl refl
behind_by_cases false true n x total pl pg ml mg are =
    let e = are.total_with_minus refl in
    with_both _ _ _ _ _ _ _ _ _ _ _ _ (omega arith) refl refl (same_least ml total e.0) (same_greatest mg total e.1)
behind_by_cases false false n x total pl pg ml mg are =
    let e = are.total_with_plus refl in
    with_both _ _ _ _ _ _ _ _ _ _ _ _ (omega arith) (same_least pl total e.0) (same_greatest pg total e.1) refl refl

pub behind_is : (is_plus : Bool) (x : ℤ) (c : SmallConstants) → AreConstants is_plus (widened c) → widened (behind is_plus x c) ≡ constants_of_both is_plus (constants_of_one is_plus x) (widened c)
behind_is is_plus x c are = behind_by_cases is_plus c.is_negated c.count x c.total c.plus.least c.plus.greatest c.minus.least c.minus.greatest are

-- ---- how large they are

small_total : (is_plus : Bool) (n : ℕ) (x total : ℤ) → IsSmallSum 1 x → IsSmallSum n total → IsSmallSum (n + 1) (total_of is_plus x total)
small_total true n x total a b = (omega (arith, ints, a.0, b.0), omega (arith, ints, a.1, b.1))
small_total false n x total a b = (omega (arith, ints, a.0, b.1), omega (arith, ints, a.1, b.0))

small_more : (n : ℕ) (x : ℤ) → IsSmallSum n x → IsSmallSum (n + 1) x
small_more n x a = (omega (arith, ints, a.0), omega (arith, ints, a.1))

abbrev AreSmallBounds : ℕ → SmallBounds → Type 0
AreSmallBounds n b = IsSmallSum n b.least × IsSmallSum n b.greatest

small_with : (n : ℕ) (b : SmallBounds) (x : ℤ) → AreSmallBounds n b → IsSmallSum (n + 1) x → AreSmallBounds (n + 1) (with_constant b x)
small_with n b x p q =
    ((omega (arith, ints, clamps, p.0.0, q.0), omega (arith, ints, clamps, p.0.1, q.1)), (omega (arith, ints, clamps, p.1.0, q.0), omega (arith, ints, clamps, p.1.1, q.1)))

small_unless : (n : ℕ) (t : Bool) (a b : SmallBounds) → AreSmallBounds n a → AreSmallBounds n b → AreSmallBounds n (cond t a b)
small_unless n true a b p q = p
small_unless n false a b p q = q

pub behind_small : (is_plus : Bool) (n : ℕ) (x : ℤ) (c : SmallConstants) → AreSmallConstants n c → IsSmallSum 1 x → AreSmallConstants (n + 1) (behind is_plus x c)
behind_small is_plus n x c p q =
    let neg = not is_plus && not c.is_negated in
    let total = small_total is_plus n x c.total q p.total in
    let plus : AreSmallBounds (n + 1) c.plus = (small_more n _ p.plus.0, small_more n _ p.plus.1) in
    let minus : AreSmallBounds (n + 1) c.minus = (small_more n _ p.minus.0, small_more n _ p.minus.1) in
    record {
      number_of_items = ap (λ k. k + 1) p.number_of_items;
      total = total;
      plus = small_unless (n + 1) neg c.plus (with_constant c.plus (total_of is_plus x c.total)) plus (small_with n c.plus _ p.plus total);
      minus = small_unless (n + 1) neg (with_constant c.minus (total_of is_plus x c.total)) c.minus (small_with n c.minus _ p.minus total) minus;
    }
