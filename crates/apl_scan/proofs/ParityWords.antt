-- Words of truth values, and their running parities.
use Rattle.std.proofs.Common.{◌≡◌, ℕ, zero, suc, ◌+◌, ◌*◌, ◌/◌, ◌%◌, ◌<◌, ◌≤◌, Bool, true, false, not, List, [], ◌∷◌, length, nat_eq, get_or, refl, ap, ◌∙◌, arith}
use Rattle.std.specs.Int.{bit_at}
use Rattle.std.specs.Int.Bits.{bit_and, bit_xor}
use Rattle.std.proofs.lemmas.Nat.Bits.{bit_at_and, bit_at_xor}
use mir.Val.{bool_byte}
use Rattle.apl_scan.specs.Parities.{unequal, parity, parities, digit, spread, word_of}

-- ---- the word

digit_most : (t : Bool) → digit t ≤ 1
digit_most true = omega arith
digit_most false = omega arith

byte_is : (t : Bool) → bool_byte t ≡ digit t
byte_is true = refl
byte_is false = refl

-- what holds at each byte of a word
each_byte : (P : ℕ → Type 0) → P 0 → P 1 → P 2 → P 3 → P 4 → P 5 → P 6 → P 7 → (j : ℕ) → j < 8 → P j
each_byte P p0 p1 p2 p3 p4 p5 p6 p7 zero within = p0
each_byte P p0 p1 p2 p3 p4 p5 p6 p7 (suc zero) within = p1
each_byte P p0 p1 p2 p3 p4 p5 p6 p7 (suc (suc zero)) within = p2
each_byte P p0 p1 p2 p3 p4 p5 p6 p7 (suc (suc (suc zero))) within = p3
each_byte P p0 p1 p2 p3 p4 p5 p6 p7 (suc (suc (suc (suc zero)))) within = p4
each_byte P p0 p1 p2 p3 p4 p5 p6 p7 (suc (suc (suc (suc (suc zero))))) within = p5
each_byte P p0 p1 p2 p3 p4 p5 p6 p7 (suc (suc (suc (suc (suc (suc zero)))))) within = p6
each_byte P p0 p1 p2 p3 p4 p5 p6 p7 (suc (suc (suc (suc (suc (suc (suc zero))))))) within = p7
each_byte P p0 p1 p2 p3 p4 p5 p6 p7 (suc (suc (suc (suc (suc (suc (suc (suc j)))))))) within = absurd (omega (arith, within))

-- what holds of any eight truth values holds of a list of so many
of_eight : (P : List Bool → Type 0) → ((a b c d e f g h : Bool) → P (a ∷ b ∷ c ∷ d ∷ e ∷ f ∷ g ∷ h ∷ [])) → (truths : List Bool) → length truths ≡ 8 → P truths
of_eight P p (a ∷ b ∷ c ∷ d ∷ e ∷ f ∷ g ∷ h ∷ []) eight = p a b c d e f g h
of_eight P p [] eight = absurd (omega (arith, eight))
of_eight P p (a ∷ []) eight = absurd (omega (arith, eight))
of_eight P p (a ∷ b ∷ []) eight = absurd (omega (arith, eight))
of_eight P p (a ∷ b ∷ c ∷ []) eight = absurd (omega (arith, eight))
of_eight P p (a ∷ b ∷ c ∷ d ∷ []) eight = absurd (omega (arith, eight))
of_eight P p (a ∷ b ∷ c ∷ d ∷ e ∷ []) eight = absurd (omega (arith, eight))
of_eight P p (a ∷ b ∷ c ∷ d ∷ e ∷ f ∷ []) eight = absurd (omega (arith, eight))
of_eight P p (a ∷ b ∷ c ∷ d ∷ e ∷ f ∷ g ∷ []) eight = absurd (omega (arith, eight))
of_eight P p (a ∷ b ∷ c ∷ d ∷ e ∷ f ∷ g ∷ h ∷ i ∷ more) eight = absurd (omega (arith, eight))

pub word_is : (truths : List Bool) → length truths ≡ 8 → bool_byte (get_or truths 0 false) + 256 * bool_byte (get_or truths 1 false) + 65536 * bool_byte (get_or truths 2 false) + 16777216 * bool_byte (get_or truths 3 false) + 4294967296 * bool_byte (get_or truths 4 false) + 1099511627776 * bool_byte (get_or truths 5 false) + 281474976710656 * bool_byte (get_or truths 6 false) + 72057594037927936 * bool_byte (get_or truths 7 false) ≡ word_of truths
word_is = of_eight (λ truths. bool_byte (get_or truths 0 false) + 256 * bool_byte (get_or truths 1 false) + 65536 * bool_byte (get_or truths 2 false) + 16777216 * bool_byte (get_or truths 3 false) + 4294967296 * bool_byte (get_or truths 4 false) + 1099511627776 * bool_byte (get_or truths 5 false) + 281474976710656 * bool_byte (get_or truths 6 false) + 72057594037927936 * bool_byte (get_or truths 7 false) ≡ word_of truths)
    (λ a b c d e f g h. omega (arith, byte_is a, byte_is b, byte_is c, byte_is d, byte_is e, byte_is f, byte_is g, byte_is h))

-- ---- the sums of its bytes

-- how many of the first are true
abbrev total : ℕ → List Bool → ℕ
total zero truths = 0
total (suc k) [] = 0
total (suc k) (t ∷ ts) = digit t + total k ts

module _ (a b c d e f g h : Bool) where
  -- byte j is the sum of the first j + 1
  abbrev sums : ℕ
  sums = digit a + 256 * ((digit a + digit b) + 256 * ((digit a + digit b + digit c) + 256 * ((digit a + digit b + digit c + digit d) + 256 * ((digit a + digit b + digit c + digit d + digit e) + 256 * ((digit a + digit b + digit c + digit d + digit e + digit f) + 256 * ((digit a + digit b + digit c + digit d + digit e + digit f + digit g) + 256 * ((digit a + digit b + digit c + digit d + digit e + digit f + digit g + digit h))))))))

  product : word_of (a ∷ b ∷ c ∷ d ∷ e ∷ f ∷ g ∷ h ∷ []) * 72340172838076673 ≡ sums + 18446744073709551616 * ((digit b + digit c + digit d + digit e + digit f + digit g + digit h) + 256 * ((digit c + digit d + digit e + digit f + digit g + digit h) + 256 * ((digit d + digit e + digit f + digit g + digit h) + 256 * ((digit e + digit f + digit g + digit h) + 256 * ((digit f + digit g + digit h) + 256 * ((digit g + digit h) + 256 * (digit h)))))))
  product = omega arith

  small : sums < 18446744073709551616
  small = omega (arith, digit_most a, digit_most b, digit_most c, digit_most d, digit_most e, digit_most f, digit_most g, digit_most h)

  left : word_of (a ∷ b ∷ c ∷ d ∷ e ∷ f ∷ g ∷ h ∷ []) * 72340172838076673 % 18446744073709551616 ≡ sums
  left = omega (arith, product, small)

  bit_0 : sums / 1 % 2 ≡ (digit a + 0) % 2
  bit_0 = omega (arith, digit_most a, digit_most b, digit_most c, digit_most d, digit_most e, digit_most f, digit_most g, digit_most h)

  bit_1 : sums / 256 % 2 ≡ (digit a + (digit b + 0)) % 2
  bit_1 = omega (arith, digit_most a, digit_most b, digit_most c, digit_most d, digit_most e, digit_most f, digit_most g, digit_most h)

  bit_2 : sums / 65536 % 2 ≡ (digit a + (digit b + (digit c + 0))) % 2
  bit_2 = omega (arith, digit_most a, digit_most b, digit_most c, digit_most d, digit_most e, digit_most f, digit_most g, digit_most h)

  bit_3 : sums / 16777216 % 2 ≡ (digit a + (digit b + (digit c + (digit d + 0)))) % 2
  bit_3 = omega (arith, digit_most a, digit_most b, digit_most c, digit_most d, digit_most e, digit_most f, digit_most g, digit_most h)

  bit_4 : sums / 4294967296 % 2 ≡ (digit a + (digit b + (digit c + (digit d + (digit e + 0))))) % 2
  bit_4 = omega (arith, digit_most a, digit_most b, digit_most c, digit_most d, digit_most e, digit_most f, digit_most g, digit_most h)

  bit_5 : sums / 1099511627776 % 2 ≡ (digit a + (digit b + (digit c + (digit d + (digit e + (digit f + 0)))))) % 2
  bit_5 = omega (arith, digit_most a, digit_most b, digit_most c, digit_most d, digit_most e, digit_most f, digit_most g, digit_most h)

  bit_6 : sums / 281474976710656 % 2 ≡ (digit a + (digit b + (digit c + (digit d + (digit e + (digit f + (digit g + 0))))))) % 2
  bit_6 = omega (arith, digit_most a, digit_most b, digit_most c, digit_most d, digit_most e, digit_most f, digit_most g, digit_most h)

  bit_7 : sums / 72057594037927936 % 2 ≡ (digit a + (digit b + (digit c + (digit d + (digit e + (digit f + (digit g + (digit h + 0)))))))) % 2
  bit_7 = omega (arith, digit_most a, digit_most b, digit_most c, digit_most d, digit_most e, digit_most f, digit_most g, digit_most h)

  sum_bits : (j : ℕ) → j < 8 → bit_at (word_of (a ∷ b ∷ c ∷ d ∷ e ∷ f ∷ g ∷ h ∷ []) * 72340172838076673 % 18446744073709551616) (8 * j) ≡ total (suc j) (a ∷ b ∷ c ∷ d ∷ e ∷ f ∷ g ∷ h ∷ []) % 2
  sum_bits =
      each_byte (λ j. bit_at (word_of (a ∷ b ∷ c ∷ d ∷ e ∷ f ∷ g ∷ h ∷ []) * 72340172838076673 % 18446744073709551616) (8 * j) ≡ total (suc j) (a ∷ b ∷ c ∷ d ∷ e ∷ f ∷ g ∷ h ∷ []) % 2)
      (ap (λ n. n / 1 % 2) left ∙ bit_0)
      (ap (λ n. n / 256 % 2) left ∙ bit_1)
      (ap (λ n. n / 65536 % 2) left ∙ bit_2)
      (ap (λ n. n / 16777216 % 2) left ∙ bit_3)
      (ap (λ n. n / 4294967296 % 2) left ∙ bit_4)
      (ap (λ n. n / 1099511627776 % 2) left ∙ bit_5)
      (ap (λ n. n / 281474976710656 % 2) left ∙ bit_6)
      (ap (λ n. n / 72057594037927936 % 2) left ∙ bit_7)

  last_of_word : (before d : Bool) → get_or (parities before (a ∷ b ∷ c ∷ d ∷ e ∷ f ∷ g ∷ h ∷ [])) 7 d ≡ parity before (a ∷ b ∷ c ∷ d ∷ e ∷ f ∷ g ∷ h ∷ [])
  last_of_word before d = refl

sum_bit : (truths : List Bool) → length truths ≡ 8 → (j : ℕ) → j < 8 → bit_at (word_of truths * 72340172838076673 % 18446744073709551616) (8 * j) ≡ total (suc j) truths % 2
sum_bit = of_eight (λ truths. (j : ℕ) → j < 8 → bit_at (word_of truths * 72340172838076673 % 18446744073709551616) (8 * j) ≡ total (suc j) truths % 2) sum_bits

pub last_is : (before d : Bool) (truths : List Bool) → length truths ≡ 8 → get_or (parities before truths) 7 d ≡ parity before truths
last_is before d = of_eight (λ truths. get_or (parities before truths) 7 d ≡ parity before truths) (λ a b c d e f g h. last_of_word a b c d e f g h before d)

-- ---- which of them are odd

odd_next : (n : ℕ) (x t : Bool) → n % 2 ≡ digit x → (n + digit t) % 2 ≡ digit (unequal x t)
odd_next n true true is = omega (arith, is)
odd_next n true false is = omega (arith, is)
odd_next n false true is = omega (arith, is)
odd_next n false false is = omega (arith, is)

runs : (n : ℕ) (before : Bool) → n % 2 ≡ digit before → (truths : List Bool) (j : ℕ) (d : Bool) → j < length truths → (n + total (suc j) truths) % 2 ≡ digit (get_or (parities before truths) j d)
runs n before is [] j d within = absurd (omega (arith, within))
runs n before is (t ∷ ts) zero d within = omega (arith, odd_next n before t is)
runs n before is (t ∷ ts) (suc j) d within = omega (arith, runs (n + digit t) (unequal before t) (odd_next n before t is) ts j d (omega (arith, within)))

same_parity : (n : ℕ) (t : Bool) → n ≡ digit t → nat_eq n 1 ≡ t
same_parity n true is = ap (λ m. nat_eq m 1) is
same_parity n false is = ap (λ m. nat_eq m 1) is

one_bit : (j : ℕ) → j < 8 → bit_at 72340172838076673 (8 * j) ≡ 1
one_bit = each_byte (λ j. bit_at 72340172838076673 (8 * j) ≡ 1) refl refl refl refl refl refl refl refl

spread_bit : (odd : Bool) (j : ℕ) → j < 8 → bit_at (spread odd) (8 * j) ≡ digit odd
spread_bit true = each_byte (λ j. bit_at 18446744073709551615 (8 * j) ≡ 1) refl refl refl refl refl refl refl refl
spread_bit false = each_byte (λ j. bit_at 0 (8 * j) ≡ 0) refl refl refl refl refl refl refl refl

-- bit 8 j of the sums, turned if the parity before them is odd
pub parity_bit : (odd : Bool) (word before : ℕ) (truths : List Bool) (j : ℕ) (d : Bool) → before ≡ spread odd → length truths ≡ 8 → word ≡ word_of truths → j < 8
    → nat_eq (bit_at (bit_and (bit_xor (word * 72340172838076673 % 18446744073709551616) before) 72340172838076673) (8 * j)) 1 ≡ get_or (parities odd truths) j d
parity_bit odd word before truths j d turned eight is within =
    let sums = word * 72340172838076673 % 18446744073709551616 in
    let of_sums : bit_at sums (8 * j) ≡ total (suc j) truths % 2 = ap (λ n. bit_at (n * 72340172838076673 % 18446744073709551616) (8 * j)) is ∙ sum_bit truths eight j within in
    let of_before : bit_at before (8 * j) ≡ digit odd = ap (λ n. bit_at n (8 * j)) turned ∙ spread_bit odd j within in
    let both = bit_at_and (bit_xor sums before) 72340172838076673 (8 * j) in
    let either = bit_at_xor sums before (8 * j) in
    let run = runs (digit odd) odd (even_or_odd odd) truths j d (omega (arith, within, eight)) in
    same_parity _ _ (both ∙ omega (arith, either, of_sums, of_before, one_bit j within, run))
  where
    even_or_odd : (t : Bool) → digit t % 2 ≡ digit t
    even_or_odd true = refl
    even_or_odd false = refl

-- whether it is spread
pub is_spread : (before : ℕ) (odd : Bool) → before ≡ spread odd → not (nat_eq before 0) ≡ odd
is_spread before true is = ap (λ n. not (nat_eq n 0)) is
is_spread before false is = ap (λ n. not (nat_eq n 0)) is
