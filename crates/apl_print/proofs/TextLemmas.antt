-- Characters as bytes.
use Rattle.std.proofs.Common.{◌≡◌, ℕ, ◌+◌, ◌-◌, suc, ℤ, pos, negsuc, true, false, cond, List, [], ◌∷◌, ◌++◌, length, replicate, Result, Ok, Err, sym, ap, ◌∙◌, append_assoc, append-nil, arith}
use Rattle.std.specs.Prelude.{decimal, unsigned_abs, int_lt, IsAscii, encode_utf8, encode_utf8_all, OnOk, is_ok}
use Rattle.std.proofs.lemmas.Str.{encodes-append, encodes-IsAscii}
use Rattle.std.proofs.lemmas.Bool.{true≢false, ltb-true}
use Rattle.std.proofs.lemmas.List.{replicate_more}
use Rattle.apl_print.specs.Text.{high_minus, blanks}
use Rattle.apl_print.specs.Shown.{numeral_of, padded}

-- one more of the same character
pub encodes_more : (old : List ℕ) (c n : ℕ) → (old ++ encode_utf8_all (replicate n c)) ++ encode_utf8 c ≡ old ++ encode_utf8_all (replicate (n + 1) c)
encodes_more old c n =
    append_assoc old (encode_utf8_all (replicate n c)) (encode_utf8 c)
    ∙ ap (λ last. old ++ (encode_utf8_all (replicate n c) ++ last)) (sym (append-nil (encode_utf8 c)))
    ∙ ap (λ bytes. old ++ bytes) (sym (encodes-append (replicate n c) (c ∷ [])) ∙ ap encode_utf8_all (replicate_more n c))

-- two texts, one after the other
pub encodes_after : (old s t : List ℕ) → (old ++ encode_utf8_all s) ++ encode_utf8_all t ≡ old ++ encode_utf8_all (s ++ t)
encodes_after old s t = append_assoc old (encode_utf8_all s) (encode_utf8_all t) ∙ ap (λ bytes. old ++ bytes) (sym (encodes-append s t))

pub encode_one : (c : ℕ) → encode_utf8 c ≡ encode_utf8_all (c ∷ [])
encode_one c = sym (append-nil (encode_utf8 c))

-- the bytes of a numeral
pub numeral_pos : (old : List ℕ) (n : ℕ) → IsAscii (decimal n) → old ++ decimal n ≡ old ++ encode_utf8_all (numeral_of (pos n))
numeral_pos old n ascii = ap (λ bytes. old ++ bytes) (sym (encodes-IsAscii (decimal n) ascii))

pub numeral_negsuc : (old : List ℕ) (n : ℕ) → IsAscii (decimal (suc n)) → (old ++ encode_utf8 high_minus) ++ decimal (suc n) ≡ old ++ encode_utf8_all (numeral_of (negsuc n))
numeral_negsuc old n ascii =
    append_assoc old (encode_utf8 high_minus) (decimal (suc n))
    ∙ ap (λ bytes. old ++ (encode_utf8 high_minus ++ bytes)) (sym (encodes-IsAscii (decimal (suc n)) ascii))

pub nonnegative_pushed : (old new : List ℕ) (z : ℤ) → int_lt z (pos 0) ≡ false → new ≡ old → IsAscii (decimal (unsigned_abs z)) → new ++ decimal (unsigned_abs z) ≡ old ++ encode_utf8_all (numeral_of z)
nonnegative_pushed old new (pos n) sign same ascii = ap (λ bytes. bytes ++ decimal n) same ∙ numeral_pos old n ascii
nonnegative_pushed old new (negsuc n) sign same ascii = absurd (true≢false sign)

pub negative_pushed : (old new : List ℕ) (z : ℤ) → int_lt z (pos 0) ≡ true → new ≡ old ++ encode_utf8 high_minus → IsAscii (decimal (unsigned_abs z)) → new ++ decimal (unsigned_abs z) ≡ old ++ encode_utf8_all (numeral_of z)
negative_pushed old new (pos n) sign minus ascii = absurd (omega (arith, ltb-true n 0 sign))
negative_pushed old new (negsuc n) sign minus ascii = ap (λ bytes. bytes ++ decimal (suc n)) minus ∙ numeral_negsuc old n ascii

pub on_ok : {T E P : Type 0} (result : Result T E) → P → OnOk result P
on_ok (Ok value) p = p
on_ok (Err error) p = tt

-- what `push` and `push_str` say, where they succeed
pub pushed_on_ok : {T E : Type 0} (result : Result T E) (new old more : List ℕ) → new ≡ cond (is_ok result) (old ++ more) old → OnOk result (new ≡ old ++ more)
pushed_on_ok (Ok value) new old more bytes = bytes
pushed_on_ok (Err error) new old more bytes = tt

-- the three parts of a field
pub field_pushed : (lead : ℕ → List ℕ) (old one two three field : List ℕ) (width n padding : ℕ)
    → one ≡ old ++ encode_utf8_all (lead n) → two ≡ one ++ encode_utf8_all (blanks padding) → three ≡ two ++ encode_utf8_all field
    → padding ≡ width - length field → n ≡ length (padded width field)
    → three ≡ old ++ encode_utf8_all (lead (length (padded width field)) ++ padded width field)
field_pushed lead old one two three field width n padding first second third is_padding is_length =
    third ∙ ap (λ bytes. bytes ++ encode_utf8_all field) (second ∙ ap (λ bytes. bytes ++ encode_utf8_all (blanks padding)) first)
    ∙ ap (λ bytes. bytes ++ encode_utf8_all field) (encodes_after old (lead n) (blanks padding))
    ∙ encodes_after old (lead n ++ blanks padding) field
    ∙ ap (λ text. old ++ encode_utf8_all text) (append_assoc (lead n) (blanks padding) field)
    ∙ ap (λ m. old ++ encode_utf8_all (lead n ++ (blanks m ++ field))) is_padding
    ∙ ap (λ m. old ++ encode_utf8_all (lead m ++ padded width field)) is_length
