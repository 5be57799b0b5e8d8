-- One more token of a line, and its end or its fault.
use Rattle.std.proofs.Common.{◌≡◌, ◌++◌, ◌∷◌, [], List, refl, sym, ◌∙◌, ap, subst, arith, length, take, drop, ◌+◌, ◌<◌, ◌≤◌, ℕ, length-take, length-drop}
use Rattle.std.proofs.lemmas.List.{take-append-drop, drop-drop}
use Rattle.apl_tokens.specs.declared.token.Token.{Token}
use Rattle.apl_tokens.specs.declared.token.TokenKind.{TokenKind}
use Rattle.apl_tokens.specs.declared.lexer.LexicalStop.{LexicalStop}
use Rattle.apl_tokens.specs.declared.lexer.LexicalStop.TheVariants.{Syntax, Limit, Memory}
use Rattle.std.specs.Prelude.{◌==◌}
use Rattle.std.specs.Bool.{passes}
use Rattle.std.proofs.Common.{true, false, zero, suc, get_or, eqb→eq}
use Rattle.apl_tokens.specs.Symbols.{is_blank, comment_mark}
use Rattle.apl_tokens.specs.Fronts.{AllPass}
use Rattle.apl_tokens.specs.Lexis.{BeginsWithNo, IsToken, LexesUpTo, IsEnd, Lexes}
use Rattle.apl_tokens.specs.Stops.{IsLexicalStopOf}
use Rattle.apl_tokens.specs.Scans.{IsTokenAt, IsStopAt}

abbrev token_at : ℕ → TokenKind → Token
token_at column kind = record { kind = kind; column = column }

LexesUpTo-more : (c : ℕ) (s : List ℕ) (ts : List Token) (d : ℕ) (rest text gap after : List ℕ) (k : TokenKind) → LexesUpTo c s ts d rest → rest ≡ text ++ (gap ++ after) → IsToken text (gap ++ after) k → AllPass is_blank gap → BeginsWithNo is_blank after → LexesUpTo c s (ts ++ token_at d k ∷ []) (d + (length text + length gap)) after
LexesUpTo-more c s [] d rest text gap after k (g, split, blank, none, at) e token blanks ends =
    (g, text, gap ++ after, split ∙ ap (λ x. g ++ x) e, blank, at, token, (gap, refl, blanks, ends, omega arith))
LexesUpTo-more c s (t ∷ ts) d rest text gap after k (g, x, a, split, blank, col, is, more) e token blanks ends =
    (g, x, a, split, blank, col, is, LexesUpTo-more (t.column + length x) a ts d rest text gap after k more e token blanks ends)

pub LexesUpTo-start : (cs : List ℕ) (ts : List Token) (n : ℕ) → ts ≡ [] → n ≤ length cs → AllPass is_blank (take n cs) → BeginsWithNo is_blank (drop n cs) → LexesUpTo 0 cs ts n (drop n cs)
LexesUpTo-start cs ts n none within blank ends =
    subst (λ us. LexesUpTo 0 cs us n (drop n cs)) (sym none) (take n cs, sym (take-append-drop n cs), blank, ends, omega (arith, within, length-take n cs))

pub LexesUpTo-next : (cs : List ℕ) (ts us : List Token) (column len n : ℕ) (text rest : List ℕ) (k : TokenKind) → text ≡ drop column cs → rest ≡ drop (column + len) cs → us ≡ ts ++ token_at column k ∷ [] → LexesUpTo 0 cs ts column (drop column cs) → IsTokenAt text len k → n ≤ length rest → AllPass is_blank (take n rest) → BeginsWithNo is_blank (drop n rest) → LexesUpTo 0 cs us (column + len + n) (drop (column + len + n) cs)
LexesUpTo-next cs ts us column len n text rest k here past added before token within blank ends =
    let behind : drop len text ≡ rest = ap (drop len) here ∙ drop-drop len column cs ∙ sym past in
    let split : drop column cs ≡ take len text ++ (take n rest ++ drop n rest) = sym here ∙ sym (take-append-drop len text) ∙ ap (λ x. take len text ++ x) (behind ∙ sym (take-append-drop n rest)) in
    let is : IsToken (take len text) (take n rest ++ drop n rest) k = subst (λ x. IsToken (take len text) x k) (behind ∙ sym (take-append-drop n rest)) token.is in
    let more : LexesUpTo 0 cs (ts ++ token_at column k ∷ []) (column + (length (take len text) + length (take n rest))) (drop n rest) = LexesUpTo-more 0 cs ts column (drop column cs) (take len text) (take n rest) (drop n rest) k before split is blank ends in
    let place : column + (length (take len text) + length (take n rest)) ≡ column + len + n = omega (arith, token.within, within, length-take len text, length-take n rest) in
    let last : drop n rest ≡ drop (column + len + n) cs = ap (drop n) past ∙ drop-drop n (column + len) cs in
    subst (λ vs. LexesUpTo 0 cs vs (column + len + n) (drop (column + len + n) cs)) (sym added)
    (subst (λ x. LexesUpTo 0 cs (ts ++ token_at column k ∷ []) (column + len + n) x) last
    (subst (λ d. LexesUpTo 0 cs (ts ++ token_at column k ∷ []) d (drop n rest)) place more))

some_is_no_end : (cs : List ℕ) (column c : ℕ) → column < length cs → c ≡ get_or cs column c → (c == comment_mark) ≡ false → IsEnd (drop column cs) → ⊥
some_is_no_end [] column c some at not end = omega arith
some_is_no_end (d ∷ cs) zero c some at not end =
    let bad : (comment_mark == comment_mark) ≡ false = ap (λ x. x == comment_mark) (sym (at ∙ end)) ∙ not in
    absurd cc
some_is_no_end (d ∷ cs) (suc column) c some at not end = some_is_no_end cs column c (omega arith) at not end

none_left : (rest : List ℕ) → length rest ≡ 0 → IsEnd rest
none_left [] e = tt
none_left (c ∷ cs) e = absurd (omega (arith, e))

pub Lexes-end : (cs : List ℕ) (ts : List Token) (column : ℕ) → length cs ≤ column → LexesUpTo 0 cs ts column (drop column cs) → Lexes cs ts
Lexes-end cs ts column over before = (column, drop column cs, before, none_left (drop column cs) (omega (arith, over, length-drop column cs)))

comment_left : (cs : List ℕ) (column c : ℕ) → column < length cs → c ≡ get_or cs column c → (c == comment_mark) ≡ true → IsEnd (drop column cs)
comment_left [] column c some at is = absurd (omega arith)
comment_left (d ∷ cs) zero c some at is = sym at ∙ eqb→eq c comment_mark (passes (c == comment_mark) is)
comment_left (d ∷ cs) (suc column) c some at is = comment_left cs column c (omega arith) at is

pub Lexes-comment : (cs : List ℕ) (ts : List Token) (column c : ℕ) → column < length cs → c ≡ get_or cs column c → (c == comment_mark) ≡ true → LexesUpTo 0 cs ts column (drop column cs) → Lexes cs ts
Lexes-comment cs ts column c some at is before = (column, drop column cs, before, comment_left cs column c some at is)

pub stop_of : (cs : List ℕ) (ts : List Token) (column c : ℕ) (text : List ℕ) (stop : LexicalStop) → text ≡ drop column cs → column < length cs → c ≡ get_or cs column c → (c == comment_mark) ≡ false → LexesUpTo 0 cs ts column (drop column cs) → IsStopAt text column stop → IsLexicalStopOf cs stop
stop_of cs ts column c text (Syntax d) here more at not before h =
    let rest = subst (λ x. LexesUpTo 0 cs ts column x) (sym here) before in
    record {
      tokens = ts;
      rest = text;
      before = subst (λ d. LexesUpTo 0 cs ts d text) (sym h.0) rest;
      more = λ end. some_is_no_end cs column c more at not (subst IsEnd here end);
      none = h.1;
      within = h.2;
    }
stop_of cs ts column c text (Limit d) here more at not before (place, beyond, is) =
    record { tokens = ts; rest = text; start = column; place = place; before = subst (λ x. LexesUpTo 0 cs ts column x) (sym here) before; beyond = beyond; is = is }
stop_of cs ts column c text Memory here more at not before h = tt
