-- Doubled quotes.
use Rattle.std.proofs.Common.{◌≡◌, ◌++◌, ◌∷◌, [], List, refl, sym, ◌∙◌, ap, inl, inr, ◌⊎◌, ℕ, Bool, true, false, eqb→eq}
use Rattle.std.specs.Bool.{passes}
use Rattle.std.proofs.lemmas.List.{append-nil}
use Rattle.apl_tokens.specs.Symbols.{quote, is_quote}
use Rattle.apl_tokens.specs.Lexis.{BeginsWithNo, doubled}

doubled_case : (c : ℕ) (cs : List ℕ) → ((c ≡ quote) × (doubled (c ∷ cs) ≡ quote ∷ quote ∷ doubled cs)) ⊎ ((is_quote c ≡ false) × (doubled (c ∷ cs) ≡ c ∷ doubled cs))
doubled_case c cs = by_test (is_quote c) refl
  where
    by_test : (b : Bool) → is_quote c ≡ b → ((c ≡ quote) × (doubled (c ∷ cs) ≡ quote ∷ quote ∷ doubled cs)) ⊎ ((is_quote c ≡ false) × (doubled (c ∷ cs) ≡ c ∷ doubled cs))
    by_test true e = inl (eqb→eq c quote (passes (is_quote c) e), rw e refl)
    by_test false e = inr (e, rw e refl)

-- a quote that is followed by none closes
closes : (d : ℕ) (ds a y : List ℕ) → BeginsWithNo is_quote a → quote ∷ a ≡ doubled (d ∷ ds) ++ y → ⊥
closes d ds a y ends e = by_case (doubled_case d ds)
  where
    second : (a z : List ℕ) → BeginsWithNo is_quote a → a ≡ quote ∷ z → ⊥
    second [] z ends e = absurd cc
    second (c ∷ cs) z ends e =
        let same : c ≡ quote = cc in
        let bad : is_quote quote ≡ false = ap is_quote (sym same) ∙ ends in
        absurd cc

    by_case : ((d ≡ quote) × (doubled (d ∷ ds) ≡ quote ∷ quote ∷ doubled ds)) ⊎ ((is_quote d ≡ false) × (doubled (d ∷ ds) ≡ d ∷ doubled ds)) → ⊥
    by_case (inl (is, two)) =
        let whole : quote ∷ a ≡ quote ∷ quote ∷ (doubled ds ++ y) = e ∙ ap (λ x. x ++ y) two in
        let tail : a ≡ quote ∷ (doubled ds ++ y) = cc in
        second a (doubled ds ++ y) ends tail
    by_case (inr (not, one)) =
        let whole : quote ∷ a ≡ d ∷ (doubled ds ++ y) = e ∙ ap (λ x. x ++ y) one in
        let same : quote ≡ d = cc in
        let bad : is_quote quote ≡ false = ap is_quote same ∙ not in
        absurd cc

-- one character less on each side
heads : (c d : ℕ) (cs ds x y : List ℕ) → doubled (c ∷ cs) ++ x ≡ doubled (d ∷ ds) ++ y → (c ≡ d) × (doubled cs ++ x ≡ doubled ds ++ y)
heads c d cs ds x y e = by_cases (doubled_case c cs) (doubled_case d ds)
  where
    mixed : (c d : ℕ) (xs ys : List ℕ) → c ≡ quote → is_quote d ≡ false → c ∷ xs ≡ d ∷ ys → ⊥
    mixed c d xs ys is not e =
        let same : d ≡ c = cc in
        let bad : is_quote quote ≡ false = ap is_quote (sym is ∙ sym same) ∙ not in
        absurd cc

    by_cases : ((c ≡ quote) × (doubled (c ∷ cs) ≡ quote ∷ quote ∷ doubled cs)) ⊎ ((is_quote c ≡ false) × (doubled (c ∷ cs) ≡ c ∷ doubled cs))
        → ((d ≡ quote) × (doubled (d ∷ ds) ≡ quote ∷ quote ∷ doubled ds)) ⊎ ((is_quote d ≡ false) × (doubled (d ∷ ds) ≡ d ∷ doubled ds))
        → (c ≡ d) × (doubled cs ++ x ≡ doubled ds ++ y)
    by_cases (inl (is, two)) (inl (is', two')) =
        let whole : quote ∷ quote ∷ (doubled cs ++ x) ≡ quote ∷ quote ∷ (doubled ds ++ y) = sym (ap (λ z. z ++ x) two) ∙ e ∙ ap (λ z. z ++ y) two' in
        (is ∙ sym is', cc)
    by_cases (inl (is, two)) (inr (not, one)) = absurd (mixed quote d (quote ∷ (doubled cs ++ x)) (doubled ds ++ y) refl not (sym (ap (λ z. z ++ x) two) ∙ e ∙ ap (λ z. z ++ y) one))
    by_cases (inr (not, one)) (inl (is, two)) = absurd (mixed quote c (quote ∷ (doubled ds ++ y)) (doubled cs ++ x) refl not (sym (ap (λ z. z ++ y) two) ∙ sym e ∙ ap (λ z. z ++ x) one))
    by_cases (inr (not, one)) (inr (not', one')) =
        let whole : c ∷ (doubled cs ++ x) ≡ d ∷ (doubled ds ++ y) = sym (ap (λ z. z ++ x) one) ∙ e ∙ ap (λ z. z ++ y) one' in
        (cc, cc)

conses : (c d : ℕ) (cs ds : List ℕ) → c ≡ d → cs ≡ ds → ◌≡◌ {A = List ℕ} (c ∷ cs) (d ∷ ds)
conses c d cs ds p q = cc

-- characters between quotes are one list
pub one_doubled : (cs ds a b : List ℕ) → BeginsWithNo is_quote a → BeginsWithNo is_quote b → doubled cs ++ (quote ∷ a) ≡ doubled ds ++ (quote ∷ b) → (cs ≡ ds) × (a ≡ b)
one_doubled [] [] a b p q e = (refl, cc)
one_doubled [] (d ∷ ds) a b p q e = absurd (closes d ds a (quote ∷ b) p e)
one_doubled (c ∷ cs) [] a b p q e = absurd (closes c cs b (quote ∷ a) q (sym e))
one_doubled (c ∷ cs) (d ∷ ds) a b p q e =
    let same = heads c d cs ds (quote ∷ a) (quote ∷ b) e in
    let rest = one_doubled cs ds a b p q same.1 in
    (conses c d cs ds same.0 rest.0, rest.1)

no_nil : (d : ℕ) (ds y : List ℕ) → [] ≡ doubled (d ∷ ds) ++ y → ⊥
no_nil d ds y e = by_case (doubled_case d ds)
  where
    by_case : ((d ≡ quote) × (doubled (d ∷ ds) ≡ quote ∷ quote ∷ doubled ds)) ⊎ ((is_quote d ≡ false) × (doubled (d ∷ ds) ≡ d ∷ doubled ds)) → ⊥
    by_case (inl (is, two)) =
        let none : [] ≡ quote ∷ quote ∷ (doubled ds ++ y) = e ∙ ap (λ x. x ++ y) two in
        absurd cc
    by_case (inr (not, one)) =
        let none : [] ≡ d ∷ (doubled ds ++ y) = e ∙ ap (λ x. x ++ y) one in
        absurd cc

-- characters alone have no closing quote
doubled_is_open : (cs ds b : List ℕ) → BeginsWithNo is_quote b → doubled cs ++ [] ≡ doubled ds ++ (quote ∷ b) → ⊥
doubled_is_open [] [] b q e = absurd cc
doubled_is_open [] (d ∷ ds) b q e = no_nil d ds (quote ∷ b) e
doubled_is_open (c ∷ cs) [] b q e = closes c cs b [] q (sym e)
doubled_is_open (c ∷ cs) (d ∷ ds) b q e = doubled_is_open cs ds b q (heads c d cs ds [] (quote ∷ b) e).1

pub no_quotation : (text cs ds b : List ℕ) → text ≡ doubled cs → BeginsWithNo is_quote b → text ≡ doubled ds ++ (quote ∷ b) → ⊥
no_quotation text cs ds b is ends e = doubled_is_open cs ds b ends (append-nil (doubled cs) ∙ sym is ∙ e)

pub doubled-append : (cs ds : List ℕ) → doubled (cs ++ ds) ≡ doubled cs ++ doubled ds
doubled-append [] ds = refl
doubled-append (c ∷ cs) ds = by_case (doubled-append cs ds) (doubled_case c (cs ++ ds)) (doubled_case c cs)
  where
    mixed : c ≡ quote → is_quote c ≡ false → ⊥
    mixed is not =
        let bad : is_quote quote ≡ false = ap is_quote (sym is) ∙ not in
        absurd cc

    by_case : doubled (cs ++ ds) ≡ doubled cs ++ doubled ds
        → ((c ≡ quote) × (doubled (c ∷ (cs ++ ds)) ≡ quote ∷ quote ∷ doubled (cs ++ ds))) ⊎ ((is_quote c ≡ false) × (doubled (c ∷ (cs ++ ds)) ≡ c ∷ doubled (cs ++ ds)))
        → ((c ≡ quote) × (doubled (c ∷ cs) ≡ quote ∷ quote ∷ doubled cs)) ⊎ ((is_quote c ≡ false) × (doubled (c ∷ cs) ≡ c ∷ doubled cs))
        → doubled (c ∷ (cs ++ ds)) ≡ doubled (c ∷ cs) ++ doubled ds
    by_case h (inl (is, two)) (inl (is', two')) = two ∙ ap (λ x. quote ∷ quote ∷ x) h ∙ sym (ap (λ x. x ++ doubled ds) two')
    by_case h (inl (is, two)) (inr (not, one)) = absurd (mixed is not)
    by_case h (inr (not, one)) (inl (is, two)) = absurd (mixed is not)
    by_case h (inr (not, one)) (inr (not', one')) = one ∙ ap (λ x. c ∷ x) h ∙ sym (ap (λ x. x ++ doubled ds) one')
