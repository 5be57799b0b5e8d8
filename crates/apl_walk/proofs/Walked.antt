-- Steps along the axes of a result.
use Rattle.std.proofs.Common.{◌≡◌, ℕ, ◌+◌, ◌-◌, ◌*◌, ◌/◌, ◌%◌, ◌<◌, List, [], ◌∷◌, ◌++◌, length, slice_index_or, refl, sym, ap, ◌∙◌, arith, inl, inr}
use Rattle.std.specs.Prelude.{Option, Some, None}
use Rattle.std.proofs.lemmas.Bool.{cases_lt}
use Rattle.std.proofs.Math.Arith.{mod-mul}
use Rattle.std.proofs.Math.Nat.{add_assoc, mod-lt, div-one, div-div-eq-div-mul, mul-le-mul_right, mul-lt-mul_of_pos_right}
use Rattle.apl_walk.specs.declared.window.Window.{Window}
use Rattle.apl_walk.specs.declared.listed.Listed.{Listed as NumberList}
use Rattle.apl_walk.specs.declared.listed.Listed.TheVariants.{Numbers, Narrow}
use Rattle.apl_walk.specs.declared.maps.Map.{Map}
use Rattle.apl_walk.specs.declared.maps.Map.TheVariants.{Window as WindowMap, Reversed, Rotated, Listed, Indexed, Repeated, Ones, Expanded}
use Rattle.apl_walk.specs.Steps.{and_step, window_step}
use Rattle.apl_walk.specs.Listed.{listed_extent}
use Rattle.apl_walk.specs.Maps.{step_of, map_extent, map_step, extent_of, walked, windows_step}
use Rattle.apl_walk.proofs.Stepped.{window_within, window_before, window_after}

pub and_step-assoc : (a b c : Option ℕ) → and_step a (and_step b c) ≡ and_step (and_step a b) c
and_step-assoc (Some l) (Some m) (Some n) = ap Some (sym (add_assoc l m n))
and_step-assoc (Some l) (Some m) None = refl
and_step-assoc (Some l) None c = refl
and_step-assoc None b c = refl

pub and_step-zero : (a : Option ℕ) → and_step a (Some 0) ≡ a
and_step-zero (Some m) = ap Some (omega arith)
and_step-zero None = refl

-- one axis has all indexes
pub walked_one : (maps : List Map) (only : Map) (place : ℕ) (step : Option ℕ) → length maps ≡ 1 → only ≡ slice_index_or maps 0 only
    → step ≡ map_step only (place % map_extent only) → step ≡ walked maps place
walked_one [] only place step one is value = absurd (omega arith)
walked_one (m ∷ []) only place step one is value = value ∙ ap (λ n. map_step n (place % map_extent n)) is ∙ sym (and_step-zero (map_step m (place % map_extent m)))
walked_one (m ∷ n ∷ maps) only place step one is value = absurd (omega arith)

zero-and_step : (a : Option ℕ) → and_step (Some 0) a ≡ a
zero-and_step (Some m) = ap Some (omega arith)
zero-and_step None = refl

-- ---- two windows as one

whole_step : (w : Window) (i : ℕ) → w.from ≡ 0 → w.start ≡ 0 → w.to ≡ w.extent → i < w.extent → Some (i * w.stride) ≡ step_of w i
whole_step w i from start to inside =
    let step : i ≡ i + w.start - w.from = omega (arith, from, start) in
    ap (λ s. Some (s * w.stride)) step ∙ sym (window_within w.from w.to w.start w.stride i (omega (arith, from)) (omega (arith, to, inside)))

-- an index on an axis whose steps are of e indexes each, and the rest
joined_window : (from to start e t q r : ℕ) → r < e
    → window_step (from * e) (to * e) (start * e) t (q * e + r) ≡ and_step (Some (r * t)) (window_step from to start (t * e) q)
joined_window from to start e t q r rest =
    let place = q * e + r in
    let inner = and_step (Some (r * t)) in
    elim (cases_lt q from) [
      | inl before ↦
          let next = mul-le-mul_right {m = q + 1} {n = from} e (omega (arith, before)) in
          window_before (from * e) (to * e) (start * e) t place (omega (arith, rest, next)) ∙ ap inner (sym (window_before from to start (t * e) q before))
      | inr low ↦
          let wide = mul-le-mul_right {m = from} {n = q} e low in
          elim (cases_lt q to) [
            | inl high ↦
                let next = mul-le-mul_right {m = q + 1} {n = to} e (omega (arith, high)) in
                let step = q + start - from in
                let whole : q + start ≡ step + from = omega (arith, low) in
                let times : q * e + start * e ≡ step * e + from * e = omega (arith, ap (λ n. n * e) whole) in
                let less : place + start * e - from * e ≡ step * e + r = omega (arith, times) in
                window_within (from * e) (to * e) (start * e) t place (omega (arith, wide)) (omega (arith, rest, next))
                ∙ ap Some (ap (λ n. n * t) less ∙ omega arith) ∙ ap inner (sym (window_within from to start (t * e) q low high))
            | inr after ↦
                let past = mul-le-mul_right {m = to} {n = q} e after in
                window_after (from * e) (to * e) (start * e) t place (omega (arith, wide)) (omega (arith, past)) ∙ ap inner (sym (window_after from to start (t * e) q low after))
          ]
    ]

-- a whole inner axis and the one before it as one axis
pub joined_step : (outer inner : Window) (place : ℕ) → inner.from ≡ 0 → inner.start ≡ 0 → inner.to ≡ inner.extent → outer.stride ≡ inner.stride * inner.extent
    → window_step (outer.from * inner.extent) (outer.to * inner.extent) (outer.start * inner.extent) inner.stride (place % (outer.extent * inner.extent)) ≡ windows_step outer inner place
joined_step outer inner place from start to stride =
    let e = inner.extent in
    let q = place / e % outer.extent in
    let r = place % e in
    let rest : r < e = mod-lt place inner.extent_some in
    ap (window_step (outer.from * e) (outer.to * e) (outer.start * e) inner.stride) (mod-mul place outer.extent_some inner.extent_some)
    ∙ joined_window outer.from outer.to outer.start e inner.stride q r rest
    ∙ ap (λ s. and_step s (window_step outer.from outer.to outer.start (inner.stride * e) q)) (whole_step inner r from start to rest)
    ∙ ap (λ t. and_step (step_of inner r) (window_step outer.from outer.to outer.start t q)) (sym stride)

listed_some : (l : NumberList) → 0 < listed_extent l
listed_some (Numbers l) = l.count_some
listed_some (Narrow l) = l.count_some

pub map_some : (m : Map) → 0 < map_extent m
map_some (WindowMap w) = w.extent_some
map_some (Reversed r) = r.some
map_some (Rotated r) = r.some
map_some (Listed l) = listed_some l
map_some (Indexed l) = l.count_some
map_some (Ones o) = o.some
map_some (Expanded e) = e.some
map_some (Repeated r) = omega (arith, mul-lt-mul_of_pos_right {m = 0} {n = r.axis_length} {k = r.times} r.length_some r.times_some)

-- ---- one more axis

pub extent_some : (ws : List Map) → 0 < extent_of ws
extent_some [] = omega arith
extent_some (w ∷ ws) = omega (arith, mul-lt-mul_of_pos_right {m = 0} {n = map_extent w} {k = extent_of ws} (map_some w) (extent_some ws))

pub extent_of-snoc : (ws : List Map) (w : Map) → extent_of (ws ++ w ∷ []) ≡ map_extent w * extent_of ws
extent_of-snoc [] w = refl
extent_of-snoc (v ∷ vs) w = omega (arith, ap (λ n. map_extent v * n) (extent_of-snoc vs w))

pub walked-snoc : (ws : List Map) (w : Map) (place : ℕ)
    → walked (ws ++ w ∷ []) place ≡ and_step (walked ws place) (map_step w (place / extent_of ws % map_extent w))
walked-snoc [] w place =
    and_step-zero (map_step w (place % map_extent w)) ∙ ap (λ p. map_step w (p % map_extent w)) (sym (div-one place))
    ∙ sym (zero-and_step (map_step w (place / 1 % map_extent w)))
walked-snoc (v ∷ vs) w place =
    let own = map_step v (place % map_extent v) in
    let rest = walked vs (place / map_extent v) in
    ap (and_step own) (walked-snoc vs w (place / map_extent v))
    ∙ and_step-assoc own rest (map_step w (place / map_extent v / extent_of vs % map_extent w))
    ∙ ap (λ p. and_step (and_step own rest) (map_step w (p % map_extent w))) (div-div-eq-div-mul place (map_extent v) (extent_of vs))

-- the last of the windows is joined with one more
pub walked-joined : (ws : List Map) (first w joined : Map) (place : ℕ)
    → ((p : ℕ) → map_step joined (p % map_extent joined) ≡ and_step (map_step first (p % map_extent first)) (map_step w (p / map_extent first % map_extent w)))
    → walked (ws ++ joined ∷ []) place ≡ and_step (walked (ws ++ first ∷ []) place) (map_step w (place / extent_of (ws ++ first ∷ []) % map_extent w))
walked-joined ws first w joined place steps =
    let p = place / extent_of ws in
    let turned : extent_of ws * map_extent first ≡ extent_of (ws ++ first ∷ []) = omega (arith, extent_of-snoc ws first) in
    let split : p / map_extent first ≡ place / extent_of (ws ++ first ∷ []) = div-div-eq-div-mul place (extent_of ws) (map_extent first) ∙ ap (λ m. place / m) turned in
    walked-snoc ws joined place
    ∙ ap (and_step (walked ws place)) (steps p)
    ∙ and_step-assoc (walked ws place) (map_step first (p % map_extent first)) (map_step w (p / map_extent first % map_extent w))
    ∙ ap (λ s. and_step s (map_step w (p / map_extent first % map_extent w))) (sym (walked-snoc ws first place))
    ∙ ap (λ q. and_step (walked (ws ++ first ∷ []) place) (map_step w (q % map_extent w))) split
