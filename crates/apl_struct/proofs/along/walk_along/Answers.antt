use Rattle.std.proofs.Common.{◌≡◌, ℕ, ◌*◌, ◌/◌, ◌%◌, ◌<◌, Some, ap, ◌∙◌, arith}
use Rattle.std.proofs.lemmas.Result.{IfOk-weaker}
use Rattle.std.proofs.Math.Nat.{mod-lt, mod-eq_of_lt, div-one, div-lt_iff_lt-mul, le-mul_of_pos_right}
use Rattle.apl_walk.specs.declared.walk.Walk.{Walk}
use Rattle.apl_walk.specs.Steps.{and_step}
use Rattle.apl_walk.specs.Maps.{step_of, map_extent, map_step, extent_of, walked}
use Rattle.apl_walk.specs.Walks.{maps_of}
use Rattle.apl_struct.proofs.along.walk_along.Goals as goal

pub returns-clause-place : goal.returns-clause-place
returns-clause-place c =
    let m = c.args.map in
    let e = map_extent m in
    let inner = c.args.inner in
    let outer = c.args.outer in
    let block = c.args.block in
    let near = c.whole.result in
    let far = c.whole-2.result in
    let one = c.in_ok-walk.walk in
    let two = c.in_ok-walk-2.walk in
    let line : extent_of (maps_of one) ≡ inner =
    c.in_ok-walk.ensures.extent ∙ ap (λ n. near.extent * n) c.new.ensures.extent ∙ omega (arith, c.whole.ensures.extent) in
    let lines : extent_of (maps_of two) ≡ e * inner = c.in_ok-walk-2.ensures.extent ∙ ap (λ n. e * n) line in
    let Step : Walk → Type 0 = λ walk. (place : ℕ) → walked (maps_of walk) place ≡ and_step (walked (maps_of two) place) (step_of far (place / extent_of (maps_of two) % far.extent)) in
    let Place : Walk → Type 0 = λ walk. (place : ℕ) → place < outer * (e * inner) → walked (maps_of walk) place
    ≡ and_step (and_step (Some (place % inner)) (map_step m (place / inner % e))) (Some (place / (e * inner) * block)) in
    let first : (place : ℕ) → walked (maps_of one) place ≡ Some (place % inner) = λ place.
    (rw (c.new.ensures.place place, c.new.ensures.extent, c.whole.ensures.extent, div-one place, c.whole.ensures.step (place % inner) (mod-lt place c.requires.inner)) at
    (c.in_ok-walk.ensures.place place)) ∙ ap Some (omega arith) in
    let second : (place : ℕ) → walked (maps_of two) place ≡ and_step (Some (place % inner)) (map_step m (place / inner % e)) = λ place. rw (first place, line) at (c.in_ok-walk-2.ensures.place place) in
    let some : 0 < e * inner = omega (arith, le-mul_of_pos_right e c.requires.inner, c.requires.some) in
    IfOk-weaker c.with-3.result Step Place
    (λ walk step place inside.
    let below : place / (e * inner) < outer = (div-lt_iff_lt-mul {k = e * inner} {x = place} {y = outer} some).1 inside in
    rw (second place, lines, c.whole-2.ensures.extent, mod-eq_of_lt below, c.whole-2.ensures.step (place / (e * inner)) below) at (step place))
    c.with-3.ensures.place
