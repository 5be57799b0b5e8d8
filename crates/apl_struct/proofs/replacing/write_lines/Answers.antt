use Rattle.std.proofs.Common.{◌≡◌, ℕ, ◌+◌, ◌*◌, ◌<◌, ◌∷◌, length, sym, ap, ◌∙◌, arith}
use Rattle.std.specs.Prelude.{Some, None}
use Rattle.std.proofs.lemmas.Nat.{mul-add-lt}
use Rattle.apl_walk.specs.Steps.{and_step}
use Rattle.apl_walk.specs.Maps.{map_extent, map_step, extent_of, walked}
use Rattle.apl_struct.specs.Numbering.{place_or_zero, last_number, value_numbered}
use Rattle.apl_struct.proofs.Replacement.{line_reached, not_reached}
use Rattle.apl_struct.proofs.replacing.write_lines.Goals as goal

pub write_line-requires-clause-within : goal.write_line-requires-clause-within
write_line-requires-clause-within g c = λ i inside.
    let last = c.args.choices.last in
    let outer = c.args.choices.outer.now in
    let line = c.loop-line.line in
    let base : walked outer line ≡ Some c.in-Some.base = sym c.start_at.ensures.value ∙ c.in-Some.is in
    let there : walked (last ∷ outer) (line * map_extent last + i) ≡ and_step (map_step last i) (Some c.in-Some.base) = line_reached last outer line i (Some c.in-Some.base) base inside in
    let below : line * map_extent last + i < extent_of (last ∷ outer) = mul-add-lt line (map_extent last) i (extent_of outer) (omega arith) inside in
    rw c.loop-line.invariant.len (rw there at (c.requires.within (line * map_extent last + i) below))

pub unreachable-requires : goal.unreachable-requires
unreachable-requires g c =
    let last = c.args.choices.last in
    let outer = c.args.choices.outer.now in
    let line = c.loop-line.line in
    let some : 0 < map_extent last = omega arith in
    let base : walked outer line ≡ None = sym c.start_at.ensures.value ∙ c.in-None.is in
    let there : walked (last ∷ outer) (line * map_extent last + 0) ≡ and_step (map_step last 0) None = line_reached last outer line 0 None base some in
    let below : line * map_extent last + 0 < extent_of (last ∷ outer) = mul-add-lt line (map_extent last) 0 (extent_of outer) (omega arith) some in
    not_reached (length c.args.room.now) (map_step last 0) (rw there at (c.requires.within (line * map_extent last + 0) below))

pub loop-line-preserved : goal.loop-line-preserved
loop-line-preserved g c = record {
  values = λ p inside.
      let last = c.args.choices.last in
      let outer = c.args.choices.outer.now in
      let line = c.loop-line.line in
      let step = c.args.choices.step in
      let first = c.args.room.now in
      let chosen : ℕ → ℕ = λ place. place_or_zero (walked (last ∷ outer) place) in
      let value : ℕ → ℕ → g.row.T.Denot = λ n q. value_numbered first c.args.values.now c.args.fill (last_number chosen step q n) q in
      let len : length c.loop-line.room ≡ length first = c.loop-line.invariant.len in
      let extent : c.extent-extent.result ≡ map_extent last = c.extent-extent.ensures.value in
      let base : walked outer line ≡ Some c.in-Some.base = sym c.start_at.ensures.value ∙ c.in-Some.is in
      let whole : line * c.extent-extent.result + map_extent last ≡ (line + 1) * map_extent last = omega (arith, ap (λ e. line * e) extent) in
      c.write_line.ensures.values chosen first
      (λ i low. ap place_or_zero (sym (line_reached last outer line i (Some c.in-Some.base) base low)) ∙ ap (λ e. chosen (line * e + i)) (sym extent))
      (λ q low. c.loop-line.invariant.values q (omega (arith, low, len)) ∙ ap (λ e. value (line * e) q) (sym extent)) p (omega (arith, inside, len))
      ∙ ap (λ n. value n p) whole;
  len = omega (arith, c.write_line.ensures.len, c.loop-line.invariant.len);
}
