use Rattle.std.proofs.Common.{◌≡◌, ℕ, ◌*◌, ◌<◌, ◌∷◌, length, slice_index_or}
use Rattle.apl_walk.specs.Maps.{map_extent, walked}
use Rattle.apl_struct.specs.Numbering.{place_or_zero, last_number, value_numbered}
use Rattle.apl_struct.proofs.replacing.write_lines.Given as goal

abbrev pub invariant-loop-line : goal.invariant-loop-line
invariant-loop-line g l = record {
  values : (p : ℕ) → p < length l.initial.room → slice_index_or l.room p l.fn.fill
      ≡ value_numbered l.initial.room l.fn.values l.fn.fill (last_number (λ place. place_or_zero (walked (l.fn.choices.last ∷ l.fn.choices.outer.now) place)) l.fn.choices.step p (l.line * map_extent l.fn.choices.last)) p;
  len : length l.room ≡ length l.initial.room;
}
