-- The start of a line, and that of the next one.
use Rattle.std.proofs.Common.{◌≡◌, ℕ, ◌+◌, ◌*◌, ◌/◌, ◌%◌, ◌<◌, ◌≤◌, List, [], ◌∷◌, length, slice_index_or, refl, sym, ap, ◌∙◌, arith}
use Rattle.std.proofs.lemmas.Nat.{div-add-mod'}
use Rattle.std.proofs.Math.Nat.{mod-lt}
use Rattle.apl_walk.specs.declared.maps.Map.{Map}
use Rattle.apl_walk.specs.declared.starts.Start.{Start}
use Rattle.apl_walk.specs.Maps.{map_extent, first_extent, walked, walked_after}
use Rattle.apl_walk.specs.Starts.{IsStart}
use Rattle.apl_walk.proofs.Lines.{quotient_there}
use Rattle.apl_walk.proofs.Walked.{map_some}

-- the index is one of the first axis
pub start_within : (maps : List Map) (first : Map) (line : ℕ) (start : Start) → IsStart maps line start → 1 ≤ length maps → first ≡ slice_index_or maps 0 first
    → start.index < map_extent first
start_within [] first line start is some there = absurd (omega (arith, some))
start_within (m ∷ ms) first line start is some there = omega (arith, is.index, mod-lt line (map_some m), ap map_extent there)

-- the next line has the same quotient
quotient_stays : (extent line : ℕ) → line % extent + 1 < extent → (line + 1) / extent ≡ line / extent
quotient_stays extent line more =
    quotient_there extent (line / extent) (line + 1) (omega (arith, div-add-mod' line extent)) (omega (arith, div-add-mod' line extent, more))

remainder_next : (extent line : ℕ) → line % extent + 1 < extent → line % extent + 1 ≡ (line + 1) % extent
remainder_next extent line more =
    omega (arith, div-add-mod' line extent, div-add-mod' (line + 1) extent, ap (λ q. q * extent) (quotient_stays extent line more))

others_stay : (maps : List Map) (line : ℕ) → line % first_extent maps + 1 < first_extent maps → walked_after maps line ≡ walked_after maps (line + 1)
others_stay [] line more = refl
others_stay (m ∷ ms) line more = ap (walked ms) (sym (quotient_stays (map_extent m) line more))

pub start_next : (maps : List Map) (line : ℕ) (start : Start) → IsStart maps line start → start.index + 1 < first_extent maps
    → IsStart maps (line + 1) (record { index = start.index + 1; others = start.others })
start_next maps line start is more =
    let inside : line % first_extent maps + 1 < first_extent maps = omega (arith, is.index, more) in
    record {
      index = omega (arith, is.index, remainder_next (first_extent maps) line inside);
      others = is.others ∙ others_stay maps line inside;
      most = is.most;
    }
