use Rattle.std.proofs.Common.{◌≡◌, ℕ, ◌+◌, ◌≤◌, ap, ◌∙◌, arith}
use Rattle.std.specs.Prelude.{Option, Some, None}
use Rattle.std.proofs.lemmas.Result.{IfOk-weaker}
use Rattle.apl_walk.specs.Steps.{and_step}
use Rattle.apl_walk.specs.Maps.{walked}
use Rattle.apl_walk.specs.Walks.{maps_of}
use Rattle.apl_struct.specs.Indexing.{Slots, selected_shape}
use Rattle.apl_struct.specs.Selecting.{chosen_index, chosen_place}
use Rattle.apl_struct.proofs.Sources.{lawful_chosen, selectable}
use Rattle.apl_struct.proofs.selecting.selected_walk.Goals as goal

pub selected_axes-requires : goal.selected_axes-requires
selected_axes-requires c =
    let slots : Slots = c.args.slots.now in
    let same : c.lengths.result.now ≡ c.args.a.now.shape = c.lengths.ensures.lengths ∙ c.shape.ensures.shape in
    rw same (selectable c.args.origin c.args.a.now slots c.args.selected.now c.requires.selection c.requires.some c.places_match_index_lists.ensures.below
    c.shape.ensures.lawful.shape c.count-count.ensures.lawful.count)

-- where a walk starts is no farther than what it reaches
start_most : (start n : ℕ) (rest : Option ℕ) → and_step (Some start) rest ≡ Some n → start ≤ n
start_most start n (Some m) is = let same : start + m ≡ n = cc in omega (arith, same)
start_most start n None is = absurd cc

pub into_walk-requires-clause-start : goal.into_walk-requires-clause-start
into_walk-requires-clause-start c =
    let slots : Slots = c.args.slots.now in
    let shape = c.args.a.now.shape in
    let axes = c.in_ok-axes.axes in
    let same : c.lengths.result.now ≡ shape = c.lengths.ensures.lengths ∙ c.shape.ensures.shape in
    let chosen = lawful_chosen c.args.origin c.args.a.now slots c.args.selected.now c.requires.selection c.requires.some 0 in
    let here = c.places_match_index_lists.ensures.below shape (chosen_index c.args.origin c.args.selected.now slots 0) chosen in
    let most = start_most axes.start _ (walked (maps_of axes.walk) 0) (c.in_ok-axes.ensures.place 0) in
    omega (
      arith,
      most,
      here,
      c.shape.ensures.lawful.shape.count,
      ap (λ s. chosen_place c.args.origin s (selected_shape s slots) slots 0) same,
      ap (λ s. chosen_place c.args.origin shape s slots 0) c.requires.selection.shape_is,
    )

pub returns : goal.returns
returns c =
    let slots : Slots = c.args.slots.now in
    let same : c.lengths.result.now ≡ c.args.a.now.shape = c.lengths.ensures.lengths ∙ c.shape.ensures.shape in
    let from = c.requires.selection.shape_is in
    record {
      extent = IfOk-weaker c.into_walk.result _ _ (λ walk is. rw (from, ← same) (is ∙ c.in_ok-axes.ensures.extent)) c.into_walk.ensures.extent;
      place = IfOk-weaker c.into_walk.result _ _ (λ walk is place. rw (from, ← same) (is place ∙ c.in_ok-axes.ensures.place place)) c.into_walk.ensures.place;
      lawful = IfOk-weaker c.into_walk.result _ _ (λ walk is. lawful_chosen c.args.origin c.args.a.now slots c.args.selected.now c.requires.selection c.requires.some)
          c.into_walk.ensures.extent;
    }
