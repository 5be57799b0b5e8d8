use Rattle.std.proofs.Common.{◌≡◌, ◌+◌, ◌<◌, ◌≤◌, ◌++◌, pos, map, take, length, replicate, to_z, of_z, w64, nat_abs, slice_index_or, ap, sym, ◌∙◌, arith, rules}
use Rattle.std.specs.Prelude.{sum, vec_len}
use Rattle.std.proofs.lemmas.List.{length-map}
use Rattle.std.proofs.lemmas.List.Sums.{sum_by-take-le, AllPass-from_list_all}
use Rattle.apl_array.specs.Axes.{place_number}
use Rattle.apl_answer.specs.Arguments.{is_natural}
use Rattle.apl_struct.proofs.Counts.{natural_sum, cast_is, natural_repeats, repeated_length}
use Rattle.apl_struct.proofs.compressing.list_up_to.Goals as goal

pub append_times-requires : goal.append_times-requires
append_times-requires g c =
    let counts = map g.T.Numeric.number_in c.args.counts.now in
    let i = c.loop-i.i in
    let kept = c.loop-i.invariant in
    let inside : i < length counts = omega (arith, c.loop-i-test.true, c.requires.places, length-map c.args.counts.now g.T.Numeric.number_in) in
    let z = slice_index_or counts i (pos 0) in
    let x = c.number_at.result in
    let stored : to_z w64 (of_z w64 x) ≡ x = search rules in
    let turned : to_z w64 (of_z w64 z) ≡ z = rw c.number_at.ensures at stored in
    let held : nat_abs (to_z w64 (of_z w64 x)) ≡ place_number z = ap (λ y. nat_abs (to_z w64 (of_z w64 y))) c.number_at.ensures
    ∙ cast_is z (AllPass-from_list_all is_natural counts c.requires.counts i (pos 0) inside) turned in
    let numbers = map place_number counts in
    let so_far : length c.loop-i.table.items ≡ sum (take i numbers) = ap length kept.kept ∙ repeated_length (take i numbers) in
    let all : sum (take (i + 1) numbers) ≤ sum numbers = sum_by-take-le (λ n. n) numbers (i + 1) in
    let own : vec_len c.loop-i.table ≡ length c.loop-i.table.items = search rules in
    omega (arith, own, so_far, held, all, natural_sum counts i inside, c.requires.room, kept.room)

pub loop-i-preserved : goal.loop-i-preserved
loop-i-preserved g c =
    let counts = map g.T.Numeric.number_in c.args.counts.now in
    let i = c.loop-i.i in
    let kept = c.loop-i.invariant in
    let inside : i < length counts = omega (arith, c.loop-i-test.true, c.requires.places, length-map c.args.counts.now g.T.Numeric.number_in) in
    let z = slice_index_or counts i (pos 0) in
    let x = c.number_at.result in
    let stored : to_z w64 (of_z w64 x) ≡ x = search rules in
    let turned : to_z w64 (of_z w64 z) ≡ z = rw c.number_at.ensures at stored in
    let held : nat_abs (to_z w64 (of_z w64 x)) ≡ place_number z = ap (λ y. nat_abs (to_z w64 (of_z w64 y))) c.number_at.ensures
    ∙ cast_is z (AllPass-from_list_all is_natural counts c.requires.counts i (pos 0) inside) turned in
    record {
      kept = c.append_times.ensures.items
          ∙ ap (λ n. c.loop-i.table.items ++ replicate n i) held
          ∙ ap (λ items. items ++ replicate (place_number z) i) kept.kept
          ∙ sym (natural_repeats counts i inside);
      room = c.append_times.ensures.capacity ∙ kept.room;
    }
