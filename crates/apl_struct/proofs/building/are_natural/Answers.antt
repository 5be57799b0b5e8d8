use Rattle.std.proofs.Common.{◌≡◌, ◌<◌, true, pos, length, map, slice_index_or, int_lt, to_z, of_z, w64, refl, sym, ap, ◌∙◌, arith, rules}
use Rattle.std.proofs.lemmas.List.{length-map}
use Rattle.std.proofs.lemmas.List.Folds.{list_all_at, list_all_more}
use Rattle.apl_answer.specs.Arguments.{is_natural}
use Rattle.apl_struct.proofs.Counts.{natural_is, below_natural}
use Rattle.apl_struct.proofs.building.are_natural.Goals as goal

pub returns-then-number_at-lt0 : goal.returns-then-number_at-lt0
returns-then-number_at-lt0 g c =
    let numbers = map g.T.Numeric.number_in c.args.numbers.now in
    let x = c.number_at.result in
    let stored : to_z w64 (of_z w64 x) ≡ x = search rules in
    let below : int_lt x (pos 0) ≡ true = ap (λ z. int_lt z (pos 0)) (sym stored) ∙ c.if-number_at-lt0.true in
    let inside : c.loop-place.place < length numbers = omega (arith, c.loop-place-test.true, length-map c.args.numbers.now g.T.Numeric.number_in) in
    sym (list_all_at is_natural numbers c.loop-place.place (pos 0) inside (ap is_natural (sym c.number_at.ensures) ∙ below_natural x below))

pub loop-place-preserved : goal.loop-place-preserved
loop-place-preserved g c =
    let numbers = map g.T.Numeric.number_in c.args.numbers.now in
    let x = c.number_at.result in
    let stored : to_z w64 (of_z w64 x) ≡ x = search rules in
    let natural : is_natural (slice_index_or numbers c.loop-place.place (pos 0)) ≡ true = ap is_natural (sym c.number_at.ensures) ∙ natural_is x stored c.if-number_at-lt0.false in
    let inside : c.loop-place.place < length numbers = omega (arith, c.loop-place-test.true, length-map c.args.numbers.now g.T.Numeric.number_in) in
    list_all_more is_natural numbers c.loop-place.place (pos 0) inside ∙ rw (c.loop-place.invariant, natural) refl
