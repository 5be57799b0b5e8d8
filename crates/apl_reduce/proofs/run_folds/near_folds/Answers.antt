use Rattle.std.proofs.Common.{◌≡◌, ℕ, ℤ, map, Ok, to_z, of_z, w64, sym, ap, ◌∙◌, rules}
use Rattle.std.proofs.lemmas.Int.{to_z-of_z}
use Rattle.apl_array.specs.declared.array.Elem.TheVariants.{Int}
use Rattle.apl_reduce.specs.Folded.{folded_onto}
use Rattle.apl_reduce.specs.Items.{item_in}
use Rattle.apl_reduce.proofs.run_folds.near_folds.Goals as goal

pub returns : goal.returns
returns c = λ f numbers starts count changes.
    let totals = c.args.totals in
    let onto = λ (start : ℕ) (t : ℤ). folded_onto f (item_in (map Int numbers)) start count (Ok t) in
    let read_first : to_z w64 (of_z w64 totals.first) ≡ totals.first = to_z-of_z w64 totals.first (search rules) in
    let stored_first : to_z w64 (of_z w64 c.in_ok-first.first) ≡ c.in_ok-first.first = search rules in
    let read_second : to_z w64 (of_z w64 totals.second) ≡ totals.second = to_z-of_z w64 totals.second (search rules) in
    let stored_second : to_z w64 (of_z w64 c.in_ok-second.second) ≡ c.in_ok-second.second = search rules in
    let read_third : to_z w64 (of_z w64 totals.third) ≡ totals.third = to_z-of_z w64 totals.third (search rules) in
    let stored_third : to_z w64 (of_z w64 c.in_ok-third.third) ≡ c.in_ok-third.third = search rules in
    let read_fourth : to_z w64 (of_z w64 totals.fourth) ≡ totals.fourth = to_z-of_z w64 totals.fourth (search rules) in
    let stored_fourth : to_z w64 (of_z w64 c.in_ok-fourth.fourth) ≡ c.in_ok-fourth.fourth = search rules in
    record {
      first = ap (onto starts.first) (sym read_first) ∙ c.in_ok-first.ensures f numbers starts.first count changes.first ∙ ap (λ (z : ℤ). Ok z) (sym stored_first);
      second = ap (onto starts.second) (sym read_second) ∙ c.in_ok-second.ensures f numbers starts.second count changes.second ∙ ap (λ (z : ℤ). Ok z) (sym stored_second);
      third = ap (onto starts.third) (sym read_third) ∙ c.in_ok-third.ensures f numbers starts.third count changes.third ∙ ap (λ (z : ℤ). Ok z) (sym stored_third);
      fourth = ap (onto starts.fourth) (sym read_fourth) ∙ c.in_ok-fourth.ensures f numbers starts.fourth count changes.fourth ∙ ap (λ (z : ℤ). Ok z) (sym stored_fourth);
    }
