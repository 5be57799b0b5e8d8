use Rattle.std.proofs.Common.{◌≡◌, ◌≢◌, ◌<◌, ◌≤◌, ℤ, true, false, List, length, int_lt, get_or, sym, ap, ◌∙◌, arith, rules}
use Rattle.std.specs.List.Sorted.{IsPartitionPoint}
use Rattle.std.proofs.lemmas.List.Sorted.{IsPartitionPoint-from_clause}
use Rattle.apl_search.specs.declared.sorting.Placed.{Placed}
use Rattle.apl_search.specs.Ordering.{upwards}
use Rattle.apl_search.specs.Sorting.{AreInOrder}
use Rattle.apl_search.specs.Tables.{place_of}
use Rattle.apl_search.proofs.InOrder.{in_order_long}
use Rattle.apl_search.proofs.FirstPlaces.{is_partitioned, found, missing}
use Rattle.apl_search.proofs.finding.place_in_order.Goals.{After-partition_point-first}
use Rattle.apl_search.proofs.finding.place_in_order.Goals as goal

-- lesser numbers are before the point, and no others
parted : (c : After-partition_point-first) (numbers : List ℤ) → AreInOrder upwards numbers c.args.placed.now
    → IsPartitionPoint (λ p. int_lt p.value c.args.number ≡ true) (λ p. int_lt p.value c.args.number ≡ false) c.args.placed.now c.partition_point-first.result
parted c numbers ordered =
    IsPartitionPoint-from_clause (λ p. int_lt p.value c.args.number) c.args.placed.now c.partition_point-first.result c.partition_point-first.ensures.partitioned
    (is_partitioned numbers c.args.placed.now ordered c.args.number) (λ a r q k. search rules)

-- a number that is not at the point is nowhere
nowhere : (c : After-partition_point-first) (numbers : List ℤ) → AreInOrder upwards numbers c.args.placed.now
    → ((d : Placed) → c.partition_point-first.result < length c.args.placed.now → (get_or c.args.placed.now c.partition_point-first.result d).value ≡ c.args.number → ⊥)
    → length c.args.placed.now ≡ place_of numbers c.args.number
nowhere c numbers ordered differs =
    in_order_long upwards numbers c.args.placed.now ordered
    ∙ sym (missing numbers c.args.placed.now ordered c.args.number c.partition_point-first.result (parted c numbers ordered) differs)

pub returns-in_default : goal.returns-in_default
returns-in_default c = λ numbers ordered.
    let outside : length c.args.placed.now ≤ c.partition_point-first.result = search rules in
    nowhere (goal.at.returns-in_default c).After-partition_point-first numbers ordered (λ d inside same. omega (arith, inside, outside))

pub returns-then-found-number : goal.returns-then-found-number
returns-then-found-number c = λ numbers ordered.
    let placed = c.args.placed.now in
    let first = c.partition_point-first.result in
    let inside : first < length placed = search rules in
    let here : get_or placed first c.in-Some.found.now ≡ c.in-Some.found.now = search rules in
    let value : c.in-Some.found.now.value ≡ c.args.number = search rules in
    sym (
    found numbers placed ordered c.args.number first (parted (goal.at.returns-then-found-number c).After-partition_point-first numbers ordered) c.in-Some.found.now inside (ap (λ p. p.value) here ∙ value)
    ∙ ap (λ p. p.place) here)

pub returns-else-found-number : goal.returns-else-found-number
returns-else-found-number c = λ numbers ordered.
    let differs : c.in-Some.found.now.value ≢ c.args.number = search rules in
    nowhere (goal.at.returns-else-found-number c).After-partition_point-first numbers ordered (λ d inside same.
    let here : get_or c.args.placed.now c.partition_point-first.result d ≡ c.in-Some.found.now = search rules in
    differs (ap (λ p. p.value) (sym here) ∙ same))
