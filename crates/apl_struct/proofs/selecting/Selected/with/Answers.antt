use Rattle.std.proofs.Common.{◌≡◌, ◌/◌, Some, sym, ◌∙◌, rules}
use Rattle.std.proofs.Math.Nat.{mod-one}
use Rattle.apl_walk.specs.Maps.{extent_of, map_extent, map_step, walked}
use Rattle.apl_walk.specs.Walks.{maps_of}
use Rattle.apl_struct.proofs.Sources.{start_moved}
use Rattle.apl_struct.proofs.selecting.Selected.with.Goals as goal

pub returns-clause-place : goal.returns-clause-place
returns-clause-place c = λ place.
    let map = c.args.map in
    let maps = maps_of c.args.self.walk in
    let one : map_extent map ≡ 1 = search rules in
    let step : map_step map 0 ≡ Some c.in-Some.step = sym c.step.ensures.value ∙ c.in-Some.is in
    rw (one, mod-one (place / extent_of maps), step) (start_moved c.args.self.start c.in-Some.step (walked maps place))
