use Rattle.std.proofs.Common.{ap, ◌∙◌, arith, rules}
use Rattle.std.proofs.Math.Logic.{∥∥₁_elim}
use Rattle.std.proofs.Math.Nat.{ℕ_set}
use Rattle.apl_search.specs.Keys.{keys_in}
use Rattle.apl_search.specs.Tables.{place_of}
use Rattle.apl_search.proofs.Tables.{place_within}
use Rattle.apl_search.proofs.finding.Finder.place.Goals as goal

pub returns-clause-place : goal.returns-clause-place
returns-clause-place c =
    let numbers = keys_in c.args.self.now.elements in
    ∥∥₁_elim c.args.self.now.places_of (ℕ_set _ _) (λ places. c.first.ensures numbers places ∙ ap (place_of numbers) (search rules))

pub returns-clause-most : goal.returns-clause-most
returns-clause-most c =
    let is = returns-clause-place c in
    omega (arith, is, place_within (keys_in c.args.self.now.elements) c.args.number)
