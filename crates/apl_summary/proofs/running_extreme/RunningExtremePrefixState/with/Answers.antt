use Rattle.std.proofs.Common.{◌≡◌, nat_eq, [], ◌∷◌, ◌++◌, to_z, of_z, w64, sym, ap, subst, ◌∙◌, rules, arith}
use Rattle.std.proofs.lemmas.Int.{ints}
use Rattle.apl_pool.specs.Summaries.{IsI64}
use Rattle.apl_summary.specs.Extremes.{extreme_of_two}
use Rattle.apl_summary.specs.Fronts.{IsRunningExtreme}
use Rattle.apl_summary.proofs.Fronts.{extreme_front}
use Rattle.apl_summary.proofs.running_extreme.RunningExtremePrefixState.with.Goals as goal

pub returns-clause-front : goal.returns-clause-front
returns-clause-front g c = λ xs is.
    let is_least = nat_eq g.row.GREATEST 0 in
    let item = c.args.self.now.item in
    let number = c.args.number in
    let fits = c.ranges.number in
    let inside : IsI64 number = (omega (arith, ints), omega (arith, ints)) in
    let kept : to_z w64 (of_z w64 c.extreme_of_two-item.result) ≡ c.extreme_of_two-item.result = search rules in
    let kept_item : to_z w64 (of_z w64 item) ≡ item = search rules in
    let kept_number : to_z w64 (of_z w64 number) ≡ number = search rules in
    let same = kept ∙ c.extreme_of_two-item.ensures ∙ ap (λ y. extreme_of_two is_least y (to_z w64 (of_z w64 number))) kept_item ∙ ap (extreme_of_two is_least item) kept_number in
    subst (λ y. IsRunningExtreme is_least y (xs ++ number ∷ [])) (sym same) (extreme_front is_least item number xs inside is)
