use Rattle.std.proofs.Common.{◌*◌, map, sym, ◌∙◌}
use Rattle.std.proofs.lemmas.Option.{IfSome_then}
use Rattle.apl_array.specs.declared.function.ScalarFunction.TheVariants.{Plus, Minus}
use Rattle.apl_reduce.proofs.run_folds.quick_folds.Goals as goal

pub returns-in-Plus : goal.returns-in-Plus
returns-in-Plus g c =
    let numbers = map g.T.Numeric.number_in c.args.numbers.now in
    let named = sym c.FUNCTION.ensures ∙ c.in-Plus.is in
    rw (c.elements_are_numbers.ensures, named)
    (IfSome_then c.near_folds.result c.near_folds.ensures (λ folds all. all Plus numbers c.args.starts (2 * c.args.pairs) c.runs_added.ensures))

pub returns-in-Minus : goal.returns-in-Minus
returns-in-Minus g c =
    let numbers = map g.T.Numeric.number_in c.args.numbers.now in
    let named = sym c.FUNCTION.ensures ∙ c.in-Minus.is in
    rw (c.elements_are_numbers.ensures, named)
    (IfSome_then c.near_folds-in-Minus.result c.near_folds-in-Minus.ensures (λ folds all. all Minus numbers c.args.starts (2 * c.args.pairs) c.runs_turned.ensures))

pub returns-in-Ceiling : goal.returns-in-Ceiling
returns-in-Ceiling g c =
    let named = sym c.FUNCTION.ensures ∙ c.in-Ceiling.is in
    rw (c.elements_are_numbers.ensures, named) c.each_extreme.ensures

pub returns-in-Floor : goal.returns-in-Floor
returns-in-Floor g c =
    let named = sym c.FUNCTION.ensures ∙ c.in-Floor.is in
    rw (c.elements_are_numbers.ensures, named) c.each_extreme-in-Floor.ensures
