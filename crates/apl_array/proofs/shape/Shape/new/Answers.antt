use Rattle.std.proofs.Common.{◌≡◌, true, sym, ◌∙◌, rules}
use Rattle.std.proofs.lemmas.Bool.{true≢false}
use Rattle.apl_array.specs.Shape.{IsShape, is_shape}
use Rattle.apl_array.proofs.Shapes.{is_shape-from_IsShape}
use Rattle.apl_array.proofs.shape.Shape.new.Goals as goal

pub returns-clause-test : goal.returns-clause-test
returns-clause-test c =
    let lawful : IsShape c.args.lengths.now = search rules in
    is_shape-from_IsShape c.args.lengths.now lawful

pub returns-clause-count : goal.returns-clause-count
returns-clause-count c =
    let lawful : IsShape c.args.lengths.now = search rules in
    let passes : is_shape c.args.lengths.now ≡ true = is_shape-from_IsShape c.args.lengths.now lawful in
    (λ is_error. cc, λ fails. absurd (true≢false (sym passes ∙ fails.1)))

pub returns-in_default-clause-count : goal.returns-in_default-clause-count
returns-in_default-clause-count c =
    let lawful : IsShape c.args.lengths.now = search rules in
    let passes : is_shape c.args.lengths.now ≡ true = is_shape-from_IsShape c.args.lengths.now lawful in
    (λ is_error. cc, λ fails. absurd (true≢false (sym passes ∙ fails.1)))
