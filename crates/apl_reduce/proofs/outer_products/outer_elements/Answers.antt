use Rattle.std.proofs.Common.{◌≡◌, ◌*◌, ◌/◌, ◌%◌, ◌<◌, pos, length, sym, ap, subst, ◌∙◌, rules, arith}
use Rattle.std.proofs.Math.Nat.{div-lt_iff_lt-mul, mod-lt}
use Rattle.apl_array.specs.declared.array.Elem.TheVariants.{Int, Chr}
use Rattle.apl_array.specs.Array.{number_array}
use Rattle.apl_scalar.specs.Scalar.{as_element}
use Rattle.apl_reduce.specs.Items.{item_in}
use Rattle.apl_reduce.proofs.Joined.{outcome_is_element, some_columns}
use Rattle.apl_reduce.proofs.Mixed.{mixed}
use Rattle.apl_reduce.proofs.outer_products.outer_elements.Goals as goal
use Rattle.apl_reduce.proofs.outer_products.outer_elements.Goals.{in_default-via-in-Some+in_default, in_default-via-in-None+in_default}

pub returns-in_default : goal.returns-in_default
returns-in_default g c = λ outcome same.
    let a = c.args.a.now in
    let b = c.args.b.now in
    let lefts = length a.ravel in
    let rights = length b.ravel in
    let differ : a.kind ≡ b.kind → ⊥ = elim c.in_default.branch [
      | in_default-via-in-Some+in_default w ↦ search rules
      | in_default-via-in-None+in_default w ↦ search rules
    ] in
    c.constant_array.ensures outcome (λ place inside.
    let all : place < lefts * rights = subst (λ n. place < n) c.requires.places inside in
    let some = some_columns lefts rights place all in
    let left = c.numbers_of.ensures.lawful.kinds (place / rights) (Int (pos 0)) ((div-lt_iff_lt-mul {k = rights} {x = place} {y = lefts} some).1 all) in
    let right = c.numbers_of-2.ensures.lawful.kinds (place % rights) (Int (pos 0)) (mod-lt place some) in
    outcome_is_element c.dyadic_result-same.result
    ∙ ap as_element (c.dyadic_result-same.ensures ∙ mixed c.args.f (item_in a.ravel (place / rights)) (item_in b.ravel (place % rights)) (λ e. differ (sym left ∙ e ∙ right)))
    ∙ same place inside)
