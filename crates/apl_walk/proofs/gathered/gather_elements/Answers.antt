use Rattle.std.proofs.Common.{◌≡◌, ℕ, ◌/◌, ◌%◌, List, get_or, map, Ok, sym, ap, ◌∙◌}
use Rattle.std.specs.Prelude.{Option, Some, None}
use Rattle.std.proofs.Math.ListN.{get_or-map}
use Rattle.apl_array.specs.Array.{ArrayValue}
use Rattle.apl_array.specs.declared.array.Elem.{Elem}
use Rattle.apl_answer.specs.Arguments.{fill_of}
use Rattle.apl_walk.specs.Gathered.{value_or, filled_at}
use Rattle.apl_walk.specs.Maps.{walked}
use Rattle.apl_walk.specs.Steps.{and_step}
use Rattle.apl_walk.proofs.gathered.gather_elements.Goals as goal

filled_value : {T : Type 0} (f : T → Elem) (b : ArrayValue) (xs : List T) (fill : T) (place : Option ℕ) → b.ravel ≡ map f xs → f fill ≡ fill_of b.kind
    → f (value_or xs fill place) ≡ filled_at b place
filled_value f b xs fill (Some place) ravel fill_is =
    sym (get_or-map f xs place fill) ∙ ap (get_or (map f xs) place) fill_is ∙ ap (λ r. get_or r place (fill_of b.kind)) (sym ravel)
filled_value f b xs fill None ravel fill_is = fill_is

pub returns : goal.returns
returns g c = λ element same.
    let f = g.T.ElementType.elem_of in
    let lines = c.new.result in
    let b = c.args.b.now in
    let fill_is : f lines.fill ≡ fill_of b.kind = c.new.ensures.fill ∙ ap fill_of (sym c.requires.kind) in
    rw c.requires.kind
    (c.fill_array.ensures (λ index. Ok (element index))
    (λ place inside.
    rw (c.new-kernel.ensures, c.new.ensures.elements, c.new.ensures.outer, c.new.ensures.last)
    (ap Ok (filled_value f b c.args.elements.now lines.fill
    (and_step (g.M.AxisMap.step c.args.last (place % g.M.AxisMap.extent c.args.last)) (walked c.args.outer.now (place / g.M.AxisMap.extent c.args.last)))
    c.requires.ravel fill_is ∙ same place inside))))
