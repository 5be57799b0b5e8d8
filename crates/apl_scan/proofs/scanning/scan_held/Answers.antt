use Rattle.std.proofs.Common.{◌≡◌, ◌+◌, ◌*◌, ◌/◌, ◌<◌, ℕ, ℤ, List, Result, length, map, slice_index, ap, sym, subst, refl, ◌∙◌, rules}
use Rattle.std.specs.Prelude.{take, drop}
use Rattle.std.proofs.lemmas.List.{length-map}
use Rattle.apl_array.specs.declared.array.Elem.TheVariants.{Int}
use Rattle.apl_array.specs.declared.array.Kind.TheVariants.{Number}
use Rattle.apl_array.specs.Shape.{count_of}
use Rattle.apl_answer.specs.Pointwise.{answer_of, IsAnswerOf}
use Rattle.apl_pool.specs.Pool.{AreValues}
use Rattle.apl_pool.specs.declared.kernel.Fault.{Fault}
use Rattle.apl_scalar.specs.Scalar.{dyadic_numbers}
use Rattle.apl_scan.specs.Lines.{scan_at}
use Rattle.apl_scan.specs.Scanning.{items_up_to}
use Rattle.apl_reduce.specs.Folding.{reduction}
use Rattle.apl_scan.proofs.ScannedLines.{axis_is, whole_lines, outcomes_along}
use Rattle.apl_scan.proofs.scanning.scan_held.Goals as goal
use Rattle.apl_scan.proofs.scanning.scan_held.Goals.{After-inner-inner}

-- the elements are whole lines along the axis
record AreElementLines (g : _) (c : After-inner-inner g) : Type 0 where
  items : c.axis-items.result ≡ slice_index c.args.b.now.shape c.args.k
  inner : c.inner-inner.result ≡ count_of (drop (c.args.k + 1) c.args.b.now.shape)
  all : length c.args.elements.now ≡ count_of c.args.b.now.shape
  items_some : 0 < c.axis-items.result
  inner_some : 0 < c.inner-inner.result
  whole : length c.args.elements.now / (c.axis-items.result * c.inner-inner.result) * (c.axis-items.result * c.inner-inner.result) ≡ length c.args.elements.now

are_element_lines : (g : _) (c : After-inner-inner g) → AreElementLines g c
are_element_lines g c =
    let b = c.args.b.now in
    let k = c.args.k in
    let elements = c.args.elements.now in
    let n = slice_index b.shape k in
    let apart = count_of (drop (k + 1) b.shape) in
    let items : c.axis-items.result ≡ n = c.axis-items.ensures.length ∙ ap (λ s. slice_index s k) c.shape.ensures.shape in
    let inner : c.inner-inner.result ≡ apart = c.inner-inner.ensures.inner ∙ ap (λ s. count_of (drop (k + 1) s)) c.shape-then-has_summary.ensures.shape in
    let all : length elements ≡ count_of b.shape = sym (ap length c.requires.elements ∙ length-map elements g.T.ElementType.elem_of) ∙ c.shape.ensures.lawful.len in
    let product = c.replaced_index_has_place.ensures.count b.shape k c.requires.axis in
    let axis = axis_is (count_of (take k b.shape)) n apart (count_of b.shape) product c.requires.some c.shape.ensures.lawful.shape.count in
    record {
      items = items;
      inner = inner;
      all = all;
      items_some = rw items axis.items_some;
      inner_some = rw inner axis.inner_some;
      whole = rw (items, inner) (whole_lines (count_of (take k b.shape)) n apart (length elements) axis.items_some axis.inner_some (all ∙ product));
    }

pub scans_in_one_pass-requires-clause-lines : goal.scans_in_one_pass-requires-clause-lines
scans_in_one_pass-requires-clause-lines g c = λ κs lives. (are_element_lines g c).whole

pub returns-in-Some : goal.returns-in-Some
returns-in-Some g c =
    let lines = are_element_lines g (goal.at.returns-in-Some g c).After-inner-inner in
    let b = c.args.b.now in
    let k = c.args.k in
    let f = c.args.f in
    let numbers = map g.T.Numeric.number_in c.args.elements.now in
    let items = c.axis-items.result in
    let inner = c.inner-inner.result in
    let at_place : ℕ → Result ℤ Fault = scan_at (dyadic_numbers f) numbers items inner in
    let folds : AreValues at_place (length c.args.elements.now) c.in-Some.values.items = rw c.in-Some.is at c.in_ok-values.ensures in
    let outcome = λ (index : List ℕ). reduction f (items_up_to b k index) in
    let shape : c.in_ok-copy.field-0 ≡ b.shape = search rules in
    let ravel : b.ravel ≡ map Int numbers = c.requires.elements ∙ c.elements_are_numbers.ensures in
    let outcomes = outcomes_along c.replaced_index_has_place.ensures.place c.split_index_has_place.ensures.index b numbers k c.requires.axis ravel f numbers items inner refl lines.items lines.inner in
    subst (λ s. IsAnswerOf (answer_of s outcome Number) c.array_from_fill.result) shape
    (c.array_from_fill.ensures at_place outcome (rw shape outcomes) (rw (shape, sym lines.all) folds) (search rules))
