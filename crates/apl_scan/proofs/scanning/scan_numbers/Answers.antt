use Rattle.std.proofs.Common.{◌≡◌, ℕ, ◌+◌, List, length, slice_index, sym, ap, subst, ◌∙◌, rules}
use Rattle.std.specs.Prelude.{IfOk, IfErr, take, drop}
use Rattle.std.proofs.lemmas.List.{length-map}
use Rattle.apl_array.specs.declared.array.Elem.TheVariants.{Int}
use Rattle.apl_array.specs.declared.array.Kind.TheVariants.{Number}
use Rattle.apl_array.specs.Shape.{count_of}
use Rattle.apl_answer.specs.Pointwise.{answer_of, IsAnswerOf}
use Rattle.apl_pool.specs.Pool.{AreValues, IsStopOf}
use Rattle.apl_scalar.specs.Scalar.{dyadic_numbers}
use Rattle.apl_scan.specs.Lines.{scan_at}
use Rattle.apl_scan.specs.Scanning.{items_up_to}
use Rattle.apl_reduce.specs.Folding.{reduction}
use Rattle.apl_scan.proofs.ScannedLines.{axis_is, whole_lines, outcomes_along}
use Rattle.apl_scan.proofs.scanning.scan_numbers.Goals as goal

pub new-lines-requires-clause-inner : goal.new-lines-requires-clause-inner
new-lines-requires-clause-inner g c =
    let shape = c.args.b.now.shape in
    let k = c.args.k in
    let inner : c.inner.result ≡ count_of (drop (k + 1) shape) = c.inner.ensures.inner ∙ ap (λ s. count_of (drop (k + 1) s)) c.shape-3.ensures.shape in
    let axis = axis_is (count_of (take k shape)) (slice_index shape k) (count_of (drop (k + 1) shape)) (count_of shape) (c.replaced_index_has_place.ensures.count shape k c.requires.axis) c.requires.some c.shape.ensures.lawful.shape.count in
    rw inner (axis.inner_some, axis.inner_most)

pub new-lines-requires-clause-whole : goal.new-lines-requires-clause-whole
new-lines-requires-clause-whole g c =
    let b = c.args.b.now in
    let k = c.args.k in
    let n = slice_index b.shape k in
    let apart = count_of (drop (k + 1) b.shape) in
    let items : c.axis.result ≡ n = c.axis.ensures.length ∙ ap (λ s. slice_index s k) c.shape-2.ensures.shape in
    let inner : c.inner.result ≡ apart = c.inner.ensures.inner ∙ ap (λ s. count_of (drop (k + 1) s)) c.shape-3.ensures.shape in
    let all : length c.args.numbers.now ≡ count_of b.shape = sym (ap length c.requires.numbers ∙ length-map c.args.numbers.now Int) ∙ c.shape.ensures.lawful.len in
    let count = c.replaced_index_has_place.ensures.count b.shape k c.requires.axis in
    let axis = axis_is (count_of (take k b.shape)) n apart (count_of b.shape) count c.requires.some c.shape.ensures.lawful.shape.count in
    rw (items, inner) (whole_lines (count_of (take k b.shape)) n apart (length c.args.numbers.now) axis.items_some axis.inner_some (all ∙ count))

pub returns : goal.returns
returns g c =
    let b = c.args.b.now in
    let k = c.args.k in
    let numbers = c.args.numbers.now in
    let f = c.args.f in
    let lines = c.new-lines.result in
    let items : lines.items ≡ slice_index b.shape k = c.new-lines.ensures.items ∙ c.axis.ensures.length ∙ ap (λ s. slice_index s k) c.shape-2.ensures.shape in
    let inner : lines.inner ≡ count_of (drop (k + 1) b.shape) = c.new-lines.ensures.inner ∙ c.inner.ensures.inner ∙ ap (λ s. count_of (drop (k + 1) s)) c.shape-3.ensures.shape in
    let all : length lines.numbers.now ≡ count_of b.shape = ap length c.new-lines.ensures.numbers ∙ sym (ap length c.requires.numbers ∙ length-map numbers Int) ∙ c.shape.ensures.lawful.len in
    let at_place = scan_at (dyadic_numbers f) lines.numbers.now lines.items lines.inner in
    let outcome = λ (index : List ℕ). reduction f (items_up_to b k index) in
    let shape : c.in_ok-shape.shape ≡ b.shape = search rules in
    let values = subst (λ n. IfOk c.fill_scans.result (λ v. AreValues at_place n v.items)) all c.fill_scans.ensures.values in
    let stop = subst (λ n. IfErr c.fill_scans.result (IsStopOf at_place n)) all c.fill_scans.ensures.stop in
    let outcomes = outcomes_along c.replaced_index_has_place.ensures.place c.split_index_has_place.ensures.index b numbers k c.requires.axis c.requires.numbers
    f lines.numbers.now lines.items lines.inner c.new-lines.ensures.numbers items inner in
    subst (λ s. IsAnswerOf (answer_of s outcome Number) c.array_from_fill.result) shape
    (c.array_from_fill.ensures at_place outcome (rw shape outcomes) (rw shape values) (rw shape stop))
