use Rattle.std.proofs.Common.{◌≡◌, ◌+◌, ◌∙◌, ℕ, ℤ, Bool, List, Result, length, map, slice_index, ap, sym, subst, refl, arith, rules}
use Rattle.std.specs.Prelude.{drop}
use Rattle.std.proofs.lemmas.List.{length-map}
use Rattle.std.proofs.lemmas.Simd.{map-map}
use Rattle.apl_array.specs.declared.array.Elem.TheVariants.{Int}
use Rattle.apl_array.specs.declared.array.Kind.TheVariants.{Number}
use Rattle.apl_array.specs.Array.{bit, truth_element}
use Rattle.apl_array.specs.Shape.{count_of}
use Rattle.apl_answer.specs.Elements.{HaveOutcomes}
use Rattle.apl_answer.specs.Pointwise.{answer_of, IsAnswerOf}
use Rattle.apl_pool.specs.declared.kernel.Fault.{Fault}
use Rattle.apl_scalar.specs.Scalar.{dyadic_numbers, truth_outcome}
use Rattle.apl_scan.specs.Lines.{scan_at}
use Rattle.apl_scan.specs.Scanning.{items_up_to}
use Rattle.apl_scan.specs.TruthLines.{AreTruthScans}
use Rattle.apl_reduce.specs.Folding.{reduction}
use Rattle.apl_scan.proofs.ScannedLines.{AreLines, are_lines, outcomes_along}
use Rattle.apl_scan.proofs.TruthLines.{truths_are, same_elements}
use Rattle.apl_scan.proofs.scanning.scan_truths.Goals as goal
use Rattle.apl_scan.proofs.scanning.scan_truths.Goals.{After-axis-items}

-- the truth values are whole lines along the axis, which is of neighbours
record AreTruthLines (g : _) (c : After-axis-items g) : Type 0 where
  items : c.axis-items.result ≡ slice_index c.args.b.now.shape c.args.k
  inner : 1 ≡ count_of (drop (c.args.k + 1) c.args.b.now.shape)
  all : length c.args.truths.now ≡ count_of c.args.b.now.shape
  lines : AreLines c.args.b.now.shape c.args.k (length c.args.truths.now)

are_truth_lines : (g : _) (c : After-axis-items g) → AreTruthLines g c
are_truth_lines g c =
    let b = c.args.b.now in
    let k = c.args.k in
    let truths = c.args.truths.now in
    let items : c.axis-items.result ≡ slice_index b.shape k = c.axis-items.ensures.length ∙ ap (λ s. slice_index s k) c.shape-then-inner-eq1.ensures.shape in
    let told : c.inner.result ≡ count_of (drop (k + 1) b.shape) = c.inner.ensures.inner ∙ ap (λ s. count_of (drop (k + 1) s)) c.shape.ensures.shape in
    let one : c.inner.result ≡ 1 = search rules in
    let inner = sym one ∙ told in
    let all : length truths ≡ count_of b.shape = sym (ap length c.requires.truths ∙ length-map truths truth_element) ∙ c.shape.ensures.lawful.len in
    record {
      items = items;
      inner = inner;
      all = all;
      lines = are_lines b.shape k (length truths) inner all (c.replaced_index_has_place.ensures.count b.shape k c.requires.axis) c.requires.some c.shape.ensures.lawful.shape.count;
    }

pub scan_lines-requires-clause-lines : goal.scan_lines-requires-clause-lines
scan_lines-requires-clause-lines g c = λ κs lives.
    let lines = are_truth_lines g c in
    rw lines.items lines.lines.whole

pub returns-in-Some-Truths : goal.returns-in-Some-Truths
returns-in-Some-Truths g c =
    let lines = are_truth_lines g (goal.at.returns-in-Some-Truths g c).After-axis-items in
    let b = c.args.b.now in
    let k = c.args.k in
    let f = c.args.f in
    let truths = c.args.truths.now in
    let items = c.axis-items.result in
    let values = c.in-Some-Truths.values in
    let folds : AreTruthScans f truths items (map bit values.items) = rw c.in-Some-Truths.field-0-is at (rw c.in-Some-Truths.is at c.in_ok-values.ensures) in
    let at_place : ℕ → Result ℤ Fault = scan_at (dyadic_numbers f) (map bit truths) items 1 in
    let truth_at : ℕ → Result Bool Fault = λ place. truth_outcome (at_place place) in
    let outcome = λ (index : List ℕ). reduction f (items_up_to b k index) in
    let shape : c.in_ok-copy-in-Some-Truths.field-0 ≡ b.shape = search rules in
    let ravel : b.ravel ≡ map Int (map bit truths) = c.requires.truths ∙ sym (map-map Int bit truths) in
    let outcomes = outcomes_along c.replaced_index_has_place.ensures.place c.split_index_has_place.ensures.index b (map bit truths) k c.requires.axis ravel
    f (map bit truths) items 1 refl lines.items lines.inner in
    let same = same_elements at_place (length truths) values.items folds in
    let told : HaveOutcomes truth_element truth_at b.shape outcome = λ place inside. same place (omega (arith, inside, lines.all)) ∙ outcomes place inside in
    let are = truths_are at_place (length truths) values.items folds in
    subst (λ s. IsAnswerOf (answer_of s outcome Number) c.array_from_fill.result) shape
    (c.array_from_fill.ensures truth_at outcome (rw shape told) (rw (shape, sym lines.all, c.in-Some-Truths.field-0-is) are) (search rules))

pub returns-in-Some-Numbers : goal.returns-in-Some-Numbers
returns-in-Some-Numbers g c =
    let lines = are_truth_lines g (goal.at.returns-in-Some-Numbers g c).After-axis-items in
    let b = c.args.b.now in
    let k = c.args.k in
    let f = c.args.f in
    let truths = c.args.truths.now in
    let items = c.axis-items.result in
    let folds : AreTruthScans f truths items c.in-Some-Numbers.values.items = rw c.in-Some-Numbers.field-0-is at (rw c.in-Some-Numbers.is at c.in_ok-values.ensures) in
    let at_place : ℕ → Result ℤ Fault = scan_at (dyadic_numbers f) (map bit truths) items 1 in
    let outcome = λ (index : List ℕ). reduction f (items_up_to b k index) in
    let shape : c.in_ok-copy-in-Some-Numbers.field-0 ≡ b.shape = search rules in
    let ravel : b.ravel ≡ map Int (map bit truths) = c.requires.truths ∙ sym (map-map Int bit truths) in
    let outcomes = outcomes_along c.replaced_index_has_place.ensures.place c.split_index_has_place.ensures.index b (map bit truths) k c.requires.axis ravel
    f (map bit truths) items 1 refl lines.items lines.inner in
    subst (λ s. IsAnswerOf (answer_of s outcome Number) c.array_from_fill-in-Some-Numbers.result) shape
    (c.array_from_fill-in-Some-Numbers.ensures at_place outcome (rw shape outcomes) (rw (shape, sym lines.all, c.in-Some-Numbers.field-0-is) folds) (search rules))
