use Rattle.std.proofs.Common.{◌≡◌, ℕ, ℤ, pos, ◌+◌, ◌<◌, Ok, map, slice_index_or, to_z, of_z, w64, sym, ap, ◌∙◌, arith}
use Rattle.std.proofs.lemmas.Int.{to_z-of_z}
use Rattle.apl_scalar.specs.Meeting.{meeting_number}
use Rattle.apl_reduce.proofs.ItemRuns.{item_of_run, run_value}
use Rattle.apl_reduce.proofs.item_runs.LineItems+T+U+Chosen.fold_run.Goals as goal

pub invariant_of-left : goal.invariant_of-left
invariant_of-left g c = record {
  within = λ k below.
      let there = c.args.self.now.left_within (c.args.first + k) (omega (arith, below, c.requires.within)) in
      omega (arith, there);
}

pub invariant_of-right : goal.invariant_of-right
invariant_of-right g c = record {
  within = λ k below.
      let there = c.args.self.now.right_within (c.args.first + k) (omega (arith, below, c.requires.within)) in
      omega (arith, there);
}

pub returns-clause-value : goal.returns-clause-value
returns-clause-value g c = λ last order right.
    let x = c.args.self.now in
    let left = map g.T.ElementType.elem_of x.left.now in
    let other = map g.U.ElementType.elem_of x.right.now in
    let item = meeting_number x.pairing.0 left x.left_start x.left_stride other x.right_start x.right_stride in
    let numbers = c.write_meeting-written.new.room in
    let each : (k : ℕ) → k < c.args.count → item (c.args.first + k) ≡ Ok (slice_index_or numbers k (pos 0)) = λ k below.
    sym (item_of_run x.pairing.0 left other x.left_start x.left_stride x.right_start x.right_stride c.args.first k)
    ∙ c.write_meeting-written.ensures.values.each k (pos 0) (omega (arith, below)) in
    let read : to_z w64 (of_z w64 c.args.folded) ≡ c.args.folded = to_z-of_z w64 c.args.folded c.ranges.folded in
    run_value item numbers c.args.f c.args.first c.args.count last _ c.fold_front.result c.ok.result order each (right ∙ ap (λ (z : ℤ). Ok z) (sym read)) c.fold_front.ensures c.ok.ensures.value
