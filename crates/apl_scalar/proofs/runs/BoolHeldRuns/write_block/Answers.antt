use Rattle.std.proofs.Common.{◌∙◌, ℕ, Bool, Ok, sym, ap, arith}
use Rattle.apl_scalar.specs.Scalar.{truth_outcome}
use Rattle.apl_scalar.proofs.runs.BoolHeldRuns.write_block.Goals as goal

pub returns-clause-values : goal.returns-clause-values
returns-clause-values g c = λ sure.
    let outcome = λ (place : ℕ). truth_outcome (g.P.Results.outcome c.args.results place) in
    let block = c.write_likely-doubts.ensures.values sure in
    record {
      each = λ k d inside.
          block.each k d (omega (arith, inside)) ∙ ap (λ (z : Bool). Ok z) (sym (c.loop-k.invariant.here k d (omega (arith, inside, c.loop-k-test.false, c.loop-k.auto.k-end))));
    }

pub returns-clause-others : goal.returns-clause-others
returns-clause-others g c = record {
  less = λ k d inside. c.loop-k.invariant.less k d inside;
  more = λ k d inside. c.loop-k.invariant.more k d (omega (arith, inside, c.loop-k.auto.k-end));
}
