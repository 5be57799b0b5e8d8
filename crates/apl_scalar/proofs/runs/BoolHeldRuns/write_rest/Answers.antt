use Rattle.std.proofs.Common.{◌≡◌, ◌∙◌, ℕ, ◌+◌, ◌-◌, ◌*◌, ◌≤◌, Bool, Ok, slice_index_or, ⊎_elim, sym, ap, arith, rules}
use Rattle.std.proofs.lemmas.Bool.{cases_lt}
use Rattle.std.proofs.lemmas.Nat.{le_or_l, le_or_r}
use Rattle.apl_scalar.specs.Scalar.{truth_outcome}
use Rattle.apl_scalar.proofs.runs.BoolHeldRuns.write_rest.Goals as goal

pub loop-k-init : goal.loop-k-init
loop-k-init g c = record {
  sure = λ none j d inside within. c.requires.before.each j d (omega (arith, inside));
  len = search rules;
}

pub loop-k-preserved : goal.loop-k-preserved
loop-k-preserved g c =
    let outcome = λ (place : ℕ). truth_outcome (g.P.Results.outcome c.args.results place) in
    let from = c.args.from in
    let reached = c.args.done + c.loop-k.k * 16 in
    let first = c.min-first.result in
    let doubts = c.loop-k.all_doubts in
    let block_doubts = c.write_block-all_doubts.result in
    let made = c.write_block-all_doubts.ensures in
    let after = c.write_block-all_doubts.new.room in
    let early : first ≤ reached = omega (arith, c.min-first.ensures) in
    record {
      sure = λ none j d inside within.
          let before : doubts ≡ 0 = omega (arith, none, le_or_l doubts block_doubts) in
          let here : block_doubts ≡ 0 = omega (arith, none, le_or_r doubts block_doubts) in
          ⊎_elim
          (λ less.
          c.loop-k.invariant.sure before j d (omega (arith, less, early)) within ∙ ap (λ (z : Bool). Ok z) (sym (made.others.less j d less)))
          (λ more.
          let i = j - first in
          let index : first + i ≡ j = omega (arith, more) in
          let place : from + first + i ≡ from + j = omega (arith, more) in
          ap outcome (sym place) ∙ (made.values here).each i d (omega (arith, more, inside, within, c.min-first.ensures)) ∙ ap (λ n. Ok (slice_index_or after n d)) index)
          (cases_lt j first);
      len = search rules;
    }

pub returns-clause-values : goal.returns-clause-values
returns-clause-values g c = λ none. record {
  room = omega (arith, c.requires.room, c.loop-k.invariant.len);
  each = λ j d inside.
      c.loop-k.invariant.sure none j d (omega (arith, inside, c.loop-k-test.false, c.loop-k.auto.k-end)) (omega (arith, inside));
}
