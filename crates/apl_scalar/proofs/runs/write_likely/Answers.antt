use Rattle.std.proofs.Common.{◌≡◌, ◌∙◌, to_z, of_z, w64, ap, arith, rules}
use Rattle.std.proofs.lemmas.Nat.{le_or_l, le_or_r}
use Rattle.apl_scalar.proofs.runs.write_likely.Goals as goal

pub loop-k-preserved : goal.loop-k-preserved
loop-k-preserved g c = record {
  sure = λ none.
      let before : c.loop-k.all_doubts ≡ 0 = omega (arith, none, le_or_l c.loop-k.all_doubts c.likely_at-value.result.1) in
      let here : c.likely_at-value.result.1 ≡ 0 = omega (arith, none, le_or_r c.loop-k.all_doubts c.likely_at-value.result.1) in
      let earlier = c.loop-k.invariant.sure before in
      let stored : to_z w64 (of_z w64 c.likely_at-value.result.0) ≡ c.likely_at-value.result.0 = search rules in
      let value = ap g.H.Held.held (c.likely_at-value.ensures here) ∙ (rw stored at c.of.ensures) in
      search (rules, earlier, value);
  len = search rules;
}
