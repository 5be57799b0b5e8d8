use Rattle.std.proofs.Common.{◌≡◌, ℕ, ◌+◌, ◌<◌, false, length, slice_index_or, slice_set, sym, ap, ◌∙◌, arith, inl, inr}
use Rattle.std.proofs.lemmas.Bool.{cases_lt}
use Rattle.std.proofs.lemmas.List.{get_or-set_same, get_or-set_other}
use Rattle.apl_walk.specs.Ones.{expanded_value, ones_before}
use Rattle.apl_walk.proofs.Bits.{byte_most, bytes_more, ones_few}
use Rattle.apl_walk.proofs.expanded.Expanded.write_rest.Goals as goal

pub overflow_add-ones-in-loop-k : goal.overflow_add-ones-in-loop-k
overflow_add-ones-in-loop-k g c =
    let axis = c.args.self.counted in
    let bits = axis.bits.now in
    let i = c.args.from + c.loop-k.k in
    omega (arith, c.loop-k.invariant.ones, ones_few bits i, byte_most (slice_index_or bits i false), axis.most, c.requires.within, c.loop-k-test.true)

pub loop-k-preserved : goal.loop-k-preserved
loop-k-preserved g c =
    let axis = c.args.self.counted in
    let bits = axis.bits.now in
    let line = c.args.line.now in
    let k = c.loop-k.k in
    let kept = c.loop-k.invariant in
    let x = c.next_or.result in
    let value : ℕ → g.row.T.Denot = λ j. expanded_value bits line c.args.self.stride c.args.fill (c.args.from + j) in
    let free : k < length c.loop-k.room = omega (arith, c.loop-k-test.true, c.loop-k.auto.room, c.requires.room) in
    let next : c.args.from + k + 1 ≡ c.args.from + (k + 1) = omega arith in
    record {
      values = λ j d below.
          elim (cases_lt j k) [
            | inl early ↦ kept.values j d early ∙ sym (get_or-set_other c.loop-k.room k j x d (λ same. omega (arith, same, early)))
            | inr late ↦
                let last : j ≡ k = omega (arith, late, below) in
                ap value last ∙ sym c.next_or.ensures ∙ sym (get_or-set_same c.loop-k.room k x d free) ∙ ap (λ n. slice_index_or (slice_set c.loop-k.room k x) n d) (sym last)
          ];
      ones = omega (arith, kept.ones, bytes_more bits (c.args.from + k) (omega (arith, c.loop-k-test.true, c.requires.within))) ∙ ap (ones_before bits) next;
    }
