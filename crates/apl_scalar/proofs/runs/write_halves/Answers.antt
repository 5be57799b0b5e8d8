use Rattle.std.proofs.Common.{◌≡◌, ℕ, ◌+◌, ◌-◌, ◌*◌, ◌≤◌, Ok, bit_or, slice_index_or, inl, inr, ⊎_elim, ap, sym, subst, ◌∙◌, arith, rules}
use Rattle.std.proofs.Math.Nat.{mul-le-mul_right}
use Rattle.std.proofs.lemmas.Bool.{cases_lt}
use Rattle.std.proofs.lemmas.Nat.{le_or_l, le_or_r}
use Rattle.apl_scalar.specs.Runs.{HasPart, DiffersIn}
use Rattle.apl_scalar.proofs.Parts.{grown, kept}
use Rattle.apl_scalar.proofs.runs.write_halves.Goals as goal

pub loop-block-preserved : goal.loop-block-preserved
loop-block-preserved g c =
    let outcome = λ (place : ℕ). g.H.Held.held (g.P.Results.outcome c.args.results place) in
    let from = c.args.from in
    let size = c.block_places-size.result in
    let half = c.args.blocks * size in
    let done = c.loop-block.block * size in
    let doubts = c.loop-block.all_doubts in
    let first_doubts = c.write_block-all_doubts.result in
    let second_doubts = c.write_block-all_doubts-in-loop-block.result in
    let start = c.loop-block.room in
    let middle = c.write_block-all_doubts.new.room in
    let end = c.write_block-all_doubts-in-loop-block.new.room in
    let earlier = c.loop-block.invariant in
    let made = rw (sym c.block_places-size.ensures.value) at c.write_block-all_doubts.ensures in
    let more = rw (sym c.block_places-size.ensures.value) at c.write_block-all_doubts-in-loop-block.ensures in
    let inside : done + size ≤ half = omega (arith, mul-le-mul_right size c.loop-block-test.true) in
    let own : 0 + done ≡ done = omega arith in
    let next : (c.loop-block.block + 1) * size ≡ done + size = omega arith in
    record {
      first = λ none.
          let both : bit_or doubts first_doubts ≡ 0 = omega (arith, none, le_or_l (bit_or doubts first_doubts) second_doubts) in
          let before : doubts ≡ 0 = omega (arith, both, le_or_l doubts first_doubts) in
          let here : first_doubts ≡ 0 = omega (arith, both, le_or_r doubts first_doubts) in
          subst (λ n. HasPart outcome from 0 n end) (sym next)
          (kept outcome from middle end 0 (done + size) (half + done) size (inl (omega (arith, inside)))
          (grown outcome from start middle 0 done size (earlier.first before) (subst (λ n. HasPart outcome from n size middle) (sym own) (made.values here))
          (subst (λ n. DiffersIn n size start middle) (sym own) made.others))
          more.others);
      second = λ none.
          let both : bit_or doubts first_doubts ≡ 0 = omega (arith, none, le_or_l (bit_or doubts first_doubts) second_doubts) in
          let before : doubts ≡ 0 = omega (arith, both, le_or_l doubts first_doubts) in
          let here : second_doubts ≡ 0 = omega (arith, none, le_or_r (bit_or doubts first_doubts) second_doubts) in
          subst (λ n. HasPart outcome from half n end) (sym next)
          (grown outcome from middle end half done size (kept outcome from start middle half done done size (inr inside) (earlier.second before) made.others) (more.values here) more.others);
      len = search rules;
    }

pub returns-clause-values : goal.returns-clause-values
returns-clause-values g c = λ sure.
    let outcome = λ (place : ℕ). g.H.Held.held (g.P.Results.outcome c.args.results place) in
    let from = c.args.from in
    let size = c.block_places-size.result in
    let half = c.args.blocks * size in
    let kept = c.loop-block.invariant in
    let none : c.loop-block.all_doubts ≡ 0 = search rules in
    let whole : c.loop-block.block * size ≡ half = ap (λ n. n * size) (omega (arith, c.loop-block-test.false, c.loop-block.auto.block-end)) in
    let first = rw whole at (kept.first none) in
    let second = rw whole at (kept.second none) in
    let own : c.args.blocks * g.H.HeldRuns.block ≡ half = ap (λ n. c.args.blocks * n) (sym c.block_places-size.ensures.value) in
    record {
      room = omega (arith, own, c.requires.room, kept.len);
      each = λ k d inside.
          ⊎_elim
          (λ less.
          let here : 0 + k ≡ k = omega arith in
          let place : from + 0 + k ≡ from + k = omega arith in
          ap outcome (sym place) ∙ first.each k d less ∙ ap (λ i. Ok (slice_index_or c.loop-block.room i d)) here)
          (λ more.
          let j = k - half in
          let here : half + j ≡ k = omega (arith, more) in
          let place : from + half + j ≡ from + k = omega (arith, more) in
          ap outcome (sym place) ∙ second.each j d (omega (arith, more, inside, own)) ∙ ap (λ i. Ok (slice_index_or c.loop-block.room i d)) here)
          (cases_lt k half);
    }
