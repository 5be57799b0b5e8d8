use Rattle.std.proofs.Common.{◌≡◌, ℕ, ◌+◌, ◌-◌, ◌*◌, ◌/◌, length, slice_index_or, ap, sym, ◌∙◌, arith, rules}
use Rattle.std.specs.Prelude.{min}
use Rattle.std.proofs.lemmas.List.{get_or_read}
use Rattle.apl_walk.proofs.Lines.{more_begun, quotient_there}
use Rattle.apl_walk.proofs.Stepped.{index_within}
use Rattle.apl_walk.proofs.turned.Repeated.write_indexes.Goals as goal

pub bounds-line-index : goal.bounds-line-index
bounds-line-index g c =
    let r = c.args.self in
    let l = c.loop-done in
    index_within l.index r.times r.stride r.axis_length (length c.args.line.now) (omega (arith, l.invariant.turn, l.invariant.most, c.loop-done-test.true, c.requires.within)) c.requires.near

pub loop-done-preserved : goal.loop-done-preserved
loop-done-preserved g c =
    let r = c.args.self in
    let l = c.loop-done in
    let x = c.index-line-index.result in
    let inside = index_within l.index r.times r.stride r.axis_length (length c.args.line.now) (omega (arith, l.invariant.turn, l.invariant.most, c.loop-done-test.true, c.requires.within)) c.requires.near in
    let read = get_or_read c.args.line.now (l.index * r.stride) x inside c.index-line-index.is in
    let taken = λ (k : ℕ) (d : g.row.T.Denot). slice_index_or c.args.line.now ((c.args.from + k) / r.times * r.stride) d in
    record {
      turn = omega (arith, l.invariant.turn);
      some = omega arith;
      most = omega arith;
      whole = λ some. search rules;
      few = omega arith;
      far = omega (arith, c.loop-done-test.true);
      each = λ k d before inside.
          more_begun taken l.done (min l.left (length l.room - l.done)) (length l.room - l.done) l.room c.write_copies.new.room
          (omega (arith, c.loop-done-test.true, c.requires.room, l.auto.room)) (omega arith) (omega arith) (λ k d before. l.invariant.each k d before (omega (arith, before, c.loop-done-test.true, c.requires.room, l.auto.room)))
          (λ j d inside.
          let same : (c.args.from + (l.done + j)) / r.times ≡ l.index = quotient_there r.times l.index (c.args.from + (l.done + j)) (omega (arith, l.invariant.turn, l.invariant.most)) (omega (arith, l.invariant.turn, inside)) in
          c.write_copies.ensures.each j d (omega (arith, inside)) (omega (arith, inside)) ∙ read d ∙ ap (λ q. slice_index_or c.args.line.now (q * r.stride) d) (sym same))
          k d (omega (arith, before, inside));
    }
