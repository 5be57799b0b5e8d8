use Rattle.std.proofs.Common.{◌≡◌, pos, ◌<◌, ◌++◌, ◌∷◌, [], length, map, slice_index_or, to_z, of_z, w64, int_eq, refl, ap, sym, ◌∙◌, arith, rules}
use Rattle.std.specs.Prelude.{vec_len}
use Rattle.std.proofs.lemmas.List.{length-append, length-map, length-take-le}
use Rattle.std.proofs.lemmas.List.Folds.{list_all_more}
use Rattle.std.specs.List.{list_all}
use Rattle.apl_array.specs.Array.{bit}
use Rattle.apl_answer.specs.Arguments.{is_bit}
use Rattle.apl_struct.proofs.Kept.{both, truth_more}
use Rattle.apl_struct.proofs.Counts.{truth_bit}
use Rattle.apl_struct.proofs.bits.judge_up_to.Goals as goal

pub loop-i-init : goal.loop-i-init
loop-i-init g c =
    let numbers = map g.T.Numeric.number_in c.args.numbers.now in
    let truths = c.args.truths.now.items in
    record {
      bits = sym (ap (list_all is_bit) (sym c.requires.before) ∙ truth_bit truths);
      len = sym (length-map truths bit) ∙ ap length c.requires.before ∙ length-take-le c.args.from numbers (omega (arith, c.requires.order, c.requires.places, length-map c.args.numbers.now g.T.Numeric.number_in));
      truths = λ all. c.requires.before;
      room = refl;
    }

pub push_reserved-requires : goal.push_reserved-requires
push_reserved-requires g c =
    let own : vec_len c.loop-i.truths ≡ length c.loop-i.truths.items = search rules in
    omega (arith, own, c.loop-i.invariant.len, c.loop-i.invariant.room, c.loop-i-test.true, c.requires.places, c.requires.room)

pub loop-i-preserved : goal.loop-i-preserved
loop-i-preserved g c =
    let numbers = map g.T.Numeric.number_in c.args.numbers.now in
    let i = c.loop-i.i in
    let kept = c.loop-i.invariant in
    let inside : i < length numbers = omega (arith, c.loop-i-test.true, c.requires.places, length-map c.args.numbers.now g.T.Numeric.number_in) in
    let z = slice_index_or numbers i (pos 0) in
    let x = c.number_at-number.result in
    let stored : to_z w64 (of_z w64 x) ≡ x = search rules in
    let read : to_z w64 (of_z w64 x) ≡ z = stored ∙ c.number_at-number.ensures in
    let bit : c.is_bit-are_bits.result ≡ is_bit z = c.is_bit-are_bits.ensures ∙ ap is_bit read in
    let one : c.push_reserved.new.self.items ≡ c.loop-i.truths.items ++ int_eq (to_z w64 (of_z w64 x)) (pos 1) ∷ [] = search (rules, c.push_reserved.ensures.items) in
    let pushed : c.push_reserved.new.self.items ≡ c.loop-i.truths.items ++ int_eq z (pos 1) ∷ [] = one ∙ ap (λ y. c.loop-i.truths.items ++ int_eq y (pos 1) ∷ []) read in
    record {
      bits = rw (kept.bits, bit) (sym (list_all_more is_bit numbers i (pos 0) inside));
      len = rw pushed (simp length-append (omega (arith, kept.len)));
      truths = λ all.
          let parts = both c.loop-i.are_bits c.is_bit-are_bits.result all in
          truth_more numbers i z c.loop-i.truths.items c.push_reserved.new.self.items (int_eq z (pos 1)) inside refl (sym bit ∙ parts.1) refl (kept.truths parts.0) pushed;
      room = c.push_reserved.ensures.capacity ∙ kept.room;
    }
