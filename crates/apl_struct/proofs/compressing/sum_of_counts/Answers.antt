use Rattle.std.proofs.Common.{◌≡◌, ◌<◌, pos, length, map, to_z, of_z, w64, FitsSigned, slice_index_or, take, ap, sym, subst, ◌∙◌, arith, rules}
use Rattle.std.specs.Prelude.{◌&&◌, min}
use Rattle.std.specs.List.{list_all}
use Rattle.std.proofs.lemmas.List.{length-map}
use Rattle.std.proofs.lemmas.List.Folds.{list_all_more}
use Rattle.apl_answer.specs.Arguments.{is_natural}
use Rattle.apl_struct.specs.declared.compressing.TheConstants.{PAST}
use Rattle.apl_struct.proofs.Counts.{bits_natural_count, low_bits_natural, natural_sum}
use Rattle.apl_struct.proofs.Kept.{both}
use Rattle.apl_struct.proofs.compressing.sum_of_counts.Goals as goal

pub loop-i-preserved : goal.loop-i-preserved
loop-i-preserved g c =
    let counts = map g.T.Numeric.number_in c.args.counts.now in
    let i = c.loop-i.i in
    let kept = c.loop-i.invariant in
    let inside : i < length counts = omega (arith, c.loop-i-test.true, length-map c.args.counts.now g.T.Numeric.number_in) in
    let z = slice_index_or counts i (pos 0) in
    let n = c.cast_unsigned.result in
    let x = c.number_at.result in
    let stored : to_z w64 (of_z w64 x) ≡ x = search rules in
    let fits : FitsSigned w64 z = subst (FitsSigned w64) c.number_at.ensures (search rules) in
    let is : n ≡ of_z w64 z = c.cast_unsigned.ensures ∙ ap (of_z w64) (stored ∙ c.number_at.ensures) in
    let least : c.min-all.result ≡ min n PAST = search rules in
    let more = list_all_more is_natural counts i (pos 0) inside in
    record {
      most = omega (arith, kept.most, least);
      natural = λ few. more ∙ ap (λ b. b && is_natural z) (kept.natural (omega (arith, few))) ∙ low_bits_natural z n fits is (omega (arith, few, least));
      all = λ natural.
          let parts = both (list_all is_natural (take i counts)) (is_natural z) (sym more ∙ natural) in
          omega (arith, least, kept.all parts.0, bits_natural_count z n is parts.1, natural_sum counts i inside);
    }
