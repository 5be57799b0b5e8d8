use Rattle.std.proofs.Common.{◌≡◌, pos, ◌+◌, FitsSigned, slice_index_or, bit_and, bit_or, to_z, of_z, w64, sym, ap, subst, ◌∙◌, rules, map}
use Rattle.std.proofs.lemmas.Int.{to_z-of_z}
use Rattle.apl_reduce.specs.BitFolds.{AreRunBits}
use Rattle.apl_reduce.proofs.BitFolds.{one_bit_more}
use Rattle.apl_reduce.proofs.bit_folds.RunBitsKnownRun.with_next.Goals as goal

pub returns : goal.returns
returns g c = λ first count there before.
    let numbers = map g.T.Numeric.number_in c.args.numbers.now in
    let run = c.args.self.now in
    let x = slice_index_or numbers c.args.place (pos 0) in
    let read : c.number_at.result ≡ x = c.number_at.ensures in
    let fits_there : FitsSigned w64 x = subst (FitsSigned w64) read (search rules) in
    let same : x ≡ slice_index_or numbers (first + count) (pos 0) = ap (λ n. slice_index_or numbers n (pos 0)) (sym there) in
    let bits = c.cast_unsigned-bits.ensures ∙ ap (λ z. of_z w64 (to_z w64 (of_z w64 z))) read ∙ ap (of_z w64) (to_z-of_z w64 x fits_there) ∙ ap (of_z w64) same in
    subst (λ m. AreRunBits numbers first (count + 1) (bit_and run.all m) (bit_or run.any m)) (sym bits)
    (one_bit_more numbers first count run.all run.any (subst (FitsSigned w64) same fits_there) before)
