use Rattle.std.proofs.Common.{◌≡◌, pos, ◌+◌, ◌%◌, ◌^◌, FitsSigned, slice_index_or, bit_or, to_z, of_z, w64, sym, ap, subst, ◌∙◌, rules, map}
use Rattle.std.specs.Int.Bits.{bit_xor}
use Rattle.std.proofs.lemmas.Int.{to_z-of_z}
use Rattle.apl_reduce.specs.SignFolds.{AreRunSigns}
use Rattle.apl_reduce.proofs.SignFolds.{one_sign_more}
use Rattle.apl_reduce.proofs.sign_folds.RunSignsKnownRun.with_next.Goals as goal

pub returns : goal.returns
returns g c = λ first count there before.
    let numbers = map g.T.Numeric.number_in c.args.numbers.now in
    let run = c.args.self.now in
    let law = c.range_is_decided.ensures in
    let bits = c.cast_unsigned-bits.result in
    let x = slice_index_or numbers c.args.place (pos 0) in
    let read : c.number_at.result ≡ x = c.number_at.ensures in
    let fits_there : FitsSigned w64 x = subst (FitsSigned w64) read (search rules) in
    let same : x ≡ slice_index_or numbers (first + count) (pos 0) = ap (λ n. slice_index_or numbers n (pos 0)) (sym there) in
    let is = c.cast_unsigned-bits.ensures ∙ ap (λ z. of_z w64 (to_z w64 (of_z w64 z))) read ∙ ap (of_z w64) (to_z-of_z w64 x fits_there) ∙ ap (of_z w64) same in
    subst (λ m. AreRunSigns numbers first (count + 1) (bit_xor run.signs bits) (bit_or run.sums m)) (sym c.one_more.ensures)
    (subst (λ m. AreRunSigns numbers first (count + 1) (bit_xor run.signs m) (bit_or run.sums ((m + 1) % 2 ^ 64))) (sym is)
    (one_sign_more law.decided law.bits numbers first count run.signs run.sums (subst (FitsSigned w64) same fits_there) before))
