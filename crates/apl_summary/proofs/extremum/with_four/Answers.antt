use Rattle.std.proofs.Common.{◌≡◌, ℤ, to_z, of_z, w64, refl, sym, ◌∙◌, subst, rules}
use Rattle.apl_summary.specs.Extremes.{extreme_of_two}
use Rattle.apl_summary.specs.ExtremeRuns.{IsExtremumFrom}
use Rattle.apl_summary.proofs.FourExtremes.{extremum_with_four}
use Rattle.apl_summary.proofs.extremum.with_four.Goals as goal

pub returns : goal.returns
returns g c to inside p =
    let front = c.in_ok-front.ensures in
    let back = c.in_ok-back.ensures in
    let outcome = g.K.Kernel.outcome c.args.kernel.now in
    let e : ℤ → ℤ → ℤ = extreme_of_two c.args.is_least in
    let kept : to_z w64 (of_z w64 c.extreme_of_two.result) ≡ c.extreme_of_two.result = search rules in
    let four_kept : to_z w64 (of_z w64 c.extreme_of_two-four.result) ≡ c.extreme_of_two-four.result = search rules in
    let front_kept : to_z w64 (of_z w64 c.in_ok-front.front) ≡ c.in_ok-front.front = search rules in
    let back_kept : to_z w64 (of_z w64 c.in_ok-back.back) ≡ c.in_ok-back.back = search rules in
    let behind_kept : to_z w64 (of_z w64 c.args.behind) ≡ c.args.behind = search rules in
    let item : c.extreme_of_two.result ≡ e (e (e front.0 front.1) (e back.0 back.1)) c.args.behind =
    rw (c.extreme_of_two.ensures, four_kept, behind_kept, c.extreme_of_two-four.ensures, front_kept, back_kept, front.6, back.6) refl in
    subst (λ k. IsExtremumFrom c.args.is_least outcome c.args.place to k) (sym (kept ∙ item))
    (extremum_with_four c.args.is_least outcome c.args.place front.0 front.1 back.0 back.1 c.args.behind front.2 front.3 back.2 back.3 front.4 front.5 back.4 back.5 to inside p)
