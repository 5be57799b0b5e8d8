use Rattle.std.proofs.Common.{◌≡◌, ◌+◌, ℤ, Ok, map, to_z, of_z, w64, subst, arith, rules}
use Rattle.apl_array.specs.declared.array.Elem.TheVariants.{Int}
use Rattle.apl_reduce.specs.Folded.{folded_onto}
use Rattle.apl_reduce.specs.Items.{item_in}
use Rattle.apl_reduce.proofs.ExtremeFolds.{one_more, of_both}
use Rattle.apl_reduce.proofs.extreme_folds.extreme_onto.Goals as goal

pub loop-k-preserved : goal.loop-k-preserved
loop-k-preserved g c =
    let first = c.args.first in
    let k = c.loop-k.k in
    let next = one_more g.E.Extreme.function g.E.Extreme.of_two c.of_two-low.ensures.laws (map g.T.Numeric.number_in c.args.numbers.now) in
    let low = next first k _ _ c.loop-k.invariant.low in
    let high = next (first + c.args.half) k _ _ c.loop-k.invariant.high in
    search rules

pub returns : goal.returns
returns g c =
    let f = g.E.Extreme.function in
    let numbers = map g.T.Numeric.number_in c.args.numbers.now in
    let item = item_in (map Int numbers) in
    let first = c.args.first in
    let half = c.args.half in
    let total = c.args.total in
    let read : to_z w64 (of_z w64 total) ≡ total = search rules in
    let done : c.loop-k.k ≡ half = omega (arith, c.loop-k-test.false, c.loop-k.auto.k-end) in
    let x = to_z w64 c.loop-k.low-bits in
    let y = to_z w64 c.loop-k.high-bits in
    let low = subst (λ n. folded_onto f item first n (Ok (to_z w64 (of_z w64 total))) ≡ Ok x) done c.loop-k.invariant.low in
    let high = subst (λ n. folded_onto f item (first + half) n (Ok (to_z w64 (of_z w64 total))) ≡ Ok y) done c.loop-k.invariant.high in
    let of_low = subst (λ (z : ℤ). folded_onto f item first half (Ok z) ≡ Ok x) read low in
    let of_high = subst (λ (z : ℤ). folded_onto f item (first + half) half (Ok z) ≡ Ok y) read high in
    let joined = of_both f g.E.Extreme.of_two c.of_two.ensures.laws numbers first half total x y of_low of_high in
    search rules
