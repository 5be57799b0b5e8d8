use Rattle.std.proofs.Common.{◌≡◌, ap, refl, sym, ◌∙◌}
use Rattle.std.specs.Prelude.{nat_abs, length, map}
use Rattle.apl_answer.specs.Arguments.{size_of, numbers_of}
use Rattle.apl_struct.specs.Taking.{with_axes}
use Rattle.apl_struct.proofs.taking.take.Goals as goal

pub returns : goal.returns
returns g c =
    let b = c.args.b.now in
    let numbers : numbers_of c.args.a.now ≡ c.as_slice-numbers.result.now = c.in_ok-numbers.ensures.numbers ∙ sym c.as_slice-numbers.ensures in
    let shape : c.in_ok-argument.argument ≡ (with_axes (size_of c.args.a.now) b).shape =
    c.in_ok-argument.ensures.shape ∙ ap (λ n. (with_axes n b).shape) (ap length c.as_slice-numbers.ensures ∙ c.in_ok-numbers.ensures.len) in
    rw (c.in_ok-numbers.ensures.judged (map nat_abs (numbers_of c.args.a.now)), numbers, ← shape) (c.taken.ensures _ (λ index lawful. refl))
