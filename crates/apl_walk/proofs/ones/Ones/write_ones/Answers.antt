use Rattle.std.proofs.Common.{◌≡◌, ◌+◌, ◌-◌, ◌*◌, slice_index_or, ap, ◌∙◌, arith}
use Rattle.apl_walk.specs.Ones.{one_index, ones_before}
use Rattle.apl_walk.proofs.ones.Ones.write_ones.Goals as goal

pub write_turns-begun-requires : goal.write_turns-begun-requires
write_turns-begun-requires g c = record {
  some = omega arith;
  few = omega arith;
  ones = omega (arith, c.requires.ones, c.args.self.now.counted.all);
  near = c.requires.near;
  before = record { few = omega arith; each = λ k d below. absurd (omega (arith, below)) };
}

pub returns-clause-each : goal.returns-clause-each
returns-clause-each g c = λ k d inside.
    let bits = c.args.self.now.counted.bits.now in
    let last = c.write_turns.result in
    let here : ones_before bits last.0 - last.1 + k ≡ ones_before bits c.args.first + k = omega (arith, c.write_turns.ensures.count, c.write_turns-begun.ensures.count) in
    c.write_turns.ensures.written.each k d (omega (arith, inside, c.write_turns.ensures.full, c.write_turns-begun.ensures.len))
    ∙ ap (λ n. slice_index_or c.args.line.now (one_index bits n * c.args.stride) d) here
