use Rattle.std.proofs.Common.{◌≡◌, ◌+◌, ◌*◌, ◌/◌, ◌%◌, length, slice_index, sym, ap, ◌∙◌, arith}
use Rattle.std.proofs.lemmas.List.{length-append}
use Rattle.apl_walk.specs.Ones.{ones_before}
use Rattle.apl_walk.proofs.Bits.{ones_none, ones_few, push_each}
use Rattle.apl_walk.proofs.counted.count_blocks.Goals as goal
use Rattle.apl_walk.proofs.counted.count_blocks.Goals.{After-few_ones-2}

pub loop-block-init : goal.loop-block-init
loop-block-init c = record {
  len = ap length c.in_ok-before.ensures.items;
  each = λ block below. absurd (omega (arith, below));
  ones = sym (ones_none c.args.bits.now);
  room = omega (arith, c.in_ok-before.ensures.capacity);
}

pub overflow_add-ones : goal.overflow_add-ones
overflow_add-ones c = omega (arith, c.loop-block.invariant.ones, c.few_ones.ensures, ones_few c.args.bits.now (c.loop-block.block * 128 + 128), c.loop-block-test.true)

pub loop-block-preserved : goal.loop-block-preserved
loop-block-preserved c =
    let bits = c.args.bits.now in
    let block = c.loop-block.block in
    let kept = c.loop-block.invariant in
    let next : block * 128 + 128 ≡ (block + 1) * 128 = omega arith in
    record {
      len = ap length c.push_reserved.ensures.items ∙ simp length-append (omega (arith, kept.len));
      each = λ j below. ap (λ xs. slice_index xs j) c.push_reserved.ensures.items ∙ push_each c.loop-block.before.items c.loop-block.ones block (λ n. ones_before bits (n * 128)) kept.len kept.each kept.ones j below;
      ones = omega (arith, kept.ones, c.few_ones.ensures) ∙ ap (ones_before bits) next;
      room = omega (arith, kept.room, c.push_reserved.ensures.capacity);
    }

counted : (c : After-few_ones-2) → let bits = c.args.bits.now in (c.loop-block.block ≡ length bits / 128) × (c.loop-block.ones + c.few_ones-2.result ≡ ones_before bits (length bits))
counted c =
    let bits = c.args.bits.now in
    let last : c.loop-block.block ≡ length bits / 128 = omega (arith, c.loop-block-test.false, c.loop-block.auto.block-end) in
    let before : c.loop-block.ones ≡ ones_before bits (length bits / 128 * 128) = c.loop-block.invariant.ones ∙ ap (λ n. ones_before bits (n * 128)) last in
    let all : length bits / 128 * 128 + length bits % 128 ≡ length bits = omega arith in
    (last, omega (arith, before, c.few_ones-2.ensures) ∙ ap (ones_before bits) all)

pub overflow_add-ones-2 : goal.overflow_add-ones-2
overflow_add-ones-2 c = omega (arith, (counted c).1, ones_few c.args.bits.now (length c.args.bits.now), c.requires)

pub returns : goal.returns
returns c =
    let bits = c.args.bits.now in
    let kept = c.loop-block.invariant in
    let made = counted c in
    let pushed = c.push_reserved-2.ensures.items in
    let len : length c.push_reserved-2.new.self.items ≡ c.loop-block.block + 1 = ap length pushed ∙ simp length-append (omega (arith, kept.len)) in (
      record {
        some = omega (arith, len);
        within = omega (arith, len, made.0);
        all = omega (arith, len, made.0);
        each = λ j below.
            ap (λ xs. slice_index xs j) pushed ∙ push_each c.loop-block.before.items c.loop-block.ones c.loop-block.block (λ n. ones_before bits (n * 128)) kept.len kept.each kept.ones j (omega (arith, below, len));
      },
      made.1,
    )
