use Rattle.std.proofs.Common.{◌≡◌, ℕ, ◌<◌, ◌-◌, List, false, take, length, replicate, slice_index_or, ap, ◌∙◌, arith, rules}
use Rattle.std.proofs.lemmas.List.{length-append, length-replicate, length-set, take_at}
use Rattle.apl_struct.proofs.Kept.{byte_most, kept_more}
use Rattle.apl_struct.proofs.bits.keep_up_to.Goals as goal

pub loop-i-init : goal.loop-i-init
loop-i-init c =
    let items = c.args.table.now.items in
    let room : List ℕ = replicate (c.args.to - c.args.from) 0 in
    let places = c.as_mut_slice-places.ensures.value ∙ c.push_times.ensures.items in
    let own : length items ≡ c.len-kept.result = search rules in
    record {
      few = omega (arith, own);
      kept = ap (take c.len-kept.result) places ∙ take_at items room c.len-kept.result own ∙ c.requires.kept;
      len = rw places (simp (length-append, length-replicate) (omega arith));
    }

pub loop-i-preserved : goal.loop-i-preserved
loop-i-preserved c =
    let truths = c.args.truths.now in
    let i = c.loop-i.i in
    let kept = c.loop-i.invariant in
    let inside : i < length truths = omega (arith, c.loop-i-test.true, c.requires.places) in
    let room : c.loop-i.kept < length c.loop-i.places = omega (arith, kept.few, kept.len, c.loop-i-test.true) in
    record {
      few = omega (arith, byte_most (slice_index_or truths i false), kept.few);
      kept = kept_more truths i c.loop-i.kept c.loop-i.places inside room kept.kept;
      len = omega (arith, length-set c.loop-i.places c.loop-i.kept i, kept.len);
    }
