use Rattle.std.proofs.Common.{◌+◌, ◌*◌, ◌≤◌, inl, below_more, mul-le-mul_right, arith, rules}
use Rattle.apl_scan.proofs.TruthLines.{still_ended}
use Rattle.apl_scan.proofs.truth_lines.join_lines.Goals as goal

pub loop-line-preserved : goal.loop-line-preserved
loop-line-preserved g c =
    let items = c.args.items in
    let line = c.loop-line.line in
    let truths = c.args.truths.now in
    record {
      len = search rules;
      lines = below_more _ _
          (λ other below.
          let apart : (other + 1) * items ≤ line * items = mul-le-mul_right items (omega (arith, below)) in
          still_ended c.args.end truths (other * items) items c.loop-line.room c.write_line.new.room (c.loop-line.invariant.lines other below)
          (λ k d inside. c.write_line.ensures.outside k d (inl (omega (arith, inside, apart)))))
          c.write_line.ensures.line;
    }
