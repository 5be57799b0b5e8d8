use Rattle.std.proofs.Common.{length, arith}
use Rattle.apl_scan.proofs.ScannedPlaces.{chunk_within, chunks_within}
use Rattle.apl_scan.proofs.summarized.summarize_lines.Goals as goal

pub invariant_of-chunks : goal.invariant_of-chunks
invariant_of-chunks g c =
    let count = length c.args.numbers.now in
    let items = c.args.items in
    let per_line = c.args.per_line in
    record {
      most = c.requires.most;
      some = omega (arith, c.new-2.ensures, c.if-per_line-eq0.false);
      within = λ row inside. rw c.new-2.ensures (chunk_within count items per_line row (omega (arith, c.if-per_line-eq0.false)) c.requires.within inside);
      all = omega (arith, chunks_within count items per_line c.requires.within, c.requires.most);
    }
