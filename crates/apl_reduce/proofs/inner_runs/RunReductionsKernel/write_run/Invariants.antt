use Rattle.std.proofs.Common.{◌≡◌, ◌+◌, map, length}
use Rattle.apl_pool.specs.Runs.{AreWritten}
use Rattle.apl_reduce.specs.declared.item_runs.TheConstants.{LONGEST_RUN}
use Rattle.apl_reduce.specs.Layouts.{inner_number}
use Rattle.apl_reduce.proofs.inner_runs.RunReductionsKernel.write_run.Given as goal

abbrev pub invariant-loop-place : goal.invariant-loop-place
invariant-loop-place g l =
    let x = l.self.items in
    let number = inner_number x.layout.now (map g.T.ElementType.elem_of x.left.now) (map g.U.ElementType.elem_of x.right.now) l.self.f x.pairing.0 in
    record {
      written : AreWritten number l.from l.place l.room;
      room : length l.room ≡ length l.initial.room;
      run : length l.run ≡ LONGEST_RUN + 1;
    }
