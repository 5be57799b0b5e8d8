use Rattle.std.proofs.Common.{◌++◌, take, arith, ◌∙◌}
use Rattle.std.proofs.lemmas.Grind.{common_steps}
use Rattle.std.proofs.KnownBytes.{Appends-trans}
use Rattle.apl_print.proofs.sinks.put_all.Goals as goal

-- the front grows by what the call took
pub puts-preserved : goal.puts-preserved
puts-preserved g c =
    let before = c.puts.invariant in
    let n = c.in-Ok.n in
    let rest = c.puts.rest.now in
    (before.0 ++ take n rest, grind (arith, common_steps, before.1), Appends-trans _ _ _ before.0 (take n rest) before.2 c.in-Ok.ensures.front, c.in-Ok.ensures.failures ∙ before.3)
