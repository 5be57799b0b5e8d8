use Rattle.std.proofs.Common.{◌≡◌, ◌<◌, length, slice_index, ◌∙◌, arith}
use Rattle.std.proofs.lemmas.Grind.{get_or_default_zero}
use Rattle.apl_pool.proofs.Bounds.{bounds_within}
use Rattle.apl_pool.proofs.pieces.Pieces.start.Goals as goal

pub returns-clause-within : goal.returns-clause-within
returns-clause-within c =
    let starts = c.args.self.now.starts.items in
    let are = c.args.self.now.starts_are in
    let inside : c.args.number < length starts = omega (arith, are.len, c.requires) in
    let here : c.index.result.now ≡ slice_index starts c.args.number = c.index.ensures ∙ get_or_default_zero starts c.args.number c.index.result.now inside in
    omega (arith, here, bounds_within _ _ starts are c.args.number (omega (arith, c.requires)))
