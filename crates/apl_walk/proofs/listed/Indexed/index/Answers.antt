use Rattle.std.proofs.Common.{◌<◌}
use Rattle.std.proofs.lemmas.List.Elements.{All-get_or}
use Rattle.apl_walk.proofs.listed.Indexed.index.Goals as goal

pub returns-clause-below : goal.returns-clause-below
returns-clause-below c = let s = c.args.self.now in All-get_or (λ j. j < s.axis_length) s.indexes.now c.args.i 0 c.requires s.within
