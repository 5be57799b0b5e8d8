use Rattle.apl_walk.proofs.Started.{start_within}
use Rattle.apl_walk.proofs.starts.Start.place.Goals as goal

pub step-requires : goal.step-requires
step-requires c = start_within c.args.maps.now c.first-item.result c.args.line c.args.self c.requires c.in-len1-up.len_at_least c.first-item.is
