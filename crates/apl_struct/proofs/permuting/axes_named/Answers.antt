use Rattle.std.proofs.Common.{rules}
use Rattle.std.proofs.lemmas.Simd.{map-map}
use Rattle.apl_array.specs.Axes.{from_origin, place_number}
use Rattle.apl_struct.proofs.permuting.axes_named.Goals as goal

pub returns-clause-axes : goal.returns-clause-axes
returns-clause-axes c = rw (map-map place_number (from_origin c.args.origin) c.args.numbers.now) (search rules)
