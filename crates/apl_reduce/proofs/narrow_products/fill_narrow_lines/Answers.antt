use Rattle.std.proofs.Common.{◌≡◌, map, ap}
use Rattle.apl_array.specs.declared.array.Elem.TheVariants.{Int}
use Rattle.apl_reduce.proofs.narrow_products.fill_narrow_lines.Goals as goal
