use Rattle.std.proofs.Common.{◌≡◌, ℤ, pos, ◌-◌, ◌%◌, slice_index_or, to_z, of_z, w64, sym, ap, ◌∙◌, rules}
use Rattle.apl_pool.specs.Summaries.{fold_onto}
use Rattle.apl_scan.specs.Running.{stretch}
use Rattle.apl_scan.proofs.ScannedPlaces.{scan_is}
use Rattle.apl_scan.proofs.summarized.ScansKernel.at.Goals as goal

pub returns : goal.returns
returns g c =
    let self = c.args.self.now in
    let place = c.args.place in
    let list = stretch self.numbers.now (place - place % self.items) (place % self.items) in
    let x : ℤ = slice_index_or self.numbers.now place (pos 0) in
    let read : to_z w64 (of_z w64 x) ≡ x = search rules in
    c.fold_behind.ensures list c.before-2.ensures ∙ ap (fold_onto g.S.Summary.step list) read ∙ sym (scan_is g.S.Summary.step self.numbers.now self.items place c.requires)
