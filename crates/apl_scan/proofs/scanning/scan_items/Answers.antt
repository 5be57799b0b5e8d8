use Rattle.std.proofs.Common.{◌≡◌, ap}
use Rattle.apl_array.specs.declared.array.Kind.TheVariants.{Number}
use Rattle.apl_array.specs.Array.{ArrayValue}
use Rattle.apl_scan.proofs.scanning.scan_items.Goals as goal

pub returns-in-Numbers : goal.returns-in-Numbers
returns-in-Numbers g c =
    let number : c.args.b.now.kind ≡ Number = ap (λ (a : ArrayValue). a.kind) c.in-Numbers.ensures.elements in
    rw number c.scan_held.ensures

pub returns-in-Truths : goal.returns-in-Truths
returns-in-Truths g c =
    let number : c.args.b.now.kind ≡ Number = ap (λ (a : ArrayValue). a.kind) c.in-Truths.ensures.elements in
    rw number c.scan_truths.ensures

pub returns-in-Narrow : goal.returns-in-Narrow
returns-in-Narrow g c =
    let number : c.args.b.now.kind ≡ Number = ap (λ (a : ArrayValue). a.kind) c.in-Narrow.ensures.elements in
    rw number c.scan_held-in-Narrow.ensures
