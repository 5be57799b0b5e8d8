use Rattle.std.proofs.Common.{◌<◌, length, map, sym, ap, ◌∙◌, arith}
use Rattle.std.proofs.Math.Nat.{zero-add}
use Rattle.apl_reduce.specs.Items.{pair_number}
use Rattle.apl_reduce.proofs.outer_products.HeldPairsKernel.write_run.Goals as goal

pub returns-clause-values : goal.returns-clause-values
returns-clause-values g c =
    let f = c.args.self.now.pairs.f in
    let x = g.T.ElementType.elem_of c.row_from-x.result.0 in
    let others = map g.U.ElementType.elem_of c.row_from-x.result.1.now in
    let written = c.write_row.ensures.values in
    record {
      room = omega (arith, written.room);
      each = λ k d h.
          let here : k < c.write_row.result = omega (arith, h) in
          let inside : k < length c.row_from-x.result.1.now = omega (arith, here, c.write_row.ensures.within) in
          ap g.H.Held.held (c.row_from-x.ensures.pairs f k inside) ∙ ap (λ j. g.H.Held.held (pair_number f x others j)) (sym (zero-add k)) ∙ written.each k d (omega (arith, here));
    }
