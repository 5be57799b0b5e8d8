use Rattle.apl_reduce.proofs.axis_items.fill_folds.Goals as goal

pub returns : goal.returns
returns g c = record {
  values = c.fill.ensures.values;
  stop = c.fill.ensures.stop;
}
