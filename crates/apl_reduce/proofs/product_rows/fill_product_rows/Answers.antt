use Rattle.apl_reduce.proofs.product_rows.fill_product_rows.Goals as goal

pub returns : goal.returns
returns g c = record { values = c.fill.ensures.values; stop = c.fill.ensures.stop }
