use Rattle.apl_reduce.proofs.inner_products.fill_inner.Goals as goal

pub returns : goal.returns
returns g c = record { values = c.fill.ensures.values; stop = c.fill.ensures.stop }
