-- `bands::add_bin_0` meets its contract. Assumes nothing.
use Rattle.bands.specs.Bands.{bin_corr, corr_step}
use Rattle.bands.proofs.Shares.{frac_0, edge_0}
use Rattle.bands.proofs.add_bin_0.Goals as goal

pub returns : goal.returns
unfolding corr_step bin_corr
returns c = rw (edge_0, frac_0)
