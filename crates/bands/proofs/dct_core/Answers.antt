-- `bands::dct_core` meets its contract: all sums, and then each of them scaled. Assumes nothing.
use Rattle.rules.proofs.Common.{List, ap, ◌∙◌, Float}
use Rattle.rules.specs.F32.{at}
use Rattle.rules.specs.Tab.{tab}
use Rattle.bands.specs.Dct.{dct_scaled}
use Rattle.bands.proofs.Sums.{sums_scaled}
use Rattle.bands.proofs.dct_core.Goals as goal

pub returns : goal.returns
returns c =
    c.scale_sums.ensures
    ∙ ap (λ (sums : List Float). tab 22 (λ i. dct_scaled (at sums i)))
    c.add_rows.ensures
    ∙ sums_scaled c.args.table.now c.args.x.now
