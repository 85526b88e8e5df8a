-- `pitch::celt_autocorr_core` meets its contract. Assumes nothing.
use Rattle.rules.proofs.Common.{ap, ◌∙◌}
use Rattle.pitch.specs.Autocorr.{add_tails, celt_autocorr}
use Rattle.pitch.proofs.celt_autocorr_core.Goals as goal

pub returns : goal.returns
unfolding celt_autocorr
returns c =
    let five = c.requires.lags in
    c.add_tails.ensures ∙ ap (add_tails _ _) c.pitch_xcorr_core.ensures ∙ simp five
