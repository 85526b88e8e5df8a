-- `pitch::pitch_xcorr_core` meets its contract: at first no lag is done. Assumes nothing.
use Rattle.rules.proofs.Common.{refl}
use Rattle.rules.specs.Tab.{tab}
use Rattle.pitch.proofs.pitch_xcorr_core.Goals as goal

pub xcorr_by-requires-clause-front_done : goal.xcorr_by-requires-clause-front_done
unfolding tab
xcorr_by-requires-clause-front_done c = refl
