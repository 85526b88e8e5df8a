-- `pitch::pitch_downsample_core` meets its contract. Assumes nothing.
use Rattle.std.specs.Prelude.{◌≡◌}
use Rattle.rules.proofs.Common.{List, Float}
use Rattle.pitch.specs.Fir.{fir5}
use Rattle.pitch.specs.Downsample.{halved, coefficients, downsampled}
use Rattle.pitch.proofs.pitch_downsample_core.Goals as goal

in_turn : (x : List Float) {low num out : List Float} → low ≡ halved x → num ≡ coefficients low → out ≡ fir5 low num
    → out ≡ downsampled x
unfolding downsampled
in_turn x h n f = rw (f, n, h)

pub returns : goal.returns
returns c =
    in_turn _ c.halve.ensures c.flatten-num.ensures
    c.fir5_core.ensures
