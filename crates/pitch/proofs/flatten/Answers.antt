-- `pitch::flatten` meets its contract: each call's result is the next one's argument. Assumes nothing.
use Rattle.std.specs.Prelude.{◌≡◌}
use Rattle.rules.proofs.Common.{ℕ, List, Float, refl}
use Rattle.pitch.specs.Autocorr.{celt_autocorr}
use Rattle.pitch.specs.Lpc.{lpc_of}
use Rattle.pitch.specs.Downsample.{floored, faded_lpc, with_zero, coefficients}
use Rattle.pitch.proofs.flatten.Goals as goal

in_turn : (low : List Float) (n : ℕ) {ac ac' c c' : List Float} → n ≡ 4 → ac ≡ celt_autocorr low → ac' ≡ floored ac
    → c ≡ lpc_of n ac' → c' ≡ faded_lpc c
    → with_zero c' ≡ coefficients low
unfolding coefficients
in_turn low n four a f l d = rw (d, l, f, a, four)

pub returns : goal.returns
returns c =
    in_turn _ _ refl c.celt_autocorr_core.ensures c.floor.ensures c.lpc_core.ensures
    c.fade_coefficients.ensures
