-- What callers need of the results: their lengths; and that the gains of bins 400 to 480 are 0. Assumes nothing.
use Rattle.std.specs.Prelude.{◌+◌, ◌-◌, ◌≤◌, ◌<◌, ◌≡◌}
use Rattle.rules.proofs.Common.{ℕ, List, ◌∙◌, length, length-set, Float, nan}
use native.Mathlib.Omega.{arith}
use lib.ListN.{length-replicate, get_or-replicate}
use lib.Seq.{get_or-set_other}
use Rattle.rules.specs.F32.{at, f32, zeros}
use Rattle.rules.proofs.Loops.{kept}
use Rattle.rules.proofs.Lists.{length_tab}
use Rattle.bands.specs.Bands.{edge, in_band, corr_step, band_corr, gain_step, band_gain}
use Rattle.bands.specs.Dct.{dct_in, dct_of}
use Rattle.bands.specs.Laws.{Lengths, GainEnds}
use Rattle.bands.specs.Windowed.{windowed_by, windowed}
use Rattle.bands.proofs.Edges.{edges_rule}

abbrev Long : ℕ → List Float → Type 0
Long n xs = length xs ≡ n

zeros_long : (n : ℕ) → Long n (zeros n)
zeros_long n = length-replicate n (f32 0)

pub length_corr : (x p : List Float) → length (band_corr x p) ≡ 22
unfolding band_corr corr_step
length_corr x p =
    simp length-set
    (kept (in_band (corr_step x p)) (Long 22) 21 (zeros 22)
    (λ i out h. kept (corr_step x p i) (Long 22) (edge (i + 1) - edge i) out (λ j t b e. simp length-set e))
    (zeros_long 22))

-- 481 gains, of which those from 400 on are 0
abbrev Ends : List Float → Type 0
Ends xs = (length xs ≡ 481) × ((k : ℕ) → 400 ≤ k → k < 481 → at xs k ≡ f32 0)

zeros_end : Ends (zeros 481)
zeros_end = (zeros_long 481, λ k low high. get_or-replicate 481 k (f32 0) nan high)

gain_ends : (bands : List Float) → Ends (band_gain bands)
unfolding band_gain gain_step
gain_ends bands =
    kept (in_band (gain_step bands)) Ends 21 (zeros 481)
    (λ i out h.
    kept (gain_step bands i) Ends (edge (i + 1) - edge i) out
    (λ j t b e.
    let rule = edges_rule i h in
    (simp length-set e.0, λ k low high. get_or-set_other t (edge i + j) k _ nan (λ q. omega arith) ∙ e.1 k low high)))
    zeros_end

pub length_gain : (bands : List Float) → length (band_gain bands) ≡ 481
length_gain bands = (gain_ends bands).0

pub gain_end : GainEnds
gain_end bands = (gain_ends bands).1

pub length_dct : (x : List Float) → length (dct_of x) ≡ 22
unfolding dct_in
length_dct x = length_tab 22 _

pub length_windowed : (x : List Float) → length (windowed x) ≡ 960
unfolding windowed_by
length_windowed x = length_tab 960 _

pub lengths : Lengths
lengths = record { corr = length_corr; gain = length_gain; dct = length_dct; window = length_windowed }
