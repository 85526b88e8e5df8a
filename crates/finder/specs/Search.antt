-- `pitch_search` of pitch.rs. `buf` is the text's `pitch_buf`, 864 numbers: x_lp is &buf[384..], and y is buf.
use Rattle.std.specs.Prelude.{◌+◌, ◌-◌, ◌*◌, ◌&&◌, Result}
use Rattle.rules.specs.Common.{ℕ, cond, List, ltb, drop, Float, lt, neg}
use Rattle.rules.specs.F32.{◌⊖◌, ◌⊗◌, at, f32, one}
use Rattle.rules.specs.Tab.{tab}
use Rattle.rules.specs.declared.refusal.Refusal.{Refusal}
use Rattle.numbers.specs.Larger.{larger}
use Rattle.pitch.specs.Xcorr.{pitch_xcorr}
use Rattle.pitch_search.specs.Best.{best_of, first_of, second_of}
use Rattle.pitch_search.specs.Inner.{inner_prod}
use Rattle.pitch_search.specs.declared.Pitches.{Pitches}

-- (a as isize - b as isize).abs(): one of the two differences is 0
abbrev pub apart : ℕ → ℕ → ℕ
apart a b = (a - b) + (b - a)

-- let offset: isize = if c - a > 0.7 * (b - a) { 1 } else if a - c > 0.7 * (b - c) { -1 } else { 0 };
-- as offset + 1, which is never below 0
unfoldable pub leaning : Float → Float → Float → ℕ
leaning a b c =
    let w = f32 0x3F333333 in
    cond (lt (w ⊗ (b ⊖ a)) (c ⊖ a)) 2 (cond (lt (w ⊗ (b ⊖ c)) (a ⊖ c)) 0 1)

-- for j in 0..n { out[j] = xs[2 * j]; }
abbrev pub every_second : ℕ → List Float → List Float
every_second n xs = tab n (λ j. at xs (2 * j))

-- the two best of 147 lags over x_lp4 and y_lp4
unfoldable pub coarse : List Float → Result Pitches Refusal
coarse buf =
    let x4 = every_second 240 (drop 384 buf) in
    let y4 = every_second 387 buf in
    best_of (pitch_xcorr x4 y4 147) y4 240

-- inner_prod(&x_lp[..], &y[i..], len / 2).max(-1.0)
unfoldable pub peak_at : List Float → ℕ → Float
peak_at buf i = larger (inner_prod (drop 384 buf) (drop i buf) 480) (neg one)

-- xcorr[i] = 0.0; if (i - 2 * best_pitch).abs() > 2 && (i - 2 * second_best_pitch).abs() > 2 { continue; } xcorr[i] =
-- ..
abbrev pub fine_at : List Float → ℕ → ℕ → ℕ → Float
fine_at buf first second i = cond (ltb 2 (apart i (2 * first)) && ltb 2 (apart i (2 * second))) (f32 0) (peak_at buf i)

unfoldable pub fine : List Float → ℕ → ℕ → List Float
fine buf first second = tab 294 (fine_at buf first second)

-- 2 * best_pitch - offset, where the offset is 0 for the first lag and the last
abbrev pub interpolated : List Float → ℕ → ℕ
interpolated xcorr best =
    cond (ltb 0 best && ltb best 293)
    (2 * best + 1 - leaning (at xcorr (best - 1)) (at xcorr best) (at xcorr (best + 1))) (2 * best)

unfoldable pub pitch_search : List Float → ℕ
pitch_search buf =
    let pitches = coarse buf in
    let xcorr = fine buf (first_of pitches) (second_of pitches) in
    interpolated xcorr (first_of (best_of xcorr buf 480))
