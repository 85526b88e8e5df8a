-- `pitch_gain` and `remove_doubling` of pitch.rs. `x` is the text's `pitch_buf`, 864 numbers; max_period is 384,
-- min_period 30, and n 480.
use Rattle.rules.specs.Common.{ℕ, min, cond, List, [], eqb, leb, ltb, drop, Float}
use Rattle.rules.specs.Common.{binary32, lt, le}
use Rattle.std.specs.Prelude.{max, ◌+◌, ◌-◌, ◌*◌, ◌/◌, ◌&&◌, ◌∷◌}
use Rattle.rules.specs.F32.{◌⊕◌, ◌⊖◌, ◌⊗◌, ◌⊘◌, at, nat_at, f32, one, two}
use Rattle.rules.specs.Loop.{range, walk, Flow, go, stop, value}
use Rattle.rules.specs.Tab.{tab}
use Rattle.numbers.specs.Larger.{larger, smaller}
use Rattle.numbers.specs.Root.{root}
use Rattle.pitch_search.specs.Inner.{inner_prod}
use Rattle.finder.specs.Search.{apart, leaning}
use Rattle.finder.specs.declared.Pitch.{Pitch}
use Rattle.finder.specs.declared.doubling.Asked.{Asked}
use Rattle.finder.specs.declared.doubling.Chosen.{Chosen}

-- xy / (1.0 + xx * yy).sqrt()
abbrev pub pitch_gain : Float → Float → Float → Float
pitch_gain xy xx yy = xy ⊘ root binary32 (one ⊕ xx ⊗ yy)

-- inner_prod(&x[max_period..], &x[(max_period - t)..], n)
unfoldable pub product_at : List Float → ℕ → Float
product_at x t = inner_prod (drop 384 x) (drop (384 - t) x) 480

-- yy += x[max_period - i] * x[max_period - i] - x[max_period + n - i] * x[max_period + n - i]
abbrev pub yy_step : List Float → ℕ → Float → Float
yy_step x i yy = yy ⊕ (at x (384 - i) ⊗ at x (384 - i) ⊖ at x (864 - i) ⊗ at x (864 - i))

-- yy after the turns 1 to i
abbrev pub yy_after : List Float → Float → ℕ → Float
yy_after x xx i = range 1 (i + 1) (yy_step x) xx

-- yy_lookup[0] = xx, and yy_lookup[i] = yy.max(0.0)
abbrev pub lookup_at : List Float → Float → ℕ → Float
lookup_at x xx i = cond (eqb i 0) xx (larger (yy_after x xx i) (f32 0))

unfoldable pub yy_lookup : List Float → Float → List Float
yy_lookup x xx = tab 385 (lookup_at x xx)

-- t1 = (2 * t0 + k) / (2 * k)
abbrev pub shortened : ℕ → ℕ → ℕ
shortened t0 k = (2 * t0 + k) / (2 * k)

-- SECOND_CHECK
unfoldable pub second_check : List ℕ
second_check = 0 ∷ 0 ∷ 3 ∷ 2 ∷ 3 ∷ 2 ∷ 5 ∷ 2 ∷ 3 ∷ 2 ∷ 3 ∷ 2 ∷ 5 ∷ 2 ∷ 3 ∷ 2 ∷ []

-- t1b = if k == 2 { if t1 + t0 > max_period { t0 } else { t0 + t1 } } else { (2 * SECOND_CHECK[k] * t0 + k) / (2 * k) }
unfoldable pub second_place : ℕ → ℕ → ℕ → ℕ
second_place t0 t1 k =
    cond (eqb k 2) (cond (ltb 384 (t1 + t0)) t0 (t0 + t1)) ((2 * nat_at second_check k * t0 + k) / (2 * k))

-- cont = if (t1 - prev_period).abs() <= 1 { last_gain } else if (t1 - prev_period).abs() <= 2 && 5 * k * k < t0 {
-- last_gain / 2.0 } else { 0.0 }
abbrev pub continuity : Asked → ℕ → ℕ → Float
continuity a t1 k =
    let far = apart t1 a.prev in
    cond (leb far 1) a.last (cond (leb far 2 && ltb (5 * k * k) a.t0) (a.last ⊘ two) (f32 0))

-- thresh: (0.85 * g0 - cont).max(0.4) below 3 * min_period, (0.9 * g0 - cont).max(0.5) below 2 * min_period, which the
-- text asks behind the first and never reaches, and else (0.7 * g0 - cont).max(0.3)
abbrev pub threshold : Asked → ℕ → ℕ → Float
threshold a t1 k =
    let cont = continuity a t1 k in
    cond (ltb t1 90) (larger (f32 0x3F59999A ⊗ a.g0 ⊖ cont) (f32 0x3ECCCCCD))
    (cond (ltb t1 60) (larger (f32 0x3F666666 ⊗ a.g0 ⊖ cont) (f32 0x3F000000))
    (larger (f32 0x3F333333 ⊗ a.g0 ⊖ cont) (f32 0x3E99999A)))

-- the better of t1 and the best so far: xy = (xy + xy2) / 2.0; yy = (yy_lookup[t1] + yy_lookup[t1b]) / 2.0; if g1 >
-- thresh { .. }
unfoldable pub preferred : List Float → List Float → Asked → ℕ → ℕ → Chosen → Chosen
preferred x lookup a t1 k best =
    let t1b = second_place a.t0 t1 k in
    let xy = (product_at x t1 ⊕ product_at x t1b) ⊘ two in
    let yy = (at lookup t1 ⊕ at lookup t1b) ⊘ two in
    let g1 = pitch_gain xy a.xx yy in
    cond (lt (threshold a t1 k) g1) (record { xy = xy; yy = yy; t = t1; g = g1 }) best

-- for k in 2..=15 { .. if t1 < min_period { break; } .. }: i is k - 2
abbrev pub shorter_step : List Float → List Float → Asked → ℕ → Chosen → Flow Chosen
shorter_step x lookup a i best =
    let k = i + 2 in
    let t1 = shortened a.t0 k in
    cond (ltb t1 30) (stop best) (go (preferred x lookup a t1 k best))

unfoldable pub shorter : List Float → List Float → Asked → Chosen → Chosen
shorter x lookup a start = value (walk 14 (shorter_step x lookup a) start)

-- pg = if best_yy <= best_xy { 1.0 } else { best_xy / (best_yy + 1.0) }
abbrev pub explained : Float → Float → Float
explained bestXy bestYy = cond (le bestYy bestXy) one (bestXy ⊘ (bestYy ⊕ one))

-- pg.min(g), for best_xy.max(0.0)
abbrev pub gain_of : Chosen → Float
gain_of best = smaller (explained (larger best.xy (f32 0)) best.yy) best.g

-- (2 * t + offset).max(PITCH_MIN_PERIOD)
abbrev pub period_at : List Float → ℕ → ℕ
period_at x t = max (2 * t + leaning (product_at x (t - 1)) (product_at x t) (product_at x (t + 1)) - 1) 60

unfoldable pub removed : List Float → ℕ → ℕ → Float → Pitch
removed x t0 prev lastGain =
    let xx = product_at x 0 in
    let xy = product_at x t0 in
    let lookup = yy_lookup x xx in
    let yy = at lookup t0 in
    let g0 = pitch_gain xy xx yy in
    let a : Asked = record { t0 = t0; prev = prev; last = lastGain; xx = xx; g0 = g0 } in
    let best = shorter x lookup a (record { xy = xy; yy = yy; t = t0; g = g0 }) in
    record { period = period_at x best.t; gain = gain_of best }

-- t0 = (pitch_idx / 2).min(max_period - 1), and prev_period = self.last_period / 2
abbrev pub remove_doubling : List Float → ℕ → ℕ → Float → Pitch
remove_doubling x pitchIdx lastPeriod lastGain = removed x (min (pitchIdx / 2) 383) (lastPeriod / 2) lastGain
