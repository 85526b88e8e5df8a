-- What the calls ensure, in a row. Assumes nothing.
use Rattle.std.specs.Prelude.{◌+◌, ◌-◌, ◌≤◌, ◌<◌, ◌∷◌, ◌≡◌, Result, Ok, Err}
use Rattle.rules.proofs.Common.{ℕ, Bool, cond, List, [], refl, sym, ap, ◌∙◌, length, take, drop}
use Rattle.rules.proofs.Common.{set, length-drop, Float, lt}
use native.Mathlib.Omega.{arith}
use lib.Seq.{take_all}
use Rattle.rules.specs.F32.{◌⊕◌, ◌⊘◌, at, f32}
use Rattle.rules.specs.Leaf.{Leaf}
use Rattle.rules.specs.Tab.{tab}
use Rattle.rules.proofs.Refusals.{fitting}
use Rattle.rules.proofs.Lists.{Filling}
use Rattle.pitch.specs.Xcorr.{pitch_xcorr}
use Rattle.pitch.specs.Downsample.{downsampled}
use Rattle.pitch_search.specs.Best.{best_of, first_of, second_of}
use Rattle.pitch_search.specs.Inner.{inner_prod, InnerFits}
use Rattle.pitch_search.specs.declared.Pitches.{Pitches}
use Rattle.rules.specs.declared.refusal.Refusal.{Refusal}
use Rattle.rules.specs.declared.refusal.Refusal.TheVariants.{WrongLength}
use Rattle.finder.specs.declared.Pitch.{Pitch}
use Rattle.finder.specs.declared.doubling.Asked.{Asked}
use Rattle.finder.specs.declared.doubling.Chosen.{Chosen}
use Rattle.finder.specs.Doubling.{pitch_gain, product_at, yy_lookup, second_place, threshold, preferred, shorter}
use Rattle.finder.specs.Doubling.{gain_of, period_at, removed, remove_doubling}
use Rattle.finder.specs.Finder.{process}
use Rattle.finder.specs.Search.{every_second, coarse, fine, interpolated, pitch_search}
use Rattle.finder.proofs.Ranges.{coarse_small, best_small, search_small}

-- a part up to the end is all that is left
rest : (x : List Float) (from n : ℕ) → length x ≡ from + n → take n (drop from x) ≡ drop from x
rest x from n size = take_all n (drop from x) (simp length-drop (omega arith))

-- the sum in an answer, or 0 if it was refused
abbrev sum_of : Result Float Refusal → Float
sum_of (Ok sum) = sum
sum_of (Err refusal) = f32 0

-- the last 480 numbers with those from a place on
pub inner_at : (x : List Float) (from : ℕ) {p : Result Float Refusal} {v : Float} → length x ≡ 864 → from ≤ 384
    → p ≡ Ok v
    → Leaf (InnerFits (length (take 480 (drop 384 x))) (length (take (864 - from) (drop from x))) 480) p
    (Ok (inner_prod (take 480 (drop 384 x)) (take (864 - from) (drop from x)) 480)) (Err WrongLength)
    → v ≡ inner_prod (drop 384 x) (drop from x) 480
inner_at x from size h e leaf =
    let left = rest x 384 480 (omega arith) in
    let right = rest x from (864 - from) (omega arith) in
    ap sum_of (sym e ∙ fitting leaf
    (record { left = rw left (simp length-drop (omega arith)); right = rw right (simp length-drop (omega arith)) }))
    ∙ rw (left, right)

-- a loop that begins behind the first place
pub filled_first : (f : ℕ → Float) (xs : List Float) {v : Float} → 0 < length xs → v ≡ f 0
    → Filling f (set xs 0 v) 1 (set xs 0 v)
unfolding tab
filled_first f [] h e = absurd (omega arith)
filled_first f (x ∷ xs) h e = record { same = refl; front = ap (λ (v : Float). v ∷ xs) e }

-- a shorter period, held against the best so far
pub better : (x lookup : List Float) (a : Asked) (t1 k : ℕ) (best : Chosen) {t1b : ℕ} {p q g1 thresh : Float} {s : Bool}
    → t1b ≡ second_place a.t0 t1 k → p ≡ product_at x t1 → q ≡ product_at x t1b
    → g1 ≡ pitch_gain ((p ⊕ q) ⊘ f32 0x40000000) a.xx ((at lookup t1 ⊕ at lookup t1b) ⊘ f32 0x40000000)
    → thresh ≡ threshold a t1 k → lt thresh g1 ≡ s
    → cond s
    (record { xy = (p ⊕ q) ⊘ f32 0x40000000; yy = (at lookup t1 ⊕ at lookup t1b) ⊘ f32 0x40000000; t = t1; g = g1 })
    best
    ≡ preferred x lookup a t1 k best
unfolding preferred
better x lookup a t1 k best place first second gain asked test = rw (← test, gain, asked, first, second, place)

-- all of it
pub doubling_of : (x : List Float) (t0 prev : ℕ) (last : Float) {xx xy g0 gain : Float} {lookup : List Float}
    {best : Chosen} {period : ℕ}
    → xx ≡ product_at x 0 → xy ≡ product_at x t0 → lookup ≡ yy_lookup x xx → g0 ≡ pitch_gain xy xx (at lookup t0)
    → best ≡ shorter x lookup (record { t0 = t0; prev = prev; last = last; xx = xx; g0 = g0 })
    (record { xy = xy; yy = at lookup t0; t = t0; g = g0 })
    → period ≡ period_at x best.t → gain ≡ gain_of best
    → (record { period = period; gain = gain }) ≡ removed x t0 prev last
unfolding removed
doubling_of x t0 prev last energy product table first found at_last gained =
    rw (at_last, gained, found, first, table, product, energy)

-- ---- the search

-- the coarse one
pub coarse_of : (buf : List Float) {x4 y4 xcorr : List Float} {found : Result Pitches Refusal} {pitches : Pitches}
    → length buf ≡ 864 → found ≡ Ok pitches
    → x4 ≡ every_second 240 (take 480 (drop 384 buf)) → y4 ≡ every_second 387 buf
    → xcorr ≡ pitch_xcorr x4 y4 147 → found ≡ best_of xcorr y4 240 → Ok pitches ≡ coarse buf
unfolding coarse
coarse_of buf size ok xs ys c best = sym ok ∙ best ∙ rw (c, xs, ys, rest buf 384 480 size)

pub near_of : (buf : List Float) {pitches : Pitches} → Ok pitches ≡ coarse buf
    → (pitches.first < 147) × (pitches.second < 147)
near_of buf {pitches} e =
    let small = coarse_small buf in
    (rw (ap first_of e) small.0, rw (ap second_of e) small.1)

-- the finer one
pub best_below : (buf : List Float) (first second : ℕ) {xcorr : List Float} {pitches : Pitches}
    → xcorr ≡ fine buf first second → Ok pitches ≡ best_of xcorr buf 480 → pitches.first < 294
best_below buf first second same e = rw (ap first_of e, same) (best_small buf first second)

pub search_of : (buf : List Float) {near best : Pitches} {place : ℕ} {xcorr : List Float} → Ok near ≡ coarse buf
    → xcorr ≡ fine buf near.first near.second → Ok best ≡ best_of xcorr buf 480
    → place ≡ interpolated xcorr best.first → place ≡ pitch_search buf
unfolding pitch_search
search_of buf e same b place = rw (place, ap first_of b, same, ap first_of e, ap second_of e)

-- ---- the finder

pub place_small : (buf : List Float) {place : ℕ} → place ≡ pitch_search buf → place ≤ 586
place_small buf e = rw e (search_small buf)

pub processed : (input : List Float) (last : ℕ) (gain : Float) {low : List Float} {place : ℕ} {found : Pitch}
    → low ≡ downsampled input → place ≡ pitch_search low
    → found ≡ remove_doubling low (768 - place) last gain → found ≡ process last gain input
unfolding process
processed input last gain same place found = rw (found, place, same)
