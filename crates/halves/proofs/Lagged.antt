-- The window of the lag that stands in a share: behind a call 2, whoever made it, the second half looks at that call's
-- window. Assumes nothing.
use Rattle.std.specs.Prelude.{◌+◌, ◌-◌, ◌≤◌, ◌∷◌, ◌≡◌}
use Rattle.rules.proofs.Common.{ℕ, List, [], refl, ◌∙◌, ltb, length, take, drop, pos, Float}
use Rattle.rules.proofs.Common.{binary32, of_int}
use native.Mathlib.Omega.{arith}
use mathlib.Core.Logic.{inr}
use borrow.Author.Tests.{ltb-false}
use Rattle.rules.specs.F32.{at}
use Rattle.rules.specs.Place.{get, put}
use Rattle.rules.specs.Refusals.{wrong}
use Rattle.frame.specs.Written.{first_in}
use Rattle.rules.proofs.Refusals.{right}
use Rattle.rules.proofs.Places.{get_put, length_put}
use Rattle.rules.proofs.Lists.{length_tab}
use Rattle.bands.specs.Windowed.{windowed}
use Rattle.bands.proofs.Results.{length_corr}
use Rattle.lag.specs.Lag.{own_lag}
use Rattle.finder.specs.Kept.{whole_lag}
use Rattle.finder.proofs.Lags.{lag_small, lag_back}
use Rattle.frame.specs.Reply.{Reply, ◌refusedIf◌}
use Rattle.frame.specs.Effect.{Effect}
use Rattle.frame.specs.Share.{PART, input_mem, kept_x, kept_ex, kept_lag}
use Rattle.frame.specs.Heard.{scaled, energies}
use Rattle.frame.specs.Frame.{recent, put_kept, done2, call2}
use Rattle.frame.proofs.Beside.{done2_beside}
use Rattle.frame.proofs.Tables.{not_when, by_accepted}
use Rattle.frame.proofs.Sizes.{lag_at, looked_at}
use Rattle.halves.specs.Own.{call2_own}
use Rattle.halves.specs.Laws.{SameWindow, OwnWindow}
use Rattle.halves.specs.Halves.{looked_back}

-- call 2's window
pub looked_back_lem : (share : List Float) {lag : ℕ} → length share ≡ PART → lag ≡ whole_lag (at share 3191)
    → windowed (take (768 - lag + 960 - (768 - lag)) (drop (768 - lag) share)) ≡ looked_back share
unfolding looked_back
looked_back_lem share {lag} whole e =
    let small : lag ≤ 768 = rw e (lag_small (at share 3191)) in
    rw (looked_at share lag whole small, e, lag_at share)

-- ---- behind a call 2

looks_at : (share spectrum : List Float) (lag : ℕ) → length share ≡ PART → lag ≤ 768
    → looked_back (put_kept share spectrum lag) ≡ windowed (get (recent lag) (get input_mem share))
unfolding looked_back put_kept scaled energies
looks_at share spectrum lag whole small =
    let x = put kept_x share (scaled spectrum) in
    let before = put kept_ex x (energies spectrum) in
    let size : length before ≡ PART =
    length_put kept_ex x (energies spectrum)
    (rw (length_put kept_x share (scaled spectrum) (omega arith) (length_tab 961 _)) (omega arith))
    (length_corr (scaled spectrum) (scaled spectrum))
    ∙ length_put kept_x share (scaled spectrum) (omega arith) (length_tab 961 _)
    ∙ whole in
    let lag_is : get kept_lag (put_kept share spectrum lag) ≡ (of_int binary32 (pos lag) ∷ []) =
    get_put kept_lag before (of_int binary32 (pos lag) ∷ []) (omega arith) refl in
    let mem_is = (done2_beside input_mem share spectrum lag
    (inr (omega arith), (inr (omega arith), (inr (omega arith), tt))) whole).same in
    rw (lag_is, mem_is, lag_back lag small)

pub same_window : SameWindow
unfolding call2
same_window share spectrum lag window sums =
    by_accepted share (done2 share spectrum lag) (λ (f : Effect Reply). looked_back f.kept ≡ first_in f.written)
    (5 refusedIf wrong lengths ∷ 6 refusedIf ltb 768 lag ∷ [])
    (λ c _. looks_at share spectrum lag (right lengths (not_when 5 (wrong lengths) c.0)).0
    (ltb-false 768 lag (not_when 6 (ltb 768 lag) c.1.0)))
  where
    lengths : List (ℕ × ℕ)
    lengths = (length share, PART) ∷ (length spectrum, 961) ∷ (window, 960) ∷ (sums, 22) ∷ []

pub own_window : OwnWindow
unfolding call2_own
own_window share spectrum window sums = same_window share spectrum (own_lag (get input_mem share)) window sums
