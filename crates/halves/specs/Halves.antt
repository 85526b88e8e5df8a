-- A frame in two halves (request 08): calls 1 and 2, and calls 3 and 4, with the lag and the transforms of
-- the bench's way. The host only computes the logarithms of the first half's sums. A half tests all refusals
-- of its two calls before it changes anything.
use Rattle.std.specs.Prelude.{◌∷◌}
use Rattle.rules.specs.Common.{ℕ, cond, List, [], ltb, length, drop, Float}
use Rattle.rules.specs.F32.{at}
use Rattle.rules.specs.Place.{get}
use Rattle.rules.specs.Refusals.{wrong}
use Rattle.frame.specs.Written.{first_in}
use Rattle.bands.specs.Windowed.{windowed}
use Rattle.finder.specs.Kept.{whole_lag}
use Rattle.frame.specs.Share.{PART, input_mem, kept_lag}
use Rattle.frame.specs.Effect.{Effect, unless}
use Rattle.frame.specs.Reply.{passed, ◌refusedIf◌, Reply}
use Rattle.frame.specs.declared.Hearing.{Hearing}
use Rattle.frame.specs.declared.Way.{Way}
use Rattle.frame.specs.Frame.{recent, call1, call2, call3, call4}
pub use Rattle.halves.specs.Own.{call2_own}
use Rattle.halves.specs.Ways.{lag_by, remembered, forward_by, inverse_by}

-- Go on to the second call with what the first one gave, unless the first is refused.
abbrev pub onward : Effect Reply → (Effect Reply → Effect Reply) → Effect Reply
onward first second = cond (passed first.answer) (second first) first

-- ---- the first half: call 1, and call 2 with the spectrum of call 1's window and the lag of what call 1 left

-- Of call 2's two buffers only the sums are handed out: the second half computes the window again.
abbrev pub analysed : List Float → Way → List Float → ℕ → Effect Reply
analysed share way window sums =
    let b = call2 (remembered way share) (forward_by way window) (lag_by way share) 960 sums in
    record { answer = b.answer; kept = b.kept; written = drop 1 b.written }

unfoldable pub first_half : List Float → Way → List Float → ℕ → Effect Reply
first_half share way samples sums =
    unless (5 refusedIf wrong ((length share, PART) ∷ (length samples, 480) ∷ (sums, 22) ∷ []) ∷ []) share
    (onward (call1 share samples 960) (λ a. analysed a.kept way (first_in a.written) sums))

-- ---- the second half: call 3 with the spectrum of the window that call 2 gave, and call 4 with the inverse of what
--      call 3 wrote

-- The window of call 2 for the lag that is kept in the share, whoever made that call.
unfoldable pub looked_back : List Float → List Float
looked_back share = windowed (get (recent (whole_lag (at (get kept_lag share) 0))) (get input_mem share))

-- The second half ends with call 4, and its answer is call 3's.
abbrev pub synthesised : Reply → List Float → Way → List Float → ℕ → Effect Reply
synthesised answer share way spectrum out =
    let b = call4 share (inverse_by way spectrum) out in
    record { answer = answer; kept = b.kept; written = b.written }

unfoldable pub second_half : List Float → Hearing → List Float → List ℕ → ℕ → Effect Reply
second_half share hearing logs model out =
    unless (5 refusedIf wrong ((length share, PART) ∷ (length logs, 22) ∷ (out, 480) ∷ [])
    ∷ 5 refusedIf ltb 7 hearing.index ∷ []) share
    (onward (call3 share hearing (forward_by hearing.way (looked_back share)) logs model 961)
    (λ a. synthesised a.answer a.kept hearing.way (first_in a.written) out))
