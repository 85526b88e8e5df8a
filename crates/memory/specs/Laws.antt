-- What is claimed of remembered gains over heard frames. The proof is in proofs/Gains.
use Rattle.std.specs.Prelude.{◌<◌, ◌≡◌}
use Rattle.rules.specs.Common.{ℕ, true, false, List, length, le, is_nan}
use Rattle.rules.specs.F32.{at}
use Rattle.memory.specs.Hear.{Recalled, HeardFrame, heard_all, faded}

-- A gain that is not NaN stays so. It is at least its value before the frames, multiplied by 0.6 for each frame and
-- rounded each time.
abbrev pub HeldGains : Type 0
HeldGains =
    (i : ℕ) → i < 22
    → (fs : List HeardFrame) (m : Recalled) → is_nan (at m.gains i) ≡ false
    → let last = at (heard_all m fs).gains i in
    (is_nan last ≡ false) × (le (faded (length fs) (at m.gains i)) last ≡ true)
