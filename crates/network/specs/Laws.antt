-- What is claimed of the three states. The proof is in proofs/States.
use Rattle.std.specs.Prelude.{◌++◌, ◌≡◌}
use Rattle.rules.specs.Common.{List, Float}
use Rattle.network.specs.Compute.{vad_in, noise_in, denoise_in}

-- A slice is its three states next to each other, whatever its length.
abbrev pub SideBySide : Type 0
SideBySide = (states : List Float) → vad_in states ++ noise_in states ++ denoise_in states ≡ states
