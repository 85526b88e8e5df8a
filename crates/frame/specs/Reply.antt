-- What a call is told, and what the replies mean.
use Rattle.std.specs.Prelude.{◌+◌, ◌∷◌}
use Rattle.rules.specs.Common.{ℕ, Bool, true, false, cond, List, [], ltb, Float}

-- Done, for call 3 silent or heard with voice and energy, for a desk's call 4 the frames and the heard frames so far;
-- refused with a number of docs/REFUSALS.md, or with 7 and the model's own number and layer.
pub data Reply : Type 0 where
  Done : Reply
  Silent : Reply
  Heard : (voice energy : Float) → Reply
  Numbered : (frames heard : ℕ) → Reply
  Refused : (number : ℕ) → Reply
  Misread : (number layer : ℕ) → Reply

-- Whether a reply is not a refusal.
abbrev pub passed : Reply → Bool
passed Done = true
passed Silent = true
passed (Heard v e) = true
passed (Numbered f h) = true
passed (Refused n) = false
passed (Misread n l) = false

-- Whether a reply is that of a call 3 that heard something.
abbrev pub is_heard : Reply → Bool
is_heard (Heard v e) = true
is_heard Done = false
is_heard Silent = false
is_heard (Numbered f h) = false
is_heard (Refused n) = false
is_heard (Misread n l) = false

-- The next number of a frame or of a heard frame: 0 follows 4,294,967,295.
abbrev pub one_more : ℕ → ℕ
one_more number = cond (ltb number 4294967295) (number + 1) 0

-- A table of refusals for a call is a list of replies, tried in order. A row refuses, or is Done. This row is
-- a number and the test for it.
infix 70 ◌refusedIf◌
abbrev pub ◌refusedIf◌ : ℕ → Bool → Reply
n refusedIf t = cond t (Refused n) Done

-- The first reply that refuses; if there is none, Done.
abbrev pub first_refusal : List Reply → Reply
first_refusal [] = Done
first_refusal (row ∷ rows) = cond (passed row) (first_refusal rows) row
