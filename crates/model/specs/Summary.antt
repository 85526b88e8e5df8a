-- What a host learns of a file: thirty numbers, or a refusal and its layer in one number.
use Rattle.std.specs.Prelude.{Result, Ok, Err, ◌+◌, ◌*◌, ◌/◌, ◌%◌, ◌∷◌}
use Rattle.rules.specs.Common.{ℕ, List, [], length, get_or}
use Rattle.rules.specs.Leaf.{◌leaving◌}
use Rattle.rules.specs.Refusal.{refusal_number}
use Rattle.rules.specs.Refusals.{◌when◌, refusing}
use Rattle.rules.specs.Tab.{tab}
use Rattle.model.specs.Model.{◌≠◌, read_of}
use Rattle.model.specs.Array.{found_in, array_in, line_in}
use Rattle.model.specs.Reading.{Reading, Good, Refused}
use Rattle.model.specs.declared.Misread.{Misread}

-- Refusal r of layer l has the number r + 65,536 l.
abbrev pub layer_number : Misread → ℕ
layer_number e = refusal_number e.refusal + 65536 * e.layer

-- What a host is told of an outcome: 0 if it is done, and else the number of its refusal with its layer.
abbrev pub layer_told : Result Unit Misread → ℕ
layer_told (Ok _) = 0
layer_told (Err e) = layer_number e

-- Number i. Each layer has five: those of its line in a listing, without the number of the layer.
unfoldable pub number_in : Reading → ℕ → ℕ
number_in r i = let layer = i / 5 in get_or (line_in (found_in r layer) layer) (i % 5 + 1) 0

-- The number returned and the buffer, by what the file reads as.
abbrev pub summary_in : Reading → List ℕ → ℕ × List ℕ
summary_in (Good m) out = 0 leaving tab 30 (number_in (Good m))
summary_in (Refused n layer) out = n + 65536 * layer leaving out

-- The number returned and the buffer. A buffer of another length than 30 is refused with 5.
unfoldable pub summary_of : List ℕ → List ℕ → ℕ × List ℕ
summary_of s out = refusing (5 when (length out ≠ 30) ∷ []) (λ n. n leaving out) (summary_in (read_of s) out)

-- the same of an array: the place of its first byte, and how many bytes it has
abbrev pub array_told_in : Reading → ℕ → ℕ → List ℕ → ℕ × List ℕ
array_told_in (Good m) layer which out = let p = array_in (found_in (Good m) layer) which in 0 leaving p.at ∷ p.size
    ∷ []
array_told_in (Refused n fault) layer which out = n + 65536 * fault leaving out

unfoldable pub array_told : List ℕ → ℕ → ℕ → List ℕ → ℕ × List ℕ
array_told s layer which out =
    refusing (5 when (length out ≠ 2) ∷ []) (λ n. n leaving out) (array_told_in (read_of s) layer which out)
