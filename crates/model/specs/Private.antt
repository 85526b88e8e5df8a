-- For the contracts of private functions of the reader and the writer.
use Rattle.std.specs.Prelude.{◌+◌, ◌<◌, ◌∷◌, ◌++◌, ◌≡◌}
use Rattle.rules.specs.Common.{ℕ, List, [], length, get_or, take, drop}
use Rattle.rules.specs.Refusals.{Row, refusing}
use Rattle.model.specs.Layer.{size_of, activation_of, faults}
use Rattle.model.specs.Model.{counts_at}
use Rattle.model.specs.declared.Kind.{Kind}
use Rattle.model.specs.declared.Counts.{Counts}
use Rattle.model.specs.Step.{Step}
use Rattle.model.specs.Step.{Layer, Refused}

-- The number that a table of refusals gives, or 0.
abbrev pub fault_in : List Row → ℕ
fault_in rows = refusing rows (λ n. n) 0

-- A step over a layer with this header, whose arrays start at this place and have `left` bytes left for them.
abbrev pub headed : Kind → ℕ → ℕ → ℕ → ℕ → ℕ → Step
headed k i n a start left =
    refusing (faults k i n a left) Refused
    (Layer (record { inputs = i; neurons = n; activation = activation_of a; start = start })
    (record { at = start + size_of k i n }))

-- Counts whose sums do not overflow.
pub record Few (cs : List Counts) : Type 0 where
  pub dense : (counts_at cs 0).neurons < 128
  pub vad : (counts_at cs 1).neurons < 128
  pub noise : (counts_at cs 2).neurons < 128

-- ---- of the writer

-- The counts of a layer from the numbers at this place.
abbrev pub counts_there : List ℕ → ℕ → Counts
counts_there shapes at = record { inputs = get_or shapes at 0; neurons = get_or shapes (at + 1) 0 }

-- The three bytes of a header from the numbers at this place.
unfoldable pub header_bytes : List ℕ → ℕ → List ℕ
header_bytes shapes at = get_or shapes at 0 ∷ get_or shapes (at + 1) 0 ∷ get_or shapes (at + 2) 0 ∷ []

-- The bytes of a layer.
unfoldable pub layer_bytes : (shapes : List ℕ) → ℕ → (w r b : List ℕ) → List ℕ
layer_bytes shapes at w r b = header_bytes shapes at ++ (w ++ (r ++ b))

-- The bytes of three layers.
unfoldable pub three_bytes : (shapes : List ℕ) → ℕ → (w0 r0 b0 w1 r1 b1 w2 r2 b2 : List ℕ) → List ℕ
three_bytes shapes at w0 r0 b0 w1 r1 b1 w2 r2 b2 =
    layer_bytes shapes at w0 r0 b0 ++ (layer_bytes shapes (at + 3) w1 r1 b1 ++ layer_bytes shapes (at + 6) w2 r2 b2)

-- A buffer with some bytes written at this place.
unfoldable pub overwritten : List ℕ → ℕ → List ℕ → List ℕ
overwritten out at bytes = take at out ++ (bytes ++ drop (at + length bytes) out)

-- Some bytes were written at this place, and this is where they end.
pub record Put (at : ℕ) (bytes out : List ℕ) (next : ℕ) (after : List ℕ) : Type 0 where
  pub ends : next ≡ at + length bytes
  pub left : after ≡ overwritten out at bytes
