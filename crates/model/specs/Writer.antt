-- The writer of a model file (request 01): counts, activations and arrays of six layers become the bytes of the file.
use Rattle.std.specs.Prelude.{◌+◌, ◌*◌, ◌||◌, ◌∷◌, ◌++◌}
use Rattle.rules.specs.Common.{ℕ, suc, Bool, true, false, List, [], map, ltb, length, get_or}
use Rattle.rules.specs.Common.{take, drop}
use Rattle.rules.specs.Leaf.{◌leaving◌}
use Rattle.rules.specs.Refusals.{Row, ◌when◌, refusing}
use Rattle.model.specs.Layer.{lengths, activation_of, Layer, joined, bytes_of, header_faults}
use Rattle.model.specs.Model.{◌≠◌, kinds, match_faults}
use Rattle.model.specs.declared.Kind.{Kind}
use Rattle.model.specs.declared.Counts.{Counts}

-- The fifteen arrays as three for each layer. A dense layer has no recurrent weights.
abbrev pub arrays_of : (w0 b0 w1 r1 b1 w2 r2 b2 w3 r3 b3 w4 b4 w5 b5 : List ℕ) → List (List ℕ)
arrays_of w0 b0 w1 r1 b1 w2 r2 b2 w3 r3 b3 w4 b4 w5 b5 =
    w0 ∷ [] ∷ b0 ∷ w1 ∷ r1 ∷ b1 ∷ w2 ∷ r2 ∷ b2 ∷ w3 ∷ r3 ∷ b3 ∷ w4 ∷ [] ∷ b4 ∷ w5 ∷ [] ∷ b5 ∷ []

-- The layers that a caller gives, one for each kind: inputs, neurons and activation of each one after the other, and
-- the arrays of each.
abbrev pub layers_given : List Kind → List ℕ → List (List ℕ) → List Layer
layers_given [] shapes arrays = []
layers_given (k ∷ ks) shapes arrays =
    record {
      inputs = get_or shapes 0 0;
      neurons = get_or shapes 1 0;
      activation = activation_of (get_or shapes 2 0);
      arrays = take 3 arrays;
    }
    ∷ layers_given ks (drop 3 shapes) (drop 3 arrays)

-- These layers as a file.
abbrev pub file_of : List Layer → List ℕ
file_of ls = joined (map bytes_of ls)

-- ---- the refusals

-- Whether two lists of numbers differ.
abbrev pub differ : List ℕ → List ℕ → Bool
differ [] [] = false
differ [] (n ∷ ns) = true
differ (m ∷ ms) [] = true
differ (m ∷ ms) (n ∷ ns) = (m ≠ n) || differ ms ns

-- The refusals of a layer whose arrays have the lengths `given`.
abbrev pub layer_faults : Kind → ℕ → ℕ → ℕ → List ℕ → List Row
layer_faults k i n a given = header_faults i n a ++ 16 when differ given (lengths k i n) ∷ []

-- Refusal r of layer l has the number r + 65,536 l.
abbrev pub in_layer : ℕ → List Row → List Row
in_layer l [] = []
in_layer l (r when t ∷ rows) = (r + 65536 * l) when t ∷ in_layer l rows

-- The refusals of these layers, of which the first is layer j.
unfoldable pub row_faults : ℕ → List Kind → List ℕ → List ℕ → List Row
row_faults j [] shapes given = []
row_faults j (k ∷ ks) shapes given =
    in_layer j (layer_faults k (get_or shapes 0 0) (get_or shapes 1 0) (get_or shapes 2 0) (take 3 given))
    ++ row_faults (suc j) ks (drop 3 shapes) (drop 3 given)

-- The counts of the layers that a caller gives.
unfoldable pub counts_given : List Kind → List ℕ → List Counts
counts_given [] shapes = []
counts_given (k ∷ ks) shapes =
    record { inputs = get_or shapes 0 0; neurons = get_or shapes 1 0 } ∷ counts_given ks (drop 3 shapes)

-- All refusals in order: those of each layer, those of the layers together, and that of a buffer that is shorter than
-- the file.
unfoldable pub writer_faults : List ℕ → List ℕ → ℕ → ℕ → List Row
writer_faults shapes given file buffer =
    row_faults 0 kinds shapes given
    ++ in_layer 6 (match_faults (counts_given kinds shapes) 0 ++ 24 when ltb buffer file ∷ [])

-- ---- what is returned, and what the buffer then holds

-- The number returned and the buffer. A refusal leaves the buffer unchanged.
unfoldable pub write_model : List ℕ → List (List ℕ) → List ℕ → ℕ × List ℕ
write_model shapes arrays out =
    let file = file_of (layers_given kinds shapes arrays) in
    refusing (5 when (length shapes ≠ 18) ∷ writer_faults shapes (map length arrays) (length file) (length out))
    (λ n. n leaving out)
    (0 leaving file ++ drop (length file) out)
