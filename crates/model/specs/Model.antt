-- A model file: six layers one after the other (rnn.rs, `from_bytes_impl`).
use Rattle.std.specs.Prelude.{◌+◌, ◌||◌, ◌∷◌}
use Rattle.rules.specs.Common.{ℕ, suc, Bool, not, List, [], map, eqb, length, get_or}
use Rattle.rules.specs.Refusals.{Row, ◌when◌, refusing}
use Rattle.model.specs.Layer.{Layer, bytes_of, layer_of, faults_of, rest_of, header_at}
use Rattle.model.specs.declared.Activation.TheVariants.{Tanh}
use Rattle.model.specs.declared.Kind.{Kind}
use Rattle.model.specs.declared.Kind.TheVariants.{Dense, Gru}
use Rattle.model.specs.declared.Header.{Header}
use Rattle.model.specs.declared.Counts.{Counts}
use Rattle.model.specs.declared.Model.{Model}
use Rattle.model.specs.Reading.{Reading, Good, Refused}

-- The kinds of the six layers: input_dense, vad_gru, noise_gru, denoise_gru, denoise_output and vad_output.
abbrev pub kinds : List Kind
kinds = Dense ∷ Gru ∷ Gru ∷ Gru ∷ Dense ∷ Dense ∷ []

-- Rust: let (layer, bytes) = read(bytes), for each kind in turn. Gives the layers, and the bytes after them.
unfoldable pub read_layers : List Kind → List ℕ → List Layer × List ℕ
read_layers [] s = ([], s)
read_layers (k ∷ ks) s = let r = read_layers ks (rest_of k s) in (layer_of k s ∷ r.0, r.1)

-- The first refusal of these layers, of which the first is layer j; or `right` if there is none.
unfoldable pub refusing_layers : ℕ → List Kind → List ℕ → Reading → Reading
refusing_layers j [] s right = right
refusing_layers j (k ∷ ks) s right =
    refusing (faults_of k s) (λ n. Refused n j) (refusing_layers (suc j) ks (rest_of k s) right)

-- The headers of these layers, of which the first starts at this place of the file.
abbrev pub headers_at : ℕ → List Layer → List Header
headers_at at [] = []
headers_at at (l ∷ ls) = header_at at l ∷ headers_at (at + length (bytes_of l)) ls

infix 50 ◌≠◌
-- Whether two numbers differ.
abbrev pub ◌≠◌ : ℕ → ℕ → Bool
m ≠ n = not (eqb m n)

-- The counts of layer j.
abbrev pub counts_at : List Counts → ℕ → Counts
counts_at cs j = get_or cs j (record { inputs = 0; neurons = 0 })

-- The refusals of six layers by their counts, and by how many bytes are left after them.
abbrev pub match_faults : List Counts → ℕ → List Row
match_faults cs left =
    let l0 = counts_at cs 0 in
    let l1 = counts_at cs 1 in
    let l2 = counts_at cs 2 in
    let l3 = counts_at cs 3 in
    let l4 = counts_at cs 4 in
    let l5 = counts_at cs 5 in
    17 when (left ≠ 0)
    ∷ 18 when ((l0.inputs ≠ 42) || ((l4.neurons ≠ 22) || (l5.neurons ≠ 1)))
    ∷ 19 when ((l0.neurons ≠ l1.inputs) || (l1.neurons ≠ l5.inputs))
    ∷ 20 when (42 + l0.neurons + l1.neurons ≠ l2.inputs)
    ∷ 21 when (42 + l1.neurons + l2.neurons ≠ l3.inputs)
    ∷ 22 when (l3.neurons ≠ l4.inputs)
    ∷ []

-- Header j of some headers.
abbrev pub header_in : List Header → ℕ → Header
header_in hs j = get_or hs j (record { inputs = 0; neurons = 0; activation = Tanh; start = 0 })

-- The model with these six headers.
abbrev pub model_of : List Header → Model
model_of hs =
    record {
      input_dense = header_in hs 0;
      vad_gru = header_in hs 1;
      noise_gru = header_in hs 2;
      denoise_gru = header_in hs 3;
      denoise_output = header_in hs 4;
      vad_output = header_in hs 5;
    }

-- The six headers of a model.
abbrev pub headers_in : Model → List Header
headers_in m =
    m.input_dense ∷ m.vad_gru ∷ m.noise_gru ∷ m.denoise_gru ∷ m.denoise_output ∷ m.vad_output ∷ []

-- The counts in a header.
abbrev pub counts_of : Header → Counts
counts_of h = record { inputs = h.inputs; neurons = h.neurons }

-- The counts of the six layers of a model.
abbrev pub counts_in : Model → List Counts
counts_in m = map counts_of (headers_in m)

-- The model, unless its counts, or bytes after it, refuse it.
abbrev pub matched_with : Model → ℕ → Reading
matched_with m left = refusing (match_faults (counts_in m) left) (λ n. Refused n 6) (Good m)

-- What reading a file gives.
unfoldable pub read_of : List ℕ → Reading
read_of s = let r = read_layers kinds s in
    refusing_layers 0 kinds s (matched_with (model_of (headers_at 0 r.0)) (length r.1))
