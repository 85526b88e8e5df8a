-- What readings stay within: no longer file reads than the largest model's, and a refusal is a number of the table.
-- Assumes nothing.
use Rattle.std.specs.Prelude.{Option, Some, None, ◌+◌, ◌*◌, ◌^◌, ◌≤◌, ◌<◌, ◌∷◌, ◌≡◌}
use Rattle.rules.proofs.Common.{ℕ, zero, suc, List, [], refl, sym, subst, length}
use Rattle.rules.proofs.Common.{get_or, length-append}
use native.Mathlib.Nat.{add-mul}
use native.Mathlib.Numerals.{add-one}
use native.Mathlib.Omega.{arith}
use Rattle.rules.proofs.Refusals.{by_each}
use Rattle.model.specs.declared.Kind.{Kind}
use Rattle.model.specs.declared.Kind.TheVariants.{Dense, Gru}
use Rattle.model.specs.declared.Header.{Header}
use Rattle.model.specs.declared.Model.{Model}
use Rattle.model.specs.Reading.{Reading, Good, Refused}
use Rattle.model.specs.Layer.{lengths, size_of, Layer, faults_of, rest_of}
use Rattle.model.specs.Model.{kinds, headers_at, model_of, counts_in, match_faults, matched_with, read_layers}
use Rattle.model.specs.Model.{refusing_layers, read_of}
use Rattle.model.specs.Array.{found_in, array_in, line_in}
use Rattle.model.specs.Laws.{layers_read, LiesIn, Shaped, Largest, RefusedIn}
use Rattle.model.proofs.Layer.{product}
use Rattle.model.specs.Writer.{file_of}
use Rattle.model.proofs.Inverse.{length_joined, number_small, FitAll}
use Rattle.model.proofs.File.{Written, writes_back}
use Rattle.model.proofs.Places.{within, place_within}
use Rattle.model.proofs.Shapes.{shape}

-- ---- the largest file

abbrev total : List Kind → List Layer → ℕ
total [] ls = 0
total (k ∷ ks) [] = 0
total (k ∷ ks) (l ∷ ls) = 3 + size_of k l.inputs l.neurons + total ks ls

length_file : (ks : List Kind) (ls : List Layer) → FitAll ks ls → length (file_of ls) ≡ total ks ls
length_file [] [] f = refl
length_file (k ∷ ks) (l ∷ ls) f =
    simp length-append (omega
    (arith, length_joined (lengths k l.inputs l.neurons) l.arrays f.0.arrays, length_file ks ls f.1))
length_file [] (l ∷ ls) f = elim f [ ]
length_file (k ∷ ks) [] f = elim f [ ]

-- a, b, c and d are the neurons of layers 0 to 3, and i and j the inputs of layers 2 and 3
largest_sum : (a b c d i j : ℕ) → 1 ≤ b → d < 128 → i < 128 → j < 128 → 42 + a + b ≡ i → 42 + b + c ≡ j
    → size_of Dense 42 a + (size_of Gru a b
    + (size_of Gru i c + (size_of Gru j d + (size_of Dense d 22 + size_of Dense b 1)))) ≤ 157267
largest_sum a b c d i j some few small small' reads reads' =
    let recurs : 3 * a * b + 3 * b * b ≤ 255 * b =
    rw (← add-mul (3 * a) (3 * b) b) (product (3 * a + 3 * b) b 255 b (omega arith) (omega arith)) in
    omega (
      arith,
      product (3 * i) c 381 c (omega arith) (omega arith),
      product (3 * c) c 252 c (omega arith) (omega arith),
      product (3 * j) d 381 d (omega arith) (omega arith),
      product (3 * d) d 381 d (omega arith) (omega arith),
    )

largest_file : (size : ℕ) (ls : List Layer) → FitAll kinds ls → Shaped size (model_of (headers_at 0 ls))
    → length (file_of ls) ≤ 157285
largest_file size (l0 ∷ l1 ∷ l2 ∷ l3 ∷ l4 ∷ l5 ∷ []) f q =
    let ls = l0 ∷ l1 ∷ l2 ∷ l3 ∷ l4 ∷ l5 ∷ [] in
    rw (length_file kinds ls f, q.features, ← q.vad_reads, ← q.voice_reads, ← q.gains_read, q.gains, q.voice)
    (omega (
      arith,
      largest_sum l0.neurons l1.neurons l2.neurons l3.neurons l2.inputs l3.inputs
          q.layer1.some q.layer3.neurons q.layer2.inputs q.layer3.inputs q.noise_reads
          q.denoise_reads,
    ))
largest_file size [] f q = absurd f
largest_file size (l0 ∷ []) f q = absurd f.1
largest_file size (l0 ∷ l1 ∷ []) f q = absurd f.1.1
largest_file size (l0 ∷ l1 ∷ l2 ∷ []) f q = absurd f.1.1.1
largest_file size (l0 ∷ l1 ∷ l2 ∷ l3 ∷ []) f q = absurd f.1.1.1.1
largest_file size (l0 ∷ l1 ∷ l2 ∷ l3 ∷ l4 ∷ []) f q = absurd f.1.1.1.1.1
largest_file size (l0 ∷ l1 ∷ l2 ∷ l3 ∷ l4 ∷ l5 ∷ l6 ∷ ls) f q = absurd f.1.1.1.1.1.1

-- no longer file reads
pub largest : Largest
largest s m e =
    let w : Written s m = rw (← e) at (writes_back s) in
    rw w.holds.file (largest_file (length s) (layers_read s) w.holds.fit
    (subst (Shaped (length s)) (sym w.model) (shape s m w)))

-- a layer that is found is within 157,285 bytes
found_small : (s : List ℕ) (j : ℕ) {k : Kind} {h : Header} → Some (k, h) ≡ found_in (read_of s) j → LiesIn 157285 k h
found_small s j {k} {h} e = within s j e (of (read_of s) refl e)
  where
    of : (r : Reading) → r ≡ read_of s → Some (k, h) ≡ found_in r j → length s ≤ 157285
    of (Good m) good e = largest s m good
    of (Refused n l) bad e = absurd (let z : ◌≡◌ {A = ℕ} 0 1 = cc in omega arith)

-- the numbers of a line, behind its layer
pub line_small : (s : List ℕ) (j n : ℕ) → get_or (line_in (found_in (read_of s) j) j) (n + 1) 0 < 2 ^ 32
line_small s j n = rw (add-one n) (of (found_in (read_of s) j) refl n)
  where
    of : (f : Option (Kind × Header)) → f ≡ found_in (read_of s) j → (n : ℕ) → get_or (line_in f j) (suc n) 0 < 2 ^ 32
    of None e zero = omega arith
    of None e (suc zero) = omega arith
    of None e (suc (suc zero)) = omega arith
    of None e (suc (suc (suc zero))) = omega arith
    of None e (suc (suc (suc (suc zero)))) = omega arith
    of None e (suc (suc (suc (suc (suc n))))) = omega arith
    of (Some (k, h)) e zero = let w = found_small s j e in omega arith
    of (Some (k, h)) e (suc zero) = let w = found_small s j e in omega arith
    of (Some (k, h)) e (suc (suc zero)) = let a = number_small h.activation in omega arith
    of (Some (k, h)) e (suc (suc (suc zero))) = let w = found_small s j e in omega arith
    of (Some (k, h)) e (suc (suc (suc (suc zero)))) = let w = found_small s j e in omega arith
    of (Some (k, h)) e (suc (suc (suc (suc (suc n))))) = omega arith

-- the place of an array and its length
pub array_small : (s : List ℕ) (j w : ℕ) → let p = array_in (found_in (read_of s) j) w in p.at + p.size ≤ 157285
array_small s j w = of (found_in (read_of s) j) refl
  where
    of : (f : Option (Kind × Header)) → f ≡ found_in (read_of s) j → (array_in f w).at + (array_in f w).size ≤ 157285
    of (Some (k, h)) e = place_within k h (found_small s j e) w
    of None e = omega arith

-- ---- refusals

abbrev InTable : Reading → Type 0
InTable (Good m) = Unit
InTable (Refused n j) = (11 ≤ n) × (n ≤ 22) × (j ≤ 6)

matched_in : (m : Model) (left : ℕ) → InTable (matched_with m left)
matched_in m left = by_each (λ n. Refused n 6) (Good m) InTable (match_faults (counts_in m) left) (omega arith) tt

layers_in : (right : Reading) → InTable right → (j : ℕ) (ks : List Kind) (s : List ℕ) → j + length ks ≤ 6
    → InTable (refusing_layers j ks s right)
unfolding refusing_layers
layers_in right h j [] s b = h
layers_in right h j (k ∷ ks) s b =
    by_each (λ n. Refused n j) _ InTable (faults_of k s) (omega arith)
    (layers_in right h (suc j) ks (rest_of k s) (omega arith))

reading_in : (s : List ℕ) → InTable (read_of s)
unfolding read_of
reading_in s = let r = read_layers kinds s in
    layers_in _ (matched_in (model_of (headers_at 0 r.0)) (length r.1)) 0 kinds s (omega arith)

-- a refusal is one of 11 to 22, and its layer one of 0 to 6
pub refused_in : (s : List ℕ) {n j : ℕ} → Refused n j ≡ read_of s → (11 ≤ n) × (n ≤ 22) × (j ≤ 6)
refused_in s e = rw (← e) at (reading_in s)

pub refusals : RefusedIn
refusals s n j e = refused_in s e
