-- Reading and writing are each the other's inverse, for one layer and for layers in a row. Assumes nothing.
--     layer_reads, row_reads     the bytes of layers that fit read as these layers, and nothing refuses them
--     layer_fits, row_fits       what nothing refuses is the bytes of its layers, and they fit
use Rattle.std.specs.Prelude.{◌≤◌, ◌∷◌, ◌++◌, ◌≡◌}
use Rattle.rules.proofs.Common.{ℕ, zero, suc, true≢false, List, [], refl, sym, ap, subst, ◌∙◌}
use Rattle.rules.proofs.Common.{length, drop, length-take}
use Rattle.rules.proofs.Common.{length-drop, length-append}
use mathlib.Core.List.{append_assoc}
use native.Mathlib.Omega.{arith}
use borrow.Author.Tests.{le-ltb, ne_eqb, ltb-false, eqb-false}
use lib.ListN.{take-append-drop}
use lib.Seq.{take-append_seam, drop-append_seam}
use Rattle.rules.specs.Lists.{sum}
use Rattle.model.specs.declared.Activation.{Activation}
use Rattle.model.specs.declared.Activation.TheVariants.{Tanh, Sigmoid, Relu}
use Rattle.model.specs.declared.Kind.{Kind}
use Rattle.model.specs.Reading.{Reading, Refused}
use Rattle.rules.proofs.Refusals.{Clear, clear, by_rows}
use Rattle.model.specs.Layer.{lengths, size_of, activation_of, activation_number, joined, cut, bytes_of, Layer}
use Rattle.model.specs.Layer.{layer_of, faults_of, rest_of}
use Rattle.model.specs.Model.{read_layers, refusing_layers}
use Rattle.model.specs.Writer.{file_of}
use Rattle.model.proofs.Layer.{joined_cut}

-- arrays of these lengths
abbrev pub Sized : List ℕ → List (List ℕ) → Type 0
Sized [] [] = Unit
Sized [] (x ∷ xs) = ⊥
Sized (n ∷ ns) [] = ⊥
Sized (n ∷ ns) (x ∷ xs) = (length x ≡ n) × Sized ns xs

pub length_joined : (ns : List ℕ) (xs : List (List ℕ)) → Sized ns xs → length (joined xs) ≡ sum ns
length_joined [] [] h = refl
length_joined (n ∷ ns) (x ∷ xs) h = simp (length-append, length_joined ns xs h.1, h.0)
length_joined [] (x ∷ xs) h = elim h [ ]
length_joined (n ∷ ns) [] h = elim h [ ]

cut_joined : (ns : List ℕ) (xs : List (List ℕ)) (rest : List ℕ) → Sized ns xs → cut ns (joined xs ++ rest) ≡ xs
cut_joined [] [] rest h = refl
cut_joined (n ∷ ns) (x ∷ xs) rest h =
    rw (
      ← h.0,
      append_assoc x (joined xs) rest,
      take-append_seam x (joined xs ++ rest),
      drop-append_seam x (joined xs ++ rest),
      cut_joined ns xs rest h.1,
    )
cut_joined [] (x ∷ xs) rest h = elim h [ ]
cut_joined (n ∷ ns) [] rest h = elim h [ ]

sized_cut : (ns s : List ℕ) → sum ns ≤ length s → Sized ns (cut ns s)
sized_cut [] s h = tt
sized_cut (n ∷ ns) s h = (simp length-take (omega arith), sized_cut ns (drop n s) (simp length-drop (omega arith)))

pub number_of : (a : ℕ) → a ≤ 2 → activation_number (activation_of a) ≡ a
number_of zero h = refl
number_of (suc zero) h = refl
number_of (suc (suc zero)) h = refl
number_of (suc (suc (suc a))) h = absurd (omega arith)

pub activation_of_lem : (a : Activation) → activation_of (activation_number a) ≡ a
activation_of_lem Tanh = refl
activation_of_lem Sigmoid = refl
activation_of_lem Relu = refl

pub number_small : (a : Activation) → activation_number a ≤ 2
number_small Tanh = omega arith
number_small Sigmoid = omega arith
number_small Relu = omega arith

-- a layer that a file can hold
pub record Fits (k : Kind) (l : Layer) : Type 0 where
  pub inputs : l.inputs ≤ 127
  pub neurons : l.neurons ≤ 127
  pub some : l.neurons ≡ 0 → ⊥
  pub arrays : Sized (lengths k l.inputs l.neurons) l.arrays

module _ (k : Kind) (l : Layer) (rest : List ℕ) (h : Fits k l) where
  abbrev ns : List ℕ
  ns = lengths k l.inputs l.neurons

  pub layer_reads : layer_of k (bytes_of l ++ rest) ≡ l
  layer_reads = rw (activation_of_lem l.activation, cut_joined ns l.arrays rest h.arrays)

  rest_reads : rest_of k (bytes_of l ++ rest) ≡ rest
  rest_reads =
      ap (λ (l' : Layer). drop (length (bytes_of l')) (bytes_of l ++ rest)) layer_reads
      ∙ drop-append_seam (bytes_of l) rest

  layer_clear : Clear (faults_of k (bytes_of l ++ rest))
  layer_clear =
      let enough : sum ns ≤ length (joined l.arrays ++ rest) =
      simp length-append (omega (arith, length_joined ns l.arrays h.arrays)) in (
        le-ltb (length (bytes_of l ++ rest)) 3 (omega arith),
        (
          le-ltb _ _ h.inputs,
          (
            le-ltb _ _ h.neurons,
            (le-ltb _ _ (number_small l.activation), (ne_eqb _ _ h.some, (le-ltb _ _ enough, tt))),
          ),
        ),
      )

-- a layer that nothing refuses
pub layer_fits : (k : Kind) (s : List ℕ) → Clear (faults_of k s)
    → Fits k (layer_of k s) × (s ≡ bytes_of (layer_of k s) ++ rest_of k s)
layer_fits k [] c = absurd (true≢false c.0)
layer_fits k (i ∷ []) c = absurd (true≢false c.0)
layer_fits k (i ∷ n ∷ []) c = absurd (true≢false c.0)
layer_fits k (i ∷ n ∷ a ∷ s) c =
    let long : size_of k i n ≤ length s = ltb-false _ _ c.1.1.1.1.1.0 in
    let l = layer_of k (i ∷ n ∷ a ∷ s) in
    let is : i ∷ n ∷ a ∷ s ≡ bytes_of l
    ++ drop (size_of k i n) s = simp (number_of a (ltb-false _ _ c.1.1.1.0), joined_cut, take-append-drop) in (
      record {
        inputs = ltb-false _ _ c.1.0;
        neurons = ltb-false _ _ c.1.1.0;
        some = eqb-false _ _ c.1.1.1.1.0;
        arrays = sized_cut (lengths k i n) s long;
      },
      is ∙ ap (◌++◌ (bytes_of l))
          (sym (ap (drop (length (bytes_of l))) is ∙ drop-append_seam (bytes_of l) (drop (size_of k i n) s))),
    )

-- ---- layers in a row

-- layers of these kinds that a file can hold
abbrev pub FitAll : List Kind → List Layer → Type 0
FitAll [] [] = Unit
FitAll [] (l ∷ ls) = ⊥
FitAll (k ∷ ks) [] = ⊥
FitAll (k ∷ ks) (l ∷ ls) = Fits k l × FitAll ks ls

-- nothing refuses the layers in front of some bytes
abbrev pub AllClear : List Kind → List ℕ → Type 0
AllClear [] s = Unit
AllClear (k ∷ ks) s = Clear (faults_of k s) × AllClear ks (rest_of k s)

-- they read as these layers, and nothing refuses them
abbrev Reads : List Kind → List Layer → List ℕ → List ℕ → Type 0
Reads ks ls rest s = (read_layers ks s ≡ (ls, rest)) × AllClear ks s

pub row_reads : (ks : List Kind) (ls : List Layer) (rest : List ℕ) → FitAll ks ls
    → Reads ks ls rest (file_of ls ++ rest)
unfolding read_layers
row_reads [] [] rest h = (refl, tt)
row_reads (k ∷ ks) (l ∷ ls) rest h =
    let r = file_of ls ++ rest in
    let more = subst (Reads ks ls rest) (sym (rest_reads k l r h.0)) (row_reads ks ls rest h.1) in
    subst (Reads (k ∷ ks) (l ∷ ls) rest) (sym (append_assoc (bytes_of l) (file_of ls) rest)) (
      ap (λ (r : List Layer × List ℕ). (layer_of k (bytes_of l ++ (file_of ls ++ rest)) ∷ r.0, r.1)) more.0
          ∙ rw (layer_reads k l r h.0),
      (layer_clear k l r h.0, more.1),
    )
row_reads [] (l ∷ ls) rest h = elim h [ ]
row_reads (k ∷ ks) [] rest h = elim h [ ]

pub row_fits : (ks : List Kind) (s : List ℕ) → AllClear ks s → let r = read_layers ks s in
    FitAll ks r.0 × (s ≡ file_of r.0 ++ r.1)
unfolding read_layers
row_fits [] s c = (tt, refl)
row_fits (k ∷ ks) s c =
    let one = layer_fits k s c.0 in
    let more = row_fits ks (rest_of k s) c.1 in (
      (one.0, more.0),
      one.1 ∙ ap (◌++◌ (bytes_of (layer_of k s))) more.1 ∙ sym (append_assoc (bytes_of (layer_of k s)) _ _),
    )

-- what nothing refuses is right, and what holds of each refusal, and of what is right where nothing refuses, holds of
-- the answer
module _ (right : Reading) where
  pub row_clear : (j : ℕ) (ks : List Kind) (s : List ℕ) → AllClear ks s → refusing_layers j ks s right ≡ right
  unfolding refusing_layers
  row_clear j [] s c = refl
  row_clear j (k ∷ ks) s c = clear (λ n. Refused n j) _ (faults_of k s) c.0 ∙ row_clear (suc j) ks (rest_of k s) c.1

  pub by_layers : (P : Reading → Type 0) (j : ℕ) (ks : List Kind) (s : List ℕ) → ((n i : ℕ) → P (Refused n i))
      → (AllClear ks s → P right) → P (refusing_layers j ks s right)
  unfolding refusing_layers
  by_layers P j [] s bad good = good tt
  by_layers P j (k ∷ ks) s bad good =
      by_rows (λ n. Refused n j) _ P (faults_of k s) (λ n. bad n j)
      (λ c. by_layers P (suc j) ks (rest_of k s) bad (λ cs. good (c, cs)))
