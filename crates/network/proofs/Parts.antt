-- The arrays of a layer, as the code cuts them from the bytes: each is the array that the definition names, and has its
-- length.
-- Assumes nothing.
use Rattle.std.specs.Prelude.{◌+◌, ◌-◌, ◌*◌, ◌≤◌, ◌++◌, ◌≡◌}
use Rattle.rules.proofs.Common.{ℕ, List, refl, sym, ap, ◌∙◌, length, take, drop}
use Rattle.rules.proofs.Common.{length-take, length-drop, Float}
use native.Mathlib.Nat.{mul_comm, mul_assoc}
use native.Mathlib.Omega.{arith}
use Rattle.rules.specs.F32.{part}
use Rattle.rules.specs.Place.{Place, get, put}
use Rattle.model.specs.Array.{place_of, place_in}
use Rattle.model.specs.Laws.{LiesIn}
use Rattle.model.specs.declared.Kind.{Kind}
use Rattle.model.specs.declared.Kind.TheVariants.{Dense, Gru}
use Rattle.model.specs.declared.Header.{Header}
use Rattle.model.proofs.Places.{place_within, in_place}
use Rattle.network.specs.Layers.{dense_of, gru_of, DenseArrays, GruArrays}
use Rattle.network.specs.Compute.{dense_at, gru_at}
use Rattle.network.specs.Private.{state_at, LayerFits}

module _ {A : Type 0} (xs : List A) (a e : ℕ) where
  pub cut_length : (n : ℕ) → e ≡ a + n → e ≤ length xs → length (part a e xs) ≡ n
  cut_length n h w = simp (length-take, length-drop) (omega arith)

  pub cut : (p : Place) → a ≡ p.at → e ≡ a + p.size → part a e xs ≡ get p xs
  unfolding get
  cut p h k = let size : e - a ≡ p.size = omega arith in rw (size, h)

  -- a part that was lent, as it comes back
  pub put_back : (p : Place) (ys : List A) → a ≡ p.at → e ≡ a + p.size
      → take a xs ++ (ys ++ drop (e - a) (drop a xs)) ≡ put p xs ys
  unfolding put
  put_back p ys h k = let size : e - a ≡ p.size = omega arith in rw (size, h)

swapped : (a b : ℕ) → 3 * a * b ≡ 3 * b * a
swapped a b = mul_assoc 3 a b ∙ rw (mul_comm a b) (sym (mul_assoc 3 b a))

-- where the code finds an array: a place, and how many bytes
pub record Found (k : Kind) (h : Header) (which at size : ℕ) : Type 0 where
  pub here : at ≡ (place_of k h which).at
  pub long : size ≡ (place_of k h which).size

-- of a layer that lies within the bytes
pub found : {bytes : ℕ} {k : Kind} {h : Header} (which : ℕ) {at size : ℕ} → LiesIn bytes k h
    → (at ≡ (place_in bytes k h which).at) × (size ≡ (place_in bytes k h which).size) → Found k h which at size
found {bytes} {k} {h} which within e =
    let there = in_place k h within which in
    record { here = e.0 ∙ ap (λ (p : Place). p.at) there; long = e.1 ∙ ap (λ (p : Place). p.size) there }

pub ends_within : {bytes : ℕ} {k : Kind} {h : Header} {which at size : ℕ} → LiesIn bytes k h → Found k h which at size
    → at + size ≤ bytes
ends_within {k = k} {h = h} {which = which} within f = rw (f.here, f.long) (place_within k h within which)

module _ (bytes : List ℕ) (h : Header) where
  abbrev i : ℕ
  i = h.inputs

  abbrev n : ℕ
  n = h.neurons

  -- an array, as it is cut from the bytes
  size_of : {k : Kind} {which at size : ℕ} → LiesIn (length bytes) k h → Found k h which at size
      → length (part at (at + size) bytes) ≡ (place_of k h which).size
  size_of {at = at} {size = size} within f = cut_length bytes at (at + size) size refl (ends_within within f) ∙ f.long

  cut_of : {k : Kind} {which at size : ℕ} → Found k h which at size
      → part at (at + size) bytes ≡ get (place_of k h which) bytes
  cut_of {k} {which} {at} {size} f = cut bytes at (at + size) (place_of k h which) f.here (rw f.long)

  module _ {w v b d : ℕ} (fw : Found Dense h 0 w v) (fb : Found Dense h 2 b d) where
    pub dense_arrays : {output input : ℕ} → LayerFits Dense h (length bytes) output input
        → DenseArrays output (length (part w (w + v) bytes)) (length (part b (b + d) bytes)) input
    dense_arrays at =
        record {
          weighted = size_of at.within fw ∙ rw (at.neurons, at.inputs) (mul_comm i n);
          biased = size_of at.within fb ∙ sym at.neurons;
        }

    -- what the layer over the parts leaves
    pub dense_at_lem : (x : List Float) {r : List Float}
        → r ≡ dense_of (part w (w + v) bytes) (part b (b + d) bytes) h.activation x → r ≡ dense_at bytes h x
    unfolding dense_at
    dense_at_lem x e = e ∙ rw (cut_of fw, cut_of fb)

  module _ {w v q p b d : ℕ} (fw : Found Gru h 0 w v) (fq : Found Gru h 1 q p) (fb : Found Gru h 2 b d) where
    pub gru_arrays : {output input : ℕ} → LayerFits Gru h (length bytes) output input
        → GruArrays output (length (part w (w + v) bytes)) (length (part q (q + p) bytes))
        (length (part b (b + d) bytes)) input
    gru_arrays at =
        record {
          weighted = size_of at.within fw ∙ rw (at.neurons, at.inputs) (swapped i n);
          recurs = size_of at.within fq ∙ rw at.neurons;
          biased = size_of at.within fb ∙ rw at.neurons;
        }

    pub gru_at_lem : (x states : List Float) (at : ℕ) {r : List Float}
        → r ≡ gru_of (part w (w + v) bytes) (part q (q + p) bytes) (part b (b + d) bytes) h.activation x
        (part at (at + n) states)
        → take at states ++ (r ++ drop (at + n - at) (drop at states))
        ≡ put (state_at at h) states (gru_at bytes h x (get (state_at at h) states))
    unfolding gru_at
    gru_at_lem x states at {r} e =
        put_back states at (at + n) (state_at at h) r refl refl
        ∙ ap (put (state_at at h) states)
        (e ∙ rw (cut_of fw, cut_of fq, cut_of fb, cut states at (at + n) (state_at at h) refl refl))
