-- Where the features lie among the 42, and what stays where others are written. Assumes nothing.
use Rattle.std.specs.Prelude.{◌+◌, ◌∷◌, ◌++◌, ◌≡◌}
use Rattle.rules.proofs.Common.{ℕ, List, [], sym, ap, ◌∙◌, length, take, drop, set, length-take}
use Rattle.rules.proofs.Common.{length-drop, length-append}
use Rattle.rules.proofs.Common.{Float}
use mathlib.Core.Logic.{inl}
use mathlib.Core.List.{append_assoc}
use native.Mathlib.Omega.{arith}
use lib.ListN.{take-append-drop}
use lib.Seq.{drop-drop, set_at, take_all}
use Rattle.rules.specs.F32.{part}
use Rattle.rules.specs.Place.{Place, get, put}
use Rattle.rules.proofs.Places.{put_behind, get_get, get_put, get_put_apart, length_put}

abbrev pub place : ℕ → ℕ → Place
place at size = record { at = at; size = size }

-- a store to the last place
at_the_end : (front : List Float) (n : ℕ) (rest : List Float) (v : Float) → length front ≡ n → length rest ≡ 1
    → set (front ++ rest) n v ≡ front ++ v ∷ []
at_the_end front n [] v e one = absurd (omega arith)
at_the_end front n (x ∷ []) v e one = set_at front x [] v n e
at_the_end front n (x ∷ y ∷ rest) v e one = absurd (omega arith)

-- what stands behind place k
cut : (l : List Float) (k n : ℕ) → drop k l ≡ take n (drop k l) ++ drop (k + n) l
cut l k n = sym (take-append-drop n (drop k l)) ∙ ap (λ (t : List Float). take n (drop k l) ++ t) (drop-drop n k l)

-- the stores of `add_deltas`
module _ (l sums slopes bends : List Float) (v : Float) (all : length l ≡ 42) (p : length sums ≡ 6)
    (q : length slopes ≡ 6) (r : length bends ≡ 6) where
  first : put (place 0 6) l sums ≡ sums ++ part 6 22 l ++ drop 22 l
  unfolding put
  first = ap (λ (t : List Float). sums ++ t) (cut l 6 16) ∙ sym (append_assoc sums (part 6 22 l) (drop 22 l))

  second : put (place 22 6) (put (place 0 6) l sums) slopes ≡ sums ++ part 6 22 l ++ slopes ++ drop 28 l
  second =
      ap (λ (t : List Float). put (place 22 6) t slopes) first
      ∙ put_behind (place 22 6) (sums ++ part 6 22 l) (drop 22 l) slopes
      (simp (length-append, length-take, length-drop) (omega arith))
      ∙ ap (λ (t : List Float). sums ++ part 6 22 l ++ slopes ++ t) (drop-drop 6 22 l)

  abbrev front : List Float
  front = sums ++ part 6 22 l ++ slopes ++ bends ++ part 34 41 l

  third : put (place 28 6) (put (place 22 6) (put (place 0 6) l sums) slopes) bends ≡ front ++ drop 41 l
  third =
      ap (λ (t : List Float). put (place 28 6) t bends) second
      ∙ put_behind (place 28 6) (sums ++ part 6 22 l ++ slopes) (drop 28 l) bends
      (simp (length-append, length-take, length-drop) (omega arith))
      ∙ ap (λ (t : List Float). sums ++ part 6 22 l ++ slopes ++ bends ++ t) (drop-drop 6 28 l ∙ cut l 34 7)
      ∙ sym (append_assoc (sums ++ part 6 22 l ++ slopes ++ bends) (part 34 41 l) (drop 41 l))

  pub laid_out : set (put (place 28 6) (put (place 22 6) (put (place 0 6) l sums) slopes) bends) 41 v
      ≡ sums ++ part 6 22 l ++ slopes ++ bends ++ part 34 41 l ++ v ∷ []
  laid_out =
      ap (λ (t : List Float). set t 41 v) third
      ∙ at_the_end front 41 (drop 41 l) v (simp (length-append, length-take, length-drop) (omega arith))
      (simp length-drop (omega arith))

-- the pitch's features are written, and then the cepstrum
module _ (l pitch ceps : List Float) (all : length l ≡ 42) (p : length pitch ≡ 7) (q : length ceps ≡ 22) where
  abbrev before : List Float
  before = put (place 34 7) l pitch

  abbrev after : List Float
  after = put (place 0 22) before ceps

  whole : length before ≡ 42
  whole = length_put (place 34 7) l pitch (omega arith) p ∙ all

  whole' : length after ≡ 42
  whole' = length_put (place 0 22) before ceps (omega (arith, whole)) q ∙ whole

  pub pitch_stays : part 34 41 (put (place 0 22) (put (place 34 7) l pitch) ceps) ≡ pitch
  unfolding get
  pitch_stays =
      get_put_apart (place 0 22) (place 34 7) before ceps (omega (arith, whole)) q (inl (omega arith))
      ∙ get_put (place 34 7) l pitch (omega arith) p

  pub ceps_stays : part 6 22 (put (place 0 22) (put (place 34 7) l pitch) ceps) ≡ drop 6 ceps
  unfolding get
  ceps_stays =
      sym (get_get (place 0 22) (place 6 16) after (omega (arith, whole')) (omega arith))
      ∙ ap (get (place 6 16)) (get_put (place 0 22) before ceps (omega (arith, whole)) q)
      ∙ take_all 16 (drop 6 ceps) (simp length-drop (omega arith))
