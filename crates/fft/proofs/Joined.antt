-- The transforms of two to five numbers, of what was read. Assumes nothing.
use Rattle.std.specs.Prelude.{◌+◌, ◌*◌, ◌≡◌}
use Rattle.rules.proofs.Common.{ℕ, List, Float}
use Rattle.fft.specs.Ops.{Complex}
use Rattle.fft.specs.Fast.{complex_at, turned_back, of_two, of_three, of_four, first, angle, row2, row3, row4}
use Rattle.fft.specs.Single.{single, of}
use Rattle.fft.specs.Private.{cx, complex_of, bins}
use Rattle.fft.specs.declared.complex.Cx.{Cx}

module _ (t : List Float) where
  pub two_of : {r : List Cx} {a b : Cx} {ea eb : Complex Float}
      → r ≡ bins 2 (of_two single (complex_of a) (complex_of b)) → a ≡ cx ea → b ≡ cx eb
      → r ≡ bins 2 (of_two single ea eb)
  two_of h pa pb = rw (pa, pb) at h

  pub three_of : {r : List Cx} {a b d : Cx} {ea eb ed : Complex Float}
      → r ≡ bins 3 (of_three single (of t) (complex_of a) (complex_of b) (complex_of d)) → a ≡ cx ea → b ≡ cx eb
      → d ≡ cx ed
      → r ≡ bins 3 (of_three single (of t) ea eb ed)
  three_of h pa pb pd = rw (pa, pb, pd) at h

  -- lane i, by the place p of its first number and the angle a of its second
  pub row2_of : (z : List Float) (m i : ℕ) {p a : ℕ} {r : List Cx} → p ≡ first 2 m i → a ≡ angle m i
      → r ≡ bins 2 (of_two single (complex_at single z p) (turned_back single (of t) a (complex_at single z (p + m))))
      → r ≡ bins 2 (row2 single (of t) m z i)
  unfolding row2
  row2_of z m i hp ha h = rw (hp, ha) at h

  -- lane i, by the place p of its first number and the angle a of its second
  pub row3_of : (z : List Float) (m i : ℕ) {p a : ℕ} {r : List Cx} → p ≡ first 3 m i → a ≡ angle m i
      → r ≡ bins 3 (of_three single (of t) (complex_at single z p)
      (turned_back single (of t) a (complex_at single z (p + m)))
      (turned_back single (of t) (2 * a) (complex_at single z (p + 2 * m))))
      → r ≡ bins 3 (row3 single (of t) m z i)
  unfolding row3
  row3_of z m i hp ha h = rw (hp, ha) at h

  -- lane i, by the place p of its first number and the angle a of its second
  pub row4_of : (z : List Float) (m i : ℕ) {p a : ℕ} {r : List Cx} → p ≡ first 4 m i → a ≡ angle m i
      → r ≡ bins 4 (of_four single (complex_at single z p) (turned_back single (of t) a (complex_at single z (p + m)))
      (turned_back single (of t) (2 * a) (complex_at single z (p + 2 * m)))
      (turned_back single (of t) (3 * a) (complex_at single z (p + 3 * m))))
      → r ≡ bins 4 (row4 single (of t) m z i)
  unfolding row4
  row4_of z m i hp ha h = rw (hp, ha) at h
