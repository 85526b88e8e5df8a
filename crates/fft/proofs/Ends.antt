-- Laws of what stands before and after the complex transform. Assumes nothing.
use Rattle.std.specs.Prelude.{◌+◌, ◌-◌, ◌*◌, ◌/◌, ◌%◌, ◌≤◌, ◌<◌, ◌≡◌}
use Rattle.rules.proofs.Common.{ℕ, List, refl, sym, ap, ◌∙◌, length, set}
use Rattle.rules.proofs.Common.{length-set, Float}
use native.Mathlib.Omega.{arith}
use borrow.Author.Tests.{eq-eqb, ne_eqb}
use lib.Seq.{get_or-set_same}
use Rattle.rules.specs.F32.{at, f32, ◌⊕◌}
use Rattle.fft.specs.Ops.{Complex}
use Rattle.fft.specs.Fast.{complex_at, split, bin_out, number_out, bin_in, merged, sample_out}
use Rattle.fft.specs.Single.{single, of}
use Rattle.fft.specs.Private.{cx, complex_of, put_four, Filled}
use Rattle.fft.specs.declared.complex.Cx.{Cx}
use Rattle.fft.proofs.Laying.{filled_more}

module _ (t z : List Float) where
  -- ---- forward
  pub bin_of_lem : (k i j : ℕ) {r a b : Cx} → r ≡ cx (split single (of t) k (complex_of a) (complex_of b))
      → a ≡ cx (complex_at single z i) → b ≡ cx (complex_at single z j)
      → i ≡ k % 480 → j ≡ (480 - k) % 480 → r ≡ cx (bin_out single (of t) z k)
  unfolding bin_out
  bin_of_lem k i j h p q e f = rw (← e, ← f) (rw (p, q) at h)

  number_0 : at z 0 ⊕ at z 480 ≡ number_out single (of t) z 0
  unfolding number_out
  number_0 = refl

  number_re : (j k : ℕ) → j + 1 ≡ 2 * k → 0 < k → number_out single (of t) z j ≡ (bin_out single (of t) z k).re
  unfolding number_out
  number_re j k e h =
      let half : (j + 1) / 2 ≡ k = omega arith in
      simp (ne_eqb j 0 (omega arith), eq-eqb (j % 2) 1 (omega arith), half)

  number_im : (j k : ℕ) → j ≡ 2 * k → 0 < k → number_out single (of t) z j ≡ (bin_out single (of t) z k).im
  unfolding number_out
  number_im j k e h =
      let half : j / 2 ≡ k = omega arith in
      simp (ne_eqb j 0 (omega arith), ne_eqb (j % 2) 1 (omega arith), half)

  pub bins_filled : (k : ℕ) {held mid now : List Float} {w x y v : Cx} → 0 < k → k + 4 ≤ 481
      → Filled 961 (number_out single (of t) z) (2 * k - 1) held
      → w ≡ cx (bin_out single (of t) z k) → x ≡ cx (bin_out single (of t) z (k + 1))
      → y ≡ cx (bin_out single (of t) z (k + 2)) → v ≡ cx (bin_out single (of t) z (k + 3))
      → mid ≡ put_four held (2 * k - 1) w.re w.im x.re x.im
      → now ≡ put_four mid (2 * k + 3) y.re y.im v.re v.im
      → Filled 961 (number_out single (of t) z) (2 * k + 7) now
  bins_filled k pos room h p q u s d e =
      let re : Cx → Float = λ c. c.re in
      let im : Cx → Float = λ c. c.im in
      let on : 2 * k - 1 + 4 ≡ 2 * k + 3 = omega arith in
      let end : 2 * k + 3 + 4 ≡ 2 * k + 7 = omega arith in
      let first = filled_more 961 (number_out single (of t) z) (2 * k - 1) (omega arith) h
      (ap re p ∙ sym (number_re (2 * k - 1) k (omega arith) pos))
      (ap im p ∙ sym (number_im (2 * k - 1 + 1) k (omega arith) pos))
      (ap re q ∙ sym (number_re (2 * k - 1 + 2) (k + 1) (omega arith) (omega arith)))
      (ap im q ∙ sym (number_im (2 * k - 1 + 3) (k + 1) (omega arith) (omega arith))) d in
      rw end at (filled_more 961 (number_out single (of t) z) (2 * k + 3) (omega arith) (rw on at first)
      (ap re u ∙ sym (number_re (2 * k + 3) (k + 2) (omega arith) (omega arith)))
      (ap im u ∙ sym (number_im (2 * k + 3 + 1) (k + 2) (omega arith) (omega arith)))
      (ap re s ∙ sym (number_re (2 * k + 3 + 2) (k + 3) (omega arith) (omega arith)))
      (ap im s ∙ sym (number_im (2 * k + 3 + 3) (k + 3) (omega arith) (omega arith))) e)

  pub bin_0_filled : (held : List Float) → length held ≡ 961
      → Filled 961 (number_out single (of t) z) 1 (set held 0 (at z 0 ⊕ at z 480))
  bin_0_filled held long = record {
    long = simp length-set long;
    behind = λ j h. let e : j ≡ 0 = omega arith in rw e (get_or-set_same held 0 _ _ (omega arith) ∙ number_0);
  }

  -- ---- inverse
  pub merged_of_lem : (k : ℕ) {r a b : Cx} {e f : Complex Float}
      → r ≡ cx (merged single (of t) k (complex_of a) (complex_of b)) → a ≡ cx e → b ≡ cx f
      → r ≡ cx (merged single (of t) k e f)
  merged_of_lem k h p q = rw (p, q) at h

module _ (z : List Float) where
  pub bin_in_0 : (k : ℕ) → k ≡ 0 → bin_in single z k ≡ record { re = at z 0; im = f32 0 }
  unfolding bin_in
  bin_in_0 k e = simp (eq-eqb k 0 e)

  pub bin_in_480 : (k : ℕ) → k ≡ 480 → bin_in single z k ≡ record { re = at z 959; im = f32 0 }
  unfolding bin_in
  bin_in_480 k e = simp (ne_eqb k 0 (omega arith), eq-eqb k 480 e)

  pub sample_even : (n i : ℕ) → n ≡ 2 * i → at z (480 + i) ≡ sample_out single z n
  unfolding sample_out
  sample_even n i e =
      let half : n / 2 ≡ i = omega arith in
      simp (eq-eqb (n % 2) 0 (omega arith), half)

  pub sample_odd : (n i : ℕ) → n ≡ 2 * i + 1 → at z i ≡ sample_out single z n
  unfolding sample_out
  sample_odd n i e =
      let half : n / 2 ≡ i = omega arith in
      simp (ne_eqb (n % 2) 0 (omega arith), half)
