-- The 22 sums of the DCT, row by row: none has a product yet, each gets its next one, and all are scaled.
-- Assumes nothing.
use Rattle.std.specs.Prelude.{◌+◌, ◌<◌, ◌≡◌}
use Rattle.rules.proofs.Common.{ℕ, List, sym, ap, ◌∙◌, Float, nan}
use Rattle.rules.specs.Loop.{loop}
use Rattle.rules.specs.F32.{at, f32, zeros}
use Rattle.rules.specs.Tab.{tab}
use Rattle.rules.proofs.Loops.{more}
use Rattle.rules.proofs.Lists.{get_d_tab, tab_const, tab_same}
use Rattle.bands.specs.Dct.{dct_step, dct_sum, dct_scaled, dct_in}
use Rattle.bands.specs.Private.{sums_after}

module _ (table x : List Float) where
  pub sums_none : zeros 22 ≡ sums_after table x 0
  unfolding sums_after loop
  sums_none = sym (tab_const 22 (f32 0))

  sum_at : (j i : ℕ) → i < 22 → at (sums_after table x j) i ≡ loop j (dct_step table x i) (f32 0)
  unfolding sums_after
  sum_at j i h = get_d_tab 22 (λ k. loop j (dct_step table x k) (f32 0)) i nan h

  -- the next product of sum i
  pub sum_more : (j i : ℕ) {sum next : Float} → i < 22 → sum ≡ at (sums_after table x j) i
      → next ≡ dct_step table x i j sum → next ≡ loop (j + 1) (dct_step table x i) (f32 0)
  sum_more j i h e turn = more (dct_step table x i) (f32 0) j (e ∙ sum_at j i h) turn

  pub sums_scaled : tab 22 (λ i. dct_scaled (at (sums_after table x 22) i)) ≡ dct_in table x
  unfolding dct_in
  sums_scaled =
      tab_same 22 (λ i. dct_scaled (at (sums_after table x 22) i)) (λ i. dct_scaled (dct_sum table x i))
      (λ i h. ap dct_scaled (sum_at 22 i h))
