-- The constants' rule: tests that antt computes once over the whole table, and what they say of each row.
-- Assumes nothing.
use Rattle.std.specs.Prelude.{◌+◌, ◌*◌, ◌/◌, ◌%◌, ◌^◌, ◌<◌, ◌&&◌}
use Rattle.rules.proofs.Common.{ℕ, Bool, true, false, refl, sym, ap, ◌∙◌, eqb, leb}
use Rattle.rules.proofs.Common.{T, Float, nan, inf, fin, up}
use Rattle.rules.proofs.Common.{down}
use native.Mathlib.Nat.{div-add-mod', add-zero}
use lib.Dec.{leb→le, eqb→eq}
use lib.Ieee.{of_bits}
use lib.Ieee.Fits.{and_l, and_r}
use Rattle.rules.proofs.Tests.{at_each}
use Rattle.logs.specs.Tables.{row_bits, rows, row_at, two_high}
use Rattle.logs.specs.Exact.{Grained, Rule}

-- the test of `Grained`
abbrev grained : ℕ → ℕ → ℕ → Float → Bool
grained p least most nan = false
grained p least most (inf s) = false
grained p least most (fin true m e) = false
grained p least most (fin false m e) =
    eqb (m * up e * 2 ^ p % down e) 0 && (leb least (m * up e * 2 ^ p / down e) && leb (m * up e * 2 ^ p / down e) most)

passed : (p least most : ℕ) (x : Float) → T (grained p least most x) → Grained p least most x
passed p least most nan t = absurd t
passed p least most (inf s) t = absurd t
passed p least most (fin true m e) t = absurd t
passed p least most (fin false m e) t =
    let n = m * up e * 2 ^ p in
    let none = eqb→eq (n % down e) 0 (and_l (eqb (n % down e) 0) _ t) in
    let ends = and_r (eqb (n % down e) 0) (leb least (n / down e) && leb (n / down e) most) t in
    record {
      value = (
        refl,
        sym (ap (λ (k : ℕ). n / down e * down e + k) (sym none) ∙ div-add-mod' n (down e))
            ∙ add-zero (n / down e * down e),
      );
      from = leb→le least (n / down e) (and_l (leb least (n / down e)) _ ends);
      to = leb→le (n / down e) most (and_r (leb least (n / down e)) (leb (n / down e) most) ends);
    }

pub rule : (i : ℕ) → i < 33 → Rule i
unfolding rows row_bits of_bits
rule i h = record {
  centre =
      passed 20 (2 ^ 19) (2 ^ 20) (row_at i).centre
      (at_each 33 (λ k. grained 20 (2 ^ 19) (2 ^ 20) (row_at k).centre) tt i h);
  high = passed 40 0 (2 ^ 39) (row_at i).high (at_each 33 (λ k. grained 40 0 (2 ^ 39) (row_at k).high) tt i h);
}

pub two_rule : Grained 40 1 (2 ^ 39) two_high
unfolding of_bits
two_rule = passed 40 1 (2 ^ 39) two_high tt
