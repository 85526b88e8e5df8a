-- `numbers::root_digits` meets its contract: what passes the tests is nearest to the root, and there is only one such
-- number. Assumes nothing.
use Rattle.std.specs.Prelude.{◌+◌, ◌-◌, ◌*◌, ◌^◌, ◌<◌, ◌≡◌}
use Rattle.rules.proofs.Common.{ℕ, ap, ◌∙◌}
use Rattle.std.proofs.Common.{le_of_lt, arith, lit<}
use lib.Ieee.Nearest.{closest}
use Rattle.numbers.specs.Root.{twice_root}
use Rattle.numbers.proofs.Squares.{Near, near_unique, near_closest, square_fits, twice_lt}
use Rattle.numbers.proofs.root_digits.Goals as goal

-- strictly between the two halfway points
between : (n q : ℕ) → 0 < q → (8 * q - 4) * (8 * q - 4) < n → n < (8 * q - 4 + 8) * (8 * q - 4 + 8)
    → q ≡ closest (twice_root n) (2 ^ 4)
between n q some below above =
    let low : 2 * (q * 4) - 4 ≡ 8 * q - 4 = omega arith in
    let high : 2 * (q * 4) + 4 ≡ 8 * q - 4 + 8 = omega arith in
    let near : Near n 4 q = record {
      low = rw low (le_of_lt below);
      high = rw high (le_of_lt above);
      even_low = λ e. absurd (omega (arith, rw low at e));
      even_high = λ e. absurd (omega (arith, rw high at e));
    } in
    near_unique n 4 q (closest (twice_root n) (2 ^ 4)) (lit< tt) near (near_closest n 4 (lit< tt))

pub overflow_mul-low : goal.overflow_mul-low
overflow_mul-low c = omega (arith, c.guessed_digits-near.ensures)

pub overflow_sub-low : goal.overflow_sub-low
overflow_sub-low c = omega arith

pub overflow_add-high : goal.overflow_add-high
overflow_add-high c = omega (arith, c.guessed_digits-near.ensures)

pub overflow_mul-low-then-near-gt0 : goal.overflow_mul-low-then-near-gt0
overflow_mul-low-then-near-gt0 c = record { fits = square_fits _ (omega (arith, c.guessed_digits-near.ensures)) }

pub overflow_mul-high : goal.overflow_mul-high
overflow_mul-high c = record { fits = square_fits _ (omega (arith, c.guessed_digits-near.ensures)) }

pub returns-then-n-high : goal.returns-then-n-high
returns-then-n-high c = between _ _ (omega arith) c.if-low-n.true c.if-n-high.true

pub rounded-requires : goal.rounded-requires
rounded-requires c = (
  omega (arith, c.twice_root.ensures, twice_lt c.args.n (2 ^ 27) c.requires),
  lit< tt,
  lit< tt,
)

pub returns : goal.returns
returns c = c.rounded.ensures ∙ ap (λ (y : ℕ). closest y (2 ^ 4)) c.twice_root.ensures
