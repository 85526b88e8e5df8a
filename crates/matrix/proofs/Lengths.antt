-- A multiply-add keeps its output's length. Assumes nothing.
use Rattle.std.specs.Prelude.{◌+◌, ◌*◌, ◌≡◌}
use Rattle.rules.proofs.Common.{ℕ, List, length, length-set, Float}
use Rattle.rules.specs.F32.{at, part}
use Rattle.rules.proofs.Loops.{same_length}
use Rattle.matrix.specs.Sums.{column_step, add_column, mul_step, mul_add}

pub length_add_column : (out : List Float) (col : List ℕ) (x : Float) → length (add_column out col x) ≡ length out
length_add_column out col x = same_length (column_step col x) (λ j s. simp length-set) (length out) out

pub length_mul_add : (out : List Float) (weights : List ℕ) (stride offset : ℕ) (input : List Float)
    → length (mul_add out weights stride offset input) ≡ length out
unfolding mul_add
length_mul_add out weights stride offset input =
    same_length (mul_step weights stride offset input)
    (λ i s. length_add_column s (part (i * stride + offset) (i * stride + stride) weights) (at input i))
    (length input) out
