-- A column, and two columns in one pass, which are the one and then the other. Assumes nothing.
use Rattle.std.specs.Prelude.{◌+◌, ◌-◌, ◌*◌, ◌≤◌, ◌<◌, ◌≡◌}
use Rattle.rules.proofs.Common.{ℕ, List, refl, sym, ap, ◌∙◌, length, get_or, drop, set}
use Rattle.rules.proofs.Common.{Float, nan}
use native.Mathlib.Nat.{le_refl, suc-mul}
use native.Mathlib.Numerals.{add-one}
use native.Mathlib.Omega.{arith}
use lib.Seq.{get_or-take, get_or-drop}
use Rattle.rules.specs.F32.{at, part, ◌⊕◌, ◌⊗◌}
use Rattle.rules.specs.Loop.{loop}
use Rattle.rules.proofs.Lists.{fused}
use Rattle.rules.proofs.Loops.{more, loop_same}
use Rattle.rules.proofs.Numbers.{row_fits}
use Rattle.matrix.specs.Sums.{of_byte, column_step, add_column, mul_step, MulAddFits}
use Rattle.matrix.proofs.Lengths.{length_add_column}

abbrev added : List ℕ → Float → ℕ → Float → Float
added col x j a = a ⊕ of_byte (get_or col j 0) ⊗ x

abbrev pub two_step : List ℕ → Float → List ℕ → Float → ℕ → List Float → List Float
two_step first x second y j out =
    set out j (at out j ⊕ of_byte (get_or first j 0) ⊗ x ⊕ of_byte (get_or second j 0) ⊗ y)

pub two_columns : (out : List Float) (first : List ℕ) (x : Float) (second : List ℕ) (y : Float) {r : List Float}
    → r ≡ loop (length out) (two_step first x second y) out → r ≡ add_column (add_column out first x) second y
two_columns out first x second y e =
    e
    ∙ fused nan (added first x) (added second y) (length out) out (le_refl (length out))
    ∙ ap (λ (n : ℕ). loop n (column_step second y) (add_column out first x)) (sym (length_add_column out first x))

-- byte j of a part
pub byte_of_lem : (weights : List ℕ) (a e j : ℕ) → a + j < e → get_or (part a e weights) j 0 ≡ get_or weights (a + j) 0
byte_of_lem weights a e j h = get_or-take (e - a) (drop a weights) j 0 (omega arith) ∙ get_or-drop a weights j 0

-- a column is added as the front of all that is left of the weights
pub column_alone : (weights : List ℕ) (stride offset : ℕ) (input now : List Float) (i : ℕ) → i < length input
    → MulAddFits (length now) (length weights) stride offset (length input)
    → add_column now (part (i * stride + offset) (length weights) weights) (at input i)
    ≡ mul_step weights stride offset input i now
column_alone weights stride offset input now i h fits =
    let row = row_fits h stride in
    let a = i * stride + offset in
    loop_same (length now) (column_step (part a (length weights) weights) (at input i))
    (column_step (part a (i * stride + stride) weights) (at input i)) now
    (λ j s b.
    let rows = fits.rows in
    let all = fits.columns in
    rw (
      byte_of_lem weights a (length weights) j (omega arith),
      byte_of_lem weights a (i * stride + stride) j (omega arith),
    ))

-- and two turns of `mul_add`
pub two_turns : (weights : List ℕ) (stride offset : ℕ) (input out : List Float) (i : ℕ) {now next : List Float}
    → i + 1 < length input
    → MulAddFits (length now) (length weights) stride offset (length input)
    → now ≡ loop i (mul_step weights stride offset input) out
    → next
    ≡ add_column (add_column now (part (i * stride + offset) (length weights) weights) (at input i))
    (part (i * stride + offset + stride) (length weights) weights) (at input (i + 1))
    → next ≡ loop (i + 2) (mul_step weights stride offset input) out
two_turns weights stride offset input out i {now} {next} h fits e two =
    let step = mul_step weights stride offset input in
    let start : i * stride + offset + stride ≡ (i + 1) * stride + offset =
    rw (add-one i, suc-mul i stride) (omega arith) in
    let count : i + 2 ≡ i + 1 + 1 = omega arith in
    let long : length (step i now) ≡ length now =
    length_add_column now (part (i * stride + offset) (i * stride + stride) weights) (at input i) in
    let one = column_alone weights stride offset input now i (omega arith) fits in
    let last = column_alone weights stride offset input (step i now) (i + 1) h (rw long fits) in
    rw count (more step out (i + 1) (more step out i e refl) ((rw (start, one) at two) ∙ last))

-- both columns end within the weights
pub two_fit : (i : ℕ) {n : ℕ} → i + 1 < n → (s : ℕ) → i * s + s + s ≤ s * n
two_fit i h s = rw (add-one i, suc-mul i s) at (row_fits h s)
