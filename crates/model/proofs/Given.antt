-- The refusals of layers as they are given. Assumes nothing.
--     stopped, on                     those of layers in a row, by the writer's loop
use Rattle.std.specs.Prelude.{◌+◌, ◌*◌, ◌≤◌, ◌<◌, ◌∷◌, ◌++◌, ◌≡◌}
use Rattle.rules.proofs.Common.{ℕ, zero, suc, Bool, true, false, List, []}
use Rattle.rules.proofs.Common.{refl, sym, ◌∙◌, ltb, length, get_or}
use Rattle.rules.proofs.Common.{take, drop}
use native.Mathlib.Numerals.{add-one}
use native.Mathlib.Omega.{arith}
use borrow.Author.Tests.{lt-ltb, le-ltb, ltb-true, ltb-false}
use lib.Seq.{drop-cons, take_all, get_or-drop}
use Rattle.rules.specs.Lists.{sum}
use Rattle.rules.specs.Refusals.{Row}
use Rattle.rules.proofs.Refusals.{clear, cleared, due}
use Rattle.model.specs.declared.Kind.TheVariants.{Dense}
use Rattle.model.specs.Model.{kinds}
use Rattle.model.specs.Writer.{layer_faults, in_layer, row_faults, counts_given}
use Rattle.model.specs.Private.{fault_in, counts_there}
use Rattle.model.proofs.Rows.{Some, shifted, clear_shifted}
use Rattle.model.proofs.Layer.{three}

-- ---- the loop

-- the refusals from layer j on
abbrev pub rows_from : List ℕ → List ℕ → ℕ → List Row
rows_from shapes given j = row_faults j (drop j kinds) (drop (3 * j) shapes) (drop (3 * j) given)

abbrev pub rows_at : List ℕ → List ℕ → ℕ → List Row
rows_at shapes given j =
    let at = 3 * j in
    layer_faults (get_or kinds j Dense) (get_or shapes at 0) (get_or shapes (at + 1) 0) (get_or shapes (at + 2) 0)
    (get_or given at 0 ∷ get_or given (at + 1) 0 ∷ get_or given (at + 2) 0 ∷ [])

module _ (shapes given : List ℕ) (eighteen : length shapes ≡ 18) (eighteen' : length given ≡ 18) (j : ℕ)
    (below : j < 6) where
  next : rows_from shapes given j ≡ in_layer j (rows_at shapes given j) ++ rows_from shapes given (j + 1)
  unfolding row_faults
  next =
      let on : 3 * (j + 1) ≡ 3 * j + 3 = omega arith in
      rw (
        on,
        add-one j,
        drop-cons kinds j Dense below,
        three shapes (3 * j) (omega arith),
        three given (3 * j) (omega arith),
      )

  pub stopped : {r : ℕ} → r ≡ fault_in (rows_at shapes given j) → Some r
      → r + 65536 * j ≡ fault_in (rows_from shapes given j)
  stopped {r} e some =
      rw next
      (sym (due (λ r. r) _ (in_layer j (rows_at shapes given j)) (shifted j (rows_at shapes given j) e some)
      (λ z. some (omega arith))))

  pub on : {r : ℕ} → r ≡ fault_in (rows_at shapes given j) → r ≡ 0
      → fault_in (rows_from shapes given j) ≡ fault_in (rows_from shapes given (j + 1))
  on e none =
      rw next
      (clear (λ r. r) _ (in_layer j (rows_at shapes given j))
      (clear_shifted j (rows_at shapes given j) (cleared (rows_at shapes given j) tt (sym e ∙ none))))

pub none_behind : (shapes given : List ℕ) → fault_in (rows_from shapes given 6) ≡ 0
unfolding row_faults
none_behind shapes given = refl

-- ---- the layers together

pub six_counts : (s : List ℕ)
    → counts_there s 0 ∷ counts_there s 3 ∷ counts_there s 6 ∷ counts_there s 9 ∷ counts_there s 12 ∷ counts_there s 15
    ∷ []
    ≡ counts_given kinds s
unfolding counts_given
six_counts s = simp get_or-drop

-- ---- the buffer

pub sum_take : (ns : List ℕ) (i : ℕ) → sum (take (i + 1) ns) ≡ sum (take i ns) + get_or ns i 0
sum_take ns i = rw (add-one i) (of ns i)
  where
    of : (ns : List ℕ) (i : ℕ) → sum (take (suc i) ns) ≡ sum (take i ns) + get_or ns i 0
    of [] zero = refl
    of [] (suc i) = refl
    of (n ∷ ns) zero = omega arith
    of (n ∷ ns) (suc i) = omega (arith, of ns i)

pub all_passed : (ns : List ℕ) (i : ℕ) → 18 ≤ i → length ns ≡ 18 → sum (take i ns) ≡ sum ns
all_passed ns i h e = rw (take_all i ns (omega arith))

-- what is left is too short exactly if the whole is
pub same_short : (left buffer all : ℕ) → left + all ≡ buffer → ltb left 18 ≡ ltb buffer (18 + all)
same_short left buffer all e = by (ltb left 18) refl
  where
    by : (t : Bool) → ltb left 18 ≡ t → ltb left 18 ≡ ltb buffer (18 + all)
    by true d = d ∙ sym (lt-ltb buffer (18 + all) (omega (arith, ltb-true left 18 d)))
    by false d = d ∙ sym (le-ltb buffer (18 + all) (omega (arith, ltb-false left 18 d)))
