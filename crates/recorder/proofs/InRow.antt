-- Records in a row, as a loop goes through them. Assumes nothing.
use Rattle.std.specs.Prelude.{◌+◌, ◌-◌, ◌*◌, ◌≤◌, ◌<◌, ◌≡◌}
use Rattle.rules.proofs.Common.{ℕ, suc, Bool, true, false, List, drop}
use native.Mathlib.Nat.{add-zero}
use native.Mathlib.Omega.{arith}
use lib.Seq.{drop-drop}
use Rattle.recorder.specs.Recorder.{is_record, are_records}

-- what is left after i of n records
abbrev pub on_from : ℕ → ℕ → ℕ → List ℕ → ℕ → Bool
on_from side number n s i = are_records side (number + i) (n - i) (drop (8 * i) s)

module _ (side number n : ℕ) (s : List ℕ) where
  pub records_begin : are_records side number n s ≡ on_from side number n s 0
  records_begin = let whole : n - 0 ≡ n = omega arith in rw (whole, add-zero number)

  turn : (i : ℕ) → i < n → n - i ≡ suc (n - (i + 1))
  turn i h = omega arith

  module _ (i : ℕ) (h : i < n) where
    pub records_more : is_record side (number + i) (drop (8 * i) s) ≡ true → on_from side number n s i ≡ on_from side
        number n s (i + 1)
    unfolding are_records
    records_more g =
        let next : 8 * i + 8 ≡ 8 * (i + 1) = omega arith in
        let after : number + i + 1 ≡ number + (i + 1) = omega arith in
        rw (turn i h, g, drop-drop 8 (8 * i) s, next, after)

    pub records_stop : is_record side (number + i) (drop (8 * i) s) ≡ false → on_from side number n s i ≡ false
    unfolding are_records
    records_stop g = rw (turn i h, g)

  pub records_ended : (i : ℕ) → n ≤ i → on_from side number n s i ≡ true
  unfolding are_records
  records_ended i h = let none : n - i ≡ 0 = omega arith in rw none
