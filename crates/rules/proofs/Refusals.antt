-- Laws of refusals: of a leaf's promise, and of a table of refusals.
--     leaves, leave_both              what a leaf leaves, in one buffer and in two
--     fitting, left                   a caller that shows that the lengths fit: the outcome, and what the lent buffer
--                                     holds
--     settled                         no second outcome meets the promise
--     clear, none_held, cleared       where no test of a table holds it gives what is right; where it gives 0, no test
--                                     holds
--     by_rows, by_each, along         what holds of a table's answer, row by row; two tables of the same rows
--     right, none_wrong, one_wrong    lengths that are what stands beside them
-- Assumes nothing.
use Rattle.std.specs.Prelude.{◌&&◌, ◌∷◌, ◌≡◌}
use Rattle.rules.proofs.Common.{ℕ, Bool, true, false, not, List, [], refl, sym, ap, ◌∙◌, eqb}
use Rattle.rules.proofs.Common.{ltb, T}
use native.Mathlib.Omega.{arith}
use lib.Dec.{ltb→lt}
use lib.Ieee.Fits.{and_l, and_r}
use borrow.Author.Tests.{eq-eqb, eqb-true, not-false}
use Rattle.rules.specs.Leaf.{Leaf, done, refused, ◌leaving◌}
use Rattle.rules.specs.Refusals.{Row, ◌when◌, refusing, wrong}
use Rattle.rules.proofs.Tests.{neither}

pub leaves : {R A : Type 0} {r : R} {x y : A} → x ≡ y → (r leaving x) ≡ (r leaving y)
leaves {A = A} {r = r} e = ap (λ (x : A). r leaving x) e

-- of two buffers
pub leave_both : {R A B : Type 0} {r : R} {x y : A} {u v : B} → x ≡ y → u ≡ v
    → (r leaving x leaving u) ≡ (r leaving y leaving v)
leave_both e d = rw (e, d)

module _ {O : Type 0} {Fits : Type 0} {new old : O} where
  -- a caller that shows that the lengths fit
  pub fitting : {got : O} → Leaf Fits got new old → Fits → got ≡ new
  fitting (done h e) f = e
  fitting (refused n e) f = absurd (n f)

  -- no second outcome meets the promise
  pub settled : {x y : O} → Leaf Fits x new old → Leaf Fits y new old → x ≡ y
  settled (done h p) (done h' q) = p ∙ sym q
  settled (done h p) (refused n q) = absurd (n h)
  settled (refused n p) (done h q) = absurd (n h)
  settled (refused n p) (refused n' q) = p ∙ sym q

-- what such a caller knows of the buffer that it lent
pub left : {R A Fits : Type 0} {r n : R} {x y : A} {old : R × A} → Leaf Fits (r leaving x) (n leaving y) old → Fits
    → x ≡ y
left {R} {A} called fits = ap (λ (p : R × A). p.1) (fitting called fits)

-- ---- a table of refusals

-- no test holds
abbrev pub Clear : List Row → Type 0
Clear [] = Unit
Clear (n when t ∷ rows) = (t ≡ false) × Clear rows

module _ {A : Type 0} (refuse : ℕ → A) (right : A) where
  pub clear : (rows : List Row) → Clear rows → refusing rows refuse right ≡ right
  clear [] h = refl
  clear (n when t ∷ rows) h = rw h.0 (clear rows h.1)

  -- what holds of each refusal, and of what is right where no test holds, holds of the answer
  pub by_rows : (P : A → Type 0) (rows : List Row) → ((n : ℕ) → P (refuse n)) → (Clear rows → P right)
      → P (refusing rows refuse right)
  by_rows P [] bad good = good tt
  by_rows P (n when true ∷ rows) bad good = bad n
  by_rows P (n when false ∷ rows) bad good = by_rows P rows bad (λ h. good (refl, h))

  -- where the answer is x, and that is no refusal, no test holds
  pub passed_clear : {x : A} (rows : List Row) → ((n : ℕ) → x ≡ refuse n → ⊥) → x ≡ refusing rows refuse right
      → Clear rows
  passed_clear {x} rows bad = by_rows (λ y. x ≡ y → Clear rows) rows (λ n e. absurd (bad n e)) (λ c e. c)

-- two tables of the same rows: what holds of both refusals of a row, and of what is right where no test holds, holds of
-- the answers
module _ {A B : Type 0} (refuse : ℕ → A) (right : A) (refuse' : ℕ → B) (right' : B) where
  pub by_both : (R : A → B → Type 0) (rows : List Row) → ((n : ℕ) → R (refuse n) (refuse' n))
      → (Clear rows → R right right')
      → R (refusing rows refuse right) (refusing rows refuse' right')
  by_both R [] bad good = good tt
  by_both R (n when true ∷ rows) bad good = bad n
  by_both R (n when false ∷ rows) bad good = by_both R rows bad (λ h. good (refl, h))

  -- where the one answers x, a refusal and not what is right, the other refuses with the same number
  pub stopped_so : {x : A} {m : ℕ} (rows : List Row) → ((n : ℕ) → x ≡ refuse n → m ≡ n) → (x ≡ right → ⊥)
      → x ≡ refusing rows refuse right
      → refusing rows refuse' right' ≡ refuse' m
  stopped_so {x} {m} rows same bad =
      by_both (λ a b. x ≡ a → b ≡ refuse' m) rows (λ n e. ap refuse' (sym (same n e))) (λ c e. absurd (bad e))

-- and what the one gives goes over into what the other gives
pub along : {A B : Type 0} (f : A → B) (refuse : ℕ → A) (right : A) (refuse' : ℕ → B) (right' : B) (rows : List Row)
    → ((n : ℕ) → f (refuse n) ≡ refuse' n)
    → (Clear rows → f right ≡ right') → f (refusing rows refuse right) ≡ refusing rows refuse' right'
along f refuse right refuse' right' = by_both refuse right refuse' right' (λ a b. f a ≡ b)

-- each row's number
abbrev pub Each : (ℕ → Type 0) → List Row → Type 0
Each P [] = Unit
Each P (n when t ∷ rows) = P n × Each P rows

-- what holds of the refusal of each row, and of what is right, holds of the answer
module _ {A : Type 0} (refuse : ℕ → A) (right : A) (P : A → Type 0) where
  pub by_each : (rows : List Row) → Each (λ n. P (refuse n)) rows → P right → P (refusing rows refuse right)
  by_each [] bad good = good
  by_each (n when true ∷ rows) bad good = bad.0
  by_each (n when false ∷ rows) bad good = by_each rows bad.1 good

-- its numbers are all above 0
abbrev pub above : List Row → Bool
above [] = true
above (n when t ∷ rows) = ltb 0 n && above rows

-- so, where the number of what it gives is 0, no test holds
module _ {A : Type 0} (number : A → ℕ) (refuse : ℕ → A) (right : A) (told : (n : ℕ) → number (refuse n) ≡ n) where
  pub none_held : (rows : List Row) → T (above rows) → number (refusing rows refuse right) ≡ 0 → Clear rows
  none_held [] a e = tt
  none_held (n when true ∷ rows) a e =
      absurd (omega (arith, sym (told n) ∙ e, ltb→lt 0 n (and_l (ltb 0 n) (above rows) a)))
  none_held (n when false ∷ rows) a e = (refl, none_held rows (and_r (ltb 0 n) (above rows) a) e)

-- asked for the number itself
pub cleared : (rows : List Row) → T (above rows) → refusing rows (λ n. n) 0 ≡ 0 → Clear rows
cleared = none_held (λ n. n) (λ n. n) 0 (λ n. refl)

-- and where it is not 0, it is that of the refusal
pub due : {A : Type 0} (refuse : ℕ → A) (right : A) (rows : List Row) {r : ℕ} → r ≡ refusing rows (λ n. n) 0
    → (r ≡ 0 → ⊥) → refusing rows refuse right ≡ refuse r
due refuse right rows e some = stopped_so (λ n. n) 0 refuse right rows (λ n same. same) some e

-- ---- where no length is wrong

abbrev pub Right : List (ℕ × ℕ) → Type 0
Right [] = Unit {0}
Right (p ∷ ps) = (p.0 ≡ p.1) × Right ps

pub right : (ps : List (ℕ × ℕ)) → wrong ps ≡ false → Right ps
right [] h = tt
right (p ∷ ps) h =
    let n = neither (not (eqb p.0 p.1)) (wrong ps) h in
    (eqb-true p.0 p.1 (not-false (eqb p.0 p.1) n.0), right ps n.1)

pub none_wrong : (ps : List (ℕ × ℕ)) → Right ps → wrong ps ≡ false
none_wrong [] h = refl
none_wrong (p ∷ ps) h = rw (eq-eqb p.0 p.1 h.0) (none_wrong ps h.1)

pub one_wrong : (ps : List (ℕ × ℕ)) → (Right ps → ⊥) → wrong ps ≡ true
one_wrong ps h = by (wrong ps) refl
  where
    by : (t : Bool) → wrong ps ≡ t → wrong ps ≡ true
    by true e = e
    by false e = absurd (h (right ps e))
