-- Sums of neighbouring lags: `sums_begin`, `sums_more` and `sums_ended` are of the loop that makes them, and
-- `lags_stored` is of the loops that store them. Assumes nothing.
use Rattle.std.specs.Prelude.{◌+◌, ◌≤◌, ◌∷◌, ◌++◌, ◌≡◌}
use Rattle.rules.proofs.Common.{ℕ, zero, suc, List, [], sym, ap, ◌∙◌, length, take, drop, replicate, nan, Float}
use Rattle.rules.proofs.Common.{length-append, length-drop, refl}
use mathlib.Core.List.{append_assoc, append-nil}
use native.Mathlib.Nat.{add-zero, add-suc}
use Rattle.std.proofs.lemmas.Slice.{drop-append-drop}
use native.Mathlib.Omega.{arith}
use Rattle.rules.specs.F32.{◌⊕◌, ◌⊗◌, at, f32}
use Rattle.rules.specs.Loop.{loop}
use Rattle.rules.specs.Tab.{tab}
use Rattle.rules.proofs.Loops.{more}
use Rattle.rules.proofs.Lists.{Filling, length_tab, tab_const, tab_same, get_d_tab, front_tab}
use Rattle.pitch.specs.Xcorr.{term_step, corr, whole_fours, lag_of}
use Rattle.pitch.specs.Private.{with_products, lag_sums, lags_from, stored}
use Rattle.pitch.proofs.Starts.{by_fours}

module _ (xs ys : List Float) where
  pub sums_begin : (i n : ℕ) → replicate n (f32 0) ≡ lag_sums xs ys 0 i n
  unfolding lag_sums loop
  sums_begin i n = sym (tab_const n (f32 0))

  pub sums_more : (i j n : ℕ) {sums next : List Float} → sums ≡ lag_sums xs ys j i n
      → next ≡ with_products ys (at xs j) (i + j) sums → next ≡ lag_sums xs ys (j + 1) i n
  unfolding lag_sums
  sums_more i j n {sums} h turn =
      let sum : ℕ → Float = λ k. loop j (term_step xs ys (i + k)) (f32 0) in
      let long : length sums ≡ n = ap length h ∙ length_tab n sum in
      turn ∙ ap (λ (m : ℕ). tab m (λ k. at sums k ⊕ at xs j ⊗ at ys (i + j + k))) long
      ∙ tab_same n _ _ (λ k b.
      let held : at sums k ≡ sum k = ap (λ (l : List Float). at l k) h ∙ get_d_tab n sum k nan b in
      let place : i + j + k ≡ i + k + j = omega arith in
      more (term_step xs ys (i + k)) (f32 0) j held
      (ap (λ (p : ℕ). at sums k ⊕ at xs j ⊗ at ys p) place))

  pub sums_ended : (i j n : ℕ) {sums : List Float} → j ≤ length xs → length xs ≤ j → sums ≡ lag_sums xs ys j i n
      → sums ≡ lags_from xs ys i n
  unfolding lag_sums lags_from corr
  sums_ended i j n below above h = let same : j ≡ length xs = omega arith in rw same at h

-- a front and what follows it are one front
tab_joined : (f : ℕ → Float) (i m : ℕ) → tab i f ++ tab m (λ k. f (i + k)) ≡ tab (i + m) f
unfolding tab
tab_joined f i zero = rw add-zero (append-nil (tab i f))
tab_joined f i (suc m) =
    rw (add-suc i m)
    (sym (append_assoc (tab i f) (tab m (λ k. f (i + k))) (f (i + m) ∷ []))
    ∙ ap (λ (l : List Float). l ++ (f (i + m) ∷ [])) (tab_joined f i m))

-- m more of n lags in their places
pub lags_stored : (xs ys d : List Float) (n i m : ℕ) {held next v : List Float} → length d ≡ n
    → Filling (lag_of xs ys n) d i held → i + m ≤ whole_fours n → v ≡ lags_from xs ys i m → next ≡ stored held i v
    → Filling (lag_of xs ys n) d (i + m) next
unfolding lags_from
lags_stored xs ys d n i m {held} {next} {v} size h room e turn =
    let f : ℕ → Float = lag_of xs ys n in
    let long : length v ≡ m = ap length e ∙ length_tab m (λ k. corr (f32 0) xs ys (i + k)) in
    let values : v ≡ tab m (λ k. f (i + k)) =
    e ∙ tab_same m _ _ (λ k b. by_fours xs ys n (i + k) (omega arith) refl) in
    let front : take i held ≡ tab i f = front_tab f d held i h.front in
    let behind : drop (i + m) held ≡ drop (i + m) d =
    ap (drop (i + m)) h.front ∙ drop-append-drop i d (tab i f) (i + m) (omega arith) (length_tab i f) in
    let all : next ≡ tab (i + m) f ++ drop (i + m) d =
    turn ∙ rw (front, long, behind, values)
    (sym (append_assoc (tab i f) (tab m (λ k. f (i + k))) (drop (i + m) d))
    ∙ ap (λ (l : List Float). l ++ drop (i + m) d) (tab_joined f i m)) in
    record { same = ap length all ∙ simp (length-append, length_tab, length-drop) (omega arith); front = all }
