-- A multiply-add sum by sum: what its columns leave at a place, and what each of sixteen sums is. Assumes nothing.
use Rattle.std.specs.Prelude.{◌+◌, ◌-◌, ◌*◌, ◌/◌, ◌%◌, ◌≤◌, ◌<◌, ◌∷◌, ◌++◌, ◌≡◌}
use Rattle.rules.proofs.Common.{ℕ, zero, suc, List, [], refl, sym}
use Rattle.rules.proofs.Common.{ap, ◌∙◌, length, get_or, take}
use Rattle.rules.proofs.Common.{drop, length-drop, Float, nan}
use mathlib.Core.List.{append-nil, append_assoc}
use native.Mathlib.Nat.{add-zero, add-suc}
use native.Mathlib.Omega.{arith}
use lib.ListN.{drop_of_length-le}
use lib.Seq.{get_or-take, get_or-drop, ext_get_or, length-take-le, take_all, take_at, drop_at}
use Rattle.rules.specs.F32.{at, part, ◌⊕◌, ◌⊗◌}
use Rattle.rules.specs.Loop.{loop}
use Rattle.rules.specs.Tab.{tab}
use Rattle.rules.proofs.Loops.{more, same_length}
use Rattle.rules.proofs.Lists.{behind, length_tab, get_d_tab, tab_same, tab_four_more}
use Rattle.matrix.specs.Sums.{of_byte, add_column, mul_step, mul_add, MulAddFits}
use Rattle.matrix.specs.Private.{added_at, plus_four, plus_sixteen, sixteen_sums, four_at, sixteen_at, neuron, spot}
use Rattle.matrix.specs.Private.{store_four}
use Rattle.matrix.specs.declared.lanes.Sixteen.{Sixteen}
use Rattle.matrix.proofs.Columns.{byte_of_lem}
use Rattle.matrix.proofs.Lengths.{length_add_column, length_mul_add}

-- ---- the columns, at one place
at_add_column : (out : List Float) (col : List ℕ) (x : Float) (j : ℕ) → j < length out
    → at (add_column out col x) j ≡ at out j ⊕ of_byte (get_or col j 0) ⊗ x
at_add_column out col x j h = behind nan (λ k a. a ⊕ of_byte (get_or col k 0) ⊗ x) (length out) j out h (omega arith)

module _ (weights : List ℕ) (stride offset : ℕ) (input out : List Float) where
  columns_long : (n : ℕ) → length (loop n (mul_step weights stride offset input) out) ≡ length out
  columns_long n =
      same_length (mul_step weights stride offset input)
      (λ i s. length_add_column s (part (i * stride + offset) (i * stride + stride) weights) (at input i)) n out

  at_columns : (j n : ℕ) → j < length out → MulAddFits (length out) (length weights) stride offset (length input)
      → n ≤ length input
      → at (loop n (mul_step weights stride offset input) out) j
      ≡ loop n (λ i. added_at weights (i * stride + offset + j) (at input i)) (at out j)
  unfolding loop
  at_columns j zero h fits r = refl
  at_columns j (suc n) h fits r =
      let l = loop n (mul_step weights stride offset input) out in
      let rows = fits.rows in
      at_add_column l (part (n * stride + offset) (n * stride + stride) weights) (at input n) j (rw (columns_long n) h)
      ∙ rw (
        byte_of_lem weights (n * stride + offset) (n * stride + stride) j (omega arith),
        at_columns j n h fits (omega arith),
      )

  at_mul_add : (j : ℕ) → j < length out → MulAddFits (length out) (length weights) stride offset (length input)
      → at (mul_add out weights stride offset input) j ≡ neuron out weights stride offset input j
  unfolding mul_add neuron
  at_mul_add j h fits = at_columns j (length input) h fits (omega arith)

  pub mul_add_tab : MulAddFits (length out) (length weights) stride offset (length input)
      → mul_add out weights stride offset input ≡ tab (length out) (neuron out weights stride offset input)
  mul_add_tab fits =
      let long = length_mul_add out weights stride offset input in
      ext_get_or nan (mul_add out weights stride offset input)
      (tab (length out) (neuron out weights stride offset input))
      (long ∙ sym (length_tab (length out) _))
      (λ i h.
      let b : i < length out = rw long at h in
      at_mul_add i b fits ∙ sym (get_d_tab (length out) (neuron out weights stride offset input) i nan b))

-- ---- a part of what a loop carries
seen : {S T : Type 0} (π : S → T) (f : ℕ → S → S) (g : ℕ → T → T) → ((i : ℕ) (s : S) → π (f i s) ≡ g i (π s))
    → (n : ℕ) (s : S) → π (loop n f s) ≡ loop n g (π s)
unfolding loop
seen π f g h zero s = refl
seen π f g h (suc n) s = h n (loop n f s) ∙ ap (g n) (seen π f g h n s)

-- ---- sixteen sums, input by input
module _ (weights : List ℕ) (stride place : ℕ) (input : List Float) (s : Sixteen) where
  pub sums_none : s ≡ sixteen_sums weights stride place input 0 s
  unfolding sixteen_sums loop
  sums_none = refl

  pub sums_more : (i : ℕ) {now next : Sixteen} → now ≡ sixteen_sums weights stride place input i s
      → next ≡ plus_sixteen weights (i * stride + place) (at input i) now
      → next ≡ sixteen_sums weights stride place input (i + 1) s
  unfolding sixteen_sums
  sums_more i e turn = more (λ k. plus_sixteen weights (k * stride + place) (at input k)) s i e turn

  pub sums_ended : (i n : ℕ) {now : Sixteen} → i ≤ n → n ≤ i → now ≡ sixteen_sums weights stride place input i s
      → now ≡ sixteen_sums weights stride place input n s
  sums_ended i n below above e = let same : i ≡ n = omega arith in rw same at e

module _ (weights : List ℕ) (stride offset : ℕ) (input out : List Float) (a : ℕ) where
  abbrev pub block : Sixteen
  block = sixteen_sums weights stride (offset + a) input (length input) (sixteen_at out a)

  -- sum d of sixteen, at e R of the weights from R on
  pub lane : (π : Sixteen → Float) (e : ℕ → ℕ) (d i : ℕ) → ((r : ℕ) → e r ≡ r + d)
      → ((r : ℕ) (x : Float) (s : Sixteen) → π (plus_sixteen weights r x s) ≡ added_at weights (e r) x (π s))
      → π (sixteen_at out a) ≡ at out (e a) → spot i ≡ a + d
      → π block ≡ neuron out weights stride offset input (spot i)
  unfolding sixteen_sums neuron
  lane π e d i moved turn start here =
      let place : e a ≡ spot i = moved a ∙ sym here in
      seen π (λ k. plus_sixteen weights (k * stride + (offset + a)) (at input k))
      (λ k. added_at weights (k * stride + offset + spot i) (at input k))
      (λ k s.
      let same : e (k * stride + (offset + a)) ≡ k * stride + offset + spot i =
      moved (k * stride + (offset + a)) ∙ omega arith in
      turn (k * stride + (offset + a)) (at input k) s ∙ ap (λ (p : ℕ). added_at weights p (at input k) (π s)) same)
      (length input) (sixteen_at out a)
      ∙ ap (loop (length input) (λ k. added_at weights (k * stride + offset + spot i) (at input k)))
      (start ∙ ap (at out) place)

-- ---- lists that four stores lengthen, and lists of the same values
pub four_stored : (f : ℕ → Float) (d m : List Float) (i : ℕ) {v w x y : Float} {next : List Float}
    → m ≡ tab i f ++ drop i d → i + 4 ≤ length d
    → next ≡ store_four m i v w x y → v ≡ f i → w ≡ f (i + 1) → x ≡ f (i + 2) → y ≡ f (i + 3)
    → next ≡ tab (i + 4) f ++ drop (i + 4) d
unfolding store_four
four_stored f d m i now room e p q r s = e ∙ tab_four_more f d m i now p q r s room

-- sixteen in order again
pub block_ordered : (kept out now : List Float) (a : ℕ) {m₁ m₂ m₃ m₄ : List Float} → a % 16 ≡ 0 → a + 16 ≤ length out
    → now ≡ tab a (λ j. at kept (spot j)) ++ drop a out
    → m₁ ≡ store_four now a (at kept a) (at kept (a + 4)) (at kept (a + 8)) (at kept (a + 12))
    → m₂ ≡ store_four m₁ (a + 4) (at kept (a + 1)) (at kept (a + 1 + 4)) (at kept (a + 1 + 8)) (at kept (a + 1 + 12))
    → m₃ ≡ store_four m₂ (a + 4 + 4) (at kept (a + 2)) (at kept (a + 2 + 4)) (at kept (a + 2 + 8))
    (at kept (a + 2 + 12))
    → m₄ ≡ store_four m₃ (a + 4 + 4 + 4) (at kept (a + 3)) (at kept (a + 3 + 4)) (at kept (a + 3 + 8))
    (at kept (a + 3 + 12))
    → m₄ ≡ tab (a + 4 + 4 + 4 + 4) (λ j. at kept (spot j)) ++ drop (a + 4 + 4 + 4 + 4) out
block_ordered kept out now a even room e s₁ s₂ s₃ s₄ =
    let f : ℕ → Float = λ j. at kept (spot j) in
    let from : (k d : ℕ) → d ≡ spot k → at kept d ≡ f k = λ k d q. ap (at kept) q in
    let e₁ = four_stored f out now a e (omega arith) s₁ (from a a (omega arith)) (from (a + 1) (a + 4) (omega arith))
    (from (a + 2) (a + 8) (omega arith)) (from (a + 3) (a + 12) (omega arith)) in
    let e₂ = four_stored f out _ (a + 4) e₁ (omega arith) s₂ (from (a + 4) (a + 1) (omega arith))
    (from (a + 4 + 1) (a + 1 + 4) (omega arith)) (from (a + 4 + 2) (a + 1 + 8) (omega arith))
    (from (a + 4 + 3) (a + 1 + 12) (omega arith)) in
    let e₃ = four_stored f out _ (a + 4 + 4) e₂ (omega arith) s₃ (from (a + 4 + 4) (a + 2) (omega arith))
    (from (a + 4 + 4 + 1) (a + 2 + 4) (omega arith)) (from (a + 4 + 4 + 2) (a + 2 + 8) (omega arith))
    (from (a + 4 + 4 + 3) (a + 2 + 12) (omega arith)) in
    four_stored f out _ (a + 4 + 4 + 4) e₃ (omega arith) s₄ (from (a + 4 + 4 + 4) (a + 3) (omega arith))
    (from (a + 4 + 4 + 4 + 1) (a + 3 + 4) (omega arith)) (from (a + 4 + 4 + 4 + 2) (a + 3 + 8) (omega arith))
    (from (a + 4 + 4 + 4 + 3) (a + 3 + 12) (omega arith))

-- the same, with the places as the loop counts them
pub more_ordered : (kept out now : List Float) (a : ℕ) {m₁ m₂ m₃ m₄ : List Float} → a % 16 ≡ 0 → a + 16 ≤ length out
    → now ≡ tab a (λ j. at kept (spot j)) ++ drop a out
    → m₁ ≡ store_four now a (at kept a) (at kept (a + 4)) (at kept (a + 8)) (at kept (a + 12))
    → m₂ ≡ store_four m₁ (a + 4) (at kept (a + 1)) (at kept (a + 1 + 4)) (at kept (a + 1 + 8)) (at kept (a + 1 + 12))
    → m₃ ≡ store_four m₂ (a + 8) (at kept (a + 2)) (at kept (a + 2 + 4)) (at kept (a + 2 + 8)) (at kept (a + 2 + 12))
    → m₄ ≡ store_four m₃ (a + 12) (at kept (a + 3)) (at kept (a + 3 + 4)) (at kept (a + 3 + 8)) (at kept (a + 3 + 12))
    → m₄ ≡ tab (a + 16) (λ j. at kept (spot j)) ++ drop (a + 16) out
more_ordered kept out now a {m₁} {m₂} {m₃} {m₄} even room e s₁ s₂ s₃ s₄ =
    let third : a + 8 ≡ a + 4 + 4 = omega arith in
    let fourth : a + 12 ≡ a + 4 + 4 + 4 = omega arith in
    let next : a + 4 + 4 + 4 + 4 ≡ a + 16 = omega arith in
    block_ordered kept out now a even room e s₁ s₂
    (s₃ ∙ ap (λ (k : ℕ). store_four m₂ k (at kept (a + 2)) (at kept (a + 2 + 4)) (at kept (a + 2 + 8))
    (at kept (a + 2 + 12))) third)
    (s₄ ∙ ap (λ (k : ℕ). store_four m₃ k (at kept (a + 3)) (at kept (a + 3 + 4)) (at kept (a + 3 + 8))
    (at kept (a + 3 + 12))) fourth)
    ∙ ap (λ (k : ℕ). tab k (λ j. at kept (spot j)) ++ drop k out) next

-- and sixteen kept as they were computed
module _ (weights : List ℕ) (stride offset : ℕ) (input out : List Float) (a : ℕ) (even : a % 16 ≡ 0) where
  abbrev spotted : ℕ → Float
  spotted i = neuron out weights stride offset input (spot i)

  abbrev b : Sixteen
  b = block weights stride offset input out a

  pub block_kept : (kept now : List Float) {s : Sixteen} {m₁ m₂ m₃ m₄ : List Float} → a + 16 ≤ length kept
      → now ≡ tab a spotted ++ drop a kept
      → s ≡ b
      → m₁ ≡ store_four now a s.p.a s.q.a s.r.a s.s.a
      → m₂ ≡ store_four m₁ (a + 4) s.p.b s.q.b s.r.b s.s.b
      → m₃ ≡ store_four m₂ (a + 4 + 4) s.p.c s.q.c s.r.c s.s.c
      → m₄ ≡ store_four m₃ (a + 4 + 4 + 4) s.p.d s.q.d s.r.d s.s.d
      → m₄ ≡ tab (a + 4 + 4 + 4 + 4) spotted ++ drop (a + 4 + 4 + 4 + 4) kept
  unfolding plus_sixteen plus_four sixteen_at four_at
  block_kept kept now {s} room e same s₁ s₂ s₃ s₄ =
      let e₁ = four_stored spotted kept now (a) e (omega arith) s₁
      (ap (λ (t : Sixteen). t.p.a) same
      ∙ lane weights stride offset input out a (λ t. t.p.a) (λ r. r) 0 (a) (λ r. omega arith) (λ r x t. refl) refl
      (omega arith))
      (ap (λ (t : Sixteen). t.q.a) same
      ∙ lane weights stride offset input out a (λ t. t.q.a) (λ r. r + 4) 4 (a + 1) (λ r. omega arith)
      (λ r x t. refl) refl (omega arith))
      (ap (λ (t : Sixteen). t.r.a) same
      ∙ lane weights stride offset input out a (λ t. t.r.a) (λ r. r + 8) 8 (a + 2) (λ r. omega arith)
      (λ r x t. refl) refl (omega arith))
      (ap (λ (t : Sixteen). t.s.a) same
      ∙ lane weights stride offset input out a (λ t. t.s.a) (λ r. r + 12) 12 (a + 3) (λ r. omega arith)
      (λ r x t. refl) refl (omega arith)) in
      let e₂ = four_stored spotted kept _ (a + 4) e₁ (omega arith) s₂
      (ap (λ (t : Sixteen). t.p.b) same
      ∙ lane weights stride offset input out a (λ t. t.p.b) (λ r. r + 1) 1 (a + 4) (λ r. omega arith)
      (λ r x t. refl) refl (omega arith))
      (ap (λ (t : Sixteen). t.q.b) same
      ∙ lane weights stride offset input out a (λ t. t.q.b) (λ r. r + 4 + 1) 5 (a + 4 + 1) (λ r. omega arith)
      (λ r x t. refl) refl (omega arith))
      (ap (λ (t : Sixteen). t.r.b) same
      ∙ lane weights stride offset input out a (λ t. t.r.b) (λ r. r + 8 + 1) 9 (a + 4 + 2) (λ r. omega arith)
      (λ r x t. refl) refl (omega arith))
      (ap (λ (t : Sixteen). t.s.b) same
      ∙ lane weights stride offset input out a (λ t. t.s.b) (λ r. r + 12 + 1) 13 (a + 4 + 3) (λ r. omega arith)
      (λ r x t. refl) refl (omega arith)) in
      let e₃ = four_stored spotted kept _ (a + 4 + 4) e₂ (omega arith) s₃
      (ap (λ (t : Sixteen). t.p.c) same
      ∙ lane weights stride offset input out a (λ t. t.p.c) (λ r. r + 2) 2 (a + 4 + 4) (λ r. omega arith)
      (λ r x t. refl) refl (omega arith))
      (ap (λ (t : Sixteen). t.q.c) same
      ∙ lane weights stride offset input out a (λ t. t.q.c) (λ r. r + 4 + 2) 6 (a + 4 + 4 + 1) (λ r. omega arith)
      (λ r x t. refl) refl (omega arith))
      (ap (λ (t : Sixteen). t.r.c) same
      ∙ lane weights stride offset input out a (λ t. t.r.c) (λ r. r + 8 + 2) 10 (a + 4 + 4 + 2) (λ r. omega arith)
      (λ r x t. refl) refl (omega arith))
      (ap (λ (t : Sixteen). t.s.c) same
      ∙ lane weights stride offset input out a (λ t. t.s.c) (λ r. r + 12 + 2) 14 (a + 4 + 4 + 3) (λ r. omega arith)
      (λ r x t. refl) refl (omega arith)) in
      four_stored spotted kept _ (a + 4 + 4 + 4) e₃ (omega arith) s₄
      (ap (λ (t : Sixteen). t.p.d) same
      ∙ lane weights stride offset input out a (λ t. t.p.d) (λ r. r + 3) 3 (a + 4 + 4 + 4) (λ r. omega arith)
      (λ r x t. refl) refl (omega arith))
      (ap (λ (t : Sixteen). t.q.d) same
      ∙ lane weights stride offset input out a (λ t. t.q.d) (λ r. r + 4 + 3) 7 (a + 4 + 4 + 4 + 1) (λ r. omega arith)
      (λ r x t. refl) refl (omega arith))
      (ap (λ (t : Sixteen). t.r.d) same
      ∙ lane weights stride offset input out a (λ t. t.r.d) (λ r. r + 8 + 3) 11 (a + 4 + 4 + 4 + 2) (λ r. omega arith)
      (λ r x t. refl) refl (omega arith))
      (ap (λ (t : Sixteen). t.s.d) same
      ∙ lane weights stride offset input out a (λ t. t.s.d) (λ r. r + 12 + 3) 15 (a + 4 + 4 + 4 + 3)
      (λ r. omega arith) (λ r x t. refl) refl (omega arith))

  -- the same, with the places as the loop counts them
  pub block_more : (kept now : List Float) {s : Sixteen} {m₁ m₂ m₃ m₄ : List Float} → a + 16 ≤ length kept
      → now ≡ tab a spotted ++ drop a kept
      → s ≡ b
      → m₁ ≡ store_four now a s.p.a s.q.a s.r.a s.s.a
      → m₂ ≡ store_four m₁ (a + 4) s.p.b s.q.b s.r.b s.s.b
      → m₃ ≡ store_four m₂ (a + 8) s.p.c s.q.c s.r.c s.s.c
      → m₄ ≡ store_four m₃ (a + 12) s.p.d s.q.d s.r.d s.s.d
      → m₄ ≡ tab (a + 16) spotted ++ drop (a + 16) kept
  block_more kept now {s} {m₁} {m₂} {m₃} {m₄} room e same s₁ s₂ s₃ s₄ =
      let third : a + 8 ≡ a + 4 + 4 = omega arith in
      let fourth : a + 12 ≡ a + 4 + 4 + 4 = omega arith in
      let next : a + 4 + 4 + 4 + 4 ≡ a + 16 = omega arith in
      block_kept kept now room e same s₁ s₂
      (s₃ ∙ ap (λ (k : ℕ). store_four m₂ k s.p.c s.q.c s.r.c s.s.c) third)
      (s₄ ∙ ap (λ (k : ℕ). store_four m₃ k s.p.d s.q.d s.r.d s.s.d) fourth)
      ∙ ap (λ (k : ℕ). tab k spotted ++ drop k kept) next

-- a spot's spot is the place itself
spot_below : (i n : ℕ) → n % 16 ≡ 0 → i < n → spot i < n
spot_below i n whole h = omega arith

spot_spot : (i : ℕ) → spot (spot i) ≡ i
spot_spot i =
    let a : spot i / 16 ≡ i / 16 = omega arith in
    let b : spot i % 4 ≡ i % 16 / 4 = omega arith in
    let c : spot i % 16 / 4 ≡ i % 4 = omega arith in
    rw (a, b, c) (omega arith)

pub both_orders : (f : ℕ → Float) (kept : List Float) (n : ℕ) {left : List Float} → n % 16 ≡ 0
    → kept ≡ tab n (λ i. f (spot i)) → left ≡ tab n (λ j. at kept (spot j)) → left ≡ tab n f
both_orders f kept n whole k e =
    e
    ∙ tab_same n (λ j. at kept (spot j)) f
    (λ j h. ap (λ (l : List Float). at l (spot j)) k
    ∙ get_d_tab n (λ i. f (spot i)) (spot j) nan (spot_below j n whole h) ∙ ap f (spot_spot j))

-- sums from m on are those of the rest, at an offset that is m more
pub from_there : (weights : List ℕ) (stride offset m : ℕ) (input out : List Float) (j : ℕ)
    → neuron (drop m out) weights stride (offset + m) input j ≡ neuron out weights stride offset input (m + j)
unfolding neuron
from_there weights stride offset m input out j =
    seen (λ (a : Float). a) (λ i. added_at weights (i * stride + (offset + m) + j) (at input i))
    (λ i. added_at weights (i * stride + offset + (m + j)) (at input i))
    (λ i a.
    let same : i * stride + (offset + m) + j ≡ i * stride + offset + (m + j) = omega arith in
    ap (λ (p : ℕ). added_at weights p (at input i) a) same)
    (length input) (at (drop m out) j)
    ∙ ap (loop (length input) (λ i. added_at weights (i * stride + offset + (m + j)) (at input i)))
    (get_or-drop m out j nan)

-- the first m sums are those of the front
pub at_front_lem : (weights : List ℕ) (stride offset m : ℕ) (input out : List Float) (j : ℕ) → j < m
    → neuron (take m out) weights stride offset input j ≡ neuron out weights stride offset input j
unfolding neuron
at_front_lem weights stride offset m input out j h =
    ap (loop (length input) (λ i. added_at weights (i * stride + offset + j) (at input i))) (get_or-take m out j nan h)

pub tab_append : (m k : ℕ) (f : ℕ → Float) → tab m f ++ tab k (λ j. f (m + j)) ≡ tab (m + k) f
unfolding tab
tab_append m zero f = rw add-zero (append-nil (tab m f))
tab_append m (suc k) f =
    rw (add-suc, ← tab_append m k f) (sym (append_assoc (tab m f) (tab k (λ j. f (m + j))) (f (m + k) ∷ [])))

-- ---- the front by sixteens, and the rest column by column
module _ (weights : List ℕ) (stride offset : ℕ) (input out : List Float) (m k : ℕ) (same : k ≡ m)
    (inside : m ≤ length out) (front : List Float)
    (wide : front ≡ tab (length (take k out)) (neuron (take k out) weights stride offset input)) where
  abbrev sum : ℕ → Float
  sum = neuron out weights stride offset input

  abbrev later : List Float
  later = take (length out - m) (drop m (front ++ drop k out))

  front_is : front ≡ tab m sum
  front_is =
      let long : length (take k out) ≡ m = rw same (length-take-le m out inside) in
      wide ∙ rw (
        long,
        same,
      ) (tab_same m (neuron (take m out) weights stride offset input) sum
      (λ j h. at_front_lem weights stride offset m input out j h))

  front_long : length front ≡ m
  front_long = ap length front_is ∙ length_tab m sum

  rest_is : later ≡ drop m out
  rest_is =
      rw (drop_at front (drop k out) m front_long, same)
      (take_all (length out - m) (drop m out) (simp length-drop (omega arith)))

  pub rest_fits : {w n : ℕ} → MulAddFits (length out) w stride offset n
      → MulAddFits (length later) w stride (offset + m) n
  rest_fits fits =
      let rows = fits.rows in
      let long : length later ≡ length out - m = ap length rest_is ∙ length-drop m out in
      record { rows = rw long (omega arith); columns = fits.columns }

  rest_sums : {left : List Float} → MulAddFits (length out) (length weights) stride offset (length input)
      → left ≡ mul_add later weights stride (offset + m) input
      → left ≡ tab (length out - m) (λ j. sum (m + j))
  rest_sums fits e =
      let long : length (drop m out) ≡ length out - m = length-drop m out in
      let fit : MulAddFits (length (drop m out)) (length weights) stride (offset + m) (length input) =
      rw rest_is at (rest_fits fits) in
      e
      ∙ ap (λ (l : List Float). mul_add l weights stride (offset + m) input) rest_is
      ∙ mul_add_tab weights stride (offset + m) input (drop m out) fit
      ∙ rw long (tab_same (length out - m) (neuron (drop m out) weights stride (offset + m) input) (λ j. sum (m + j))
      (λ j h. from_there weights stride offset m input out j))

  pub both_parts : {left : List Float} → MulAddFits (length out) (length weights) stride offset (length input)
      → left ≡ mul_add later weights stride (offset + m) input
      → take m (front ++ drop k out) ++ (left ++ drop (length out - m) (drop m (front ++ drop k out)))
      ≡ mul_add out weights stride offset input
  both_parts {left} fits e =
      let whole : m + (length out - m) ≡ length out = omega arith in
      let none : drop (length out - m) (drop m out) ≡ [] =
      drop_of_length-le (drop m out) {i = length out - m} (simp length-drop (omega arith)) in
      rw (
        take_at front (drop k out) m front_long,
        drop_at front (drop k out) m front_long,
        same,
        none,
        append-nil left,
        front_is,
        rest_sums fits e,
        tab_append m (length out - m) sum,
        whole,
      )
      (sym (mul_add_tab weights stride offset input out fits))

  pub front_alone : MulAddFits (length out) (length weights) stride offset (length input) → length out ≤ m
      → front ++ drop k out ≡ mul_add out weights stride offset input
  front_alone fits all =
      let whole : m ≡ length out = omega arith in
      rw (drop_of_length-le out {i = k} (omega arith), append-nil front, front_is, whole)
      (sym (mul_add_tab weights stride offset input out fits))
