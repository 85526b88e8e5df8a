-- The filter's loop, and its promise as its callers read it. Assumes nothing.
use Rattle.std.specs.Prelude.{◌+◌, ◌≤◌, ◌<◌, ◌∷◌, ◌++◌, ◌≡◌, Result, Ok, Err}
use Rattle.rules.proofs.Common.{ℕ, zero, suc, List, [], refl, ap, ◌∙◌, T, length, drop}
use Rattle.rules.proofs.Common.{set, length-append, Float}
use Rattle.rules.proofs.Common.{binary32, binary64}
use Rattle.std.proofs.Common.{append-nil, add-one, arith, drop_of_length-le}
use lib.Ieee.{fits, add, sub, mul}
use Rattle.rules.specs.F32.{at}
use Rattle.rules.specs.Leaf.{Leaf, ◌leaving◌}
use Rattle.rules.specs.Loop.{loop}
use Rattle.rules.specs.declared.refusal.Refusal.{Refusal}
use Rattle.rules.specs.declared.refusal.Refusal.TheVariants.{WrongLength}
use Rattle.rules.proofs.Refusals.{fitting}
use Rattle.rules.proofs.Lists.{front_more}
use Rattle.numbers.specs.declared.filter.Biquad.{Biquad}
use Rattle.numbers.specs.declared.filter.Memory.{Memory}
use Rattle.numbers.specs.Narrowed.{narrowed}
use Rattle.numbers.specs.Filter.{filter_step, filtered, memory_after, outputs}
use Rattle.numbers.proofs.Widened.{narrowed_fits, narrowed_held}

-- each number of a memory is an `f32`, at all times
pub record Held (mem : Memory) : Type 0 where
  pub first : T (fits binary32 mem.m0)
  pub second : T (fits binary32 mem.m1)

module _ (k : Biquad) (mem : Memory) (input : List Float) where
  -- the memories and the outputs of i samples
  abbrev after : ℕ → Memory × List Float
  after i = loop i (filter_step k input) (mem, [])

  as_many : (n : ℕ) → length (after n).1 ≡ n
  unfolding loop filter_step
  as_many zero = refl
  as_many (suc n) = simp (length-append, as_many n) (omega arith)

  -- the loop's invariant: the memory is that after i samples, and the first i places of what `d` was have their outputs
  pub record Filtering (d : List Float) (i : ℕ) (kept : Memory) (now : List Float) : Type 0 where
    pub memory : kept ≡ (after i).0
    pub front : now ≡ (after i).1 ++ drop i d

  pub filter_begin : (d : List Float) → Filtering d 0 mem d
  unfolding loop
  filter_begin d = record { memory = refl; front = refl }

  -- a turn is the filter over one sample
  pub filter_more : (d : List Float) (i : ℕ) {kept next : Memory} {now : List Float} {y : Float}
      → Filtering d i kept now → i < length d
      → next ≡ memory_after k kept (at input i ∷ []) → y ∷ [] ≡ outputs k kept (at input i ∷ [])
      → Filtering d (i + 1) next (set now i y)
  unfolding loop filter_step filtered
  filter_more d i {now = now} {y = y} h room m o =
      let stored = front_more (after i).1 d now i y (as_many i) h.front room in
      let new = o ∙ ap (λ (n : Memory). outputs k n (at input i ∷ [])) h.memory in
      record {
        memory = rw (add-one i) (m ∙ ap (λ (n : Memory). memory_after k n (at input i ∷ [])) h.memory);
        front =
            rw (add-one i) (rw (add-one i) at
            (stored ∙ ap (λ (t : List Float). ((after i).1 ++ t) ++ drop (i + 1) d) new));
      }

  filter_held : Held mem → (n : ℕ) → Held (after n).0
  unfolding loop filter_step
  filter_held h zero = h
  filter_held h (suc n) =
      let x = at input n in
      let y = add binary64 x (after n).0.m0 in
      record {
        first =
            narrowed_fits (add binary64 (after n).0.m1
            (sub binary64 (mul binary64 k.b0 x) (mul binary64 k.a0 y)));
        second = narrowed_fits (sub binary64 (mul binary64 k.b1 x) (mul binary64 k.a1 y));
      }

  -- so what is kept of it as an `f64` is narrowed to itself
  pub filter_ended : (d : List Float) (i : ℕ) {kept left : Memory} {now : List Float} → Filtering d i kept now
      → i ≡ length input → length d ≤ i
      → Held mem → left.m0 ≡ narrowed kept.m0 → left.m1 ≡ narrowed kept.m1
      → (left ≡ memory_after k mem input) × (now ≡ outputs k mem input)
  unfolding filtered
  filter_ended d i {left = left} h e all start l₀ l₁ =
      let last = (after (length input)).0 in
      let same = h.memory ∙ ap (λ (n : ℕ). (after n).0) e in
      let held = filter_held start (length input) in
      let a : left.m0 ≡ last.m0 =
      l₀ ∙ ap (λ (m : Memory). narrowed m.m0) same ∙ narrowed_held last.m0 held.first in
      let b : left.m1 ≡ last.m1 =
      l₁ ∙ ap (λ (m : Memory). narrowed m.m1) same ∙ narrowed_held last.m1 held.second in
      ((λ i. record { m0 = a i; m1 = b i }), h.front ∙ rw (drop_of_length-le d all, append-nil (after i).1, e))

  pub length_outputs : length (outputs k mem input) ≡ length input
  unfolding filtered
  length_outputs = as_many (length input)

  -- equal lengths: the memory to go on with, and the outputs
  pub filters : {output got : List Float} {r : Result Memory Refusal}
      → Leaf (length output ≡ length input) (r leaving got)
      (Ok (memory_after k mem input) leaving outputs k mem input) (Err WrongLength leaving output)
      → length output ≡ length input → (r ≡ Ok (memory_after k mem input)) × (got ≡ outputs k mem input)
  filters served same = let e = fitting served same in
      (ap (λ (p : Result Memory Refusal × List Float). p.0) e, ap (λ (p : Result Memory Refusal × List Float). p.1) e)
