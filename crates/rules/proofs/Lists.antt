-- Laws of `tab`, the list of a function's values, and of the loops that store one element a turn, from the front.
--     length_tab, get_d_tab, tab_get_d, tab_id  a tab's length and elements; a list and its parts, element by element
--     tab_same, tab_const, tab_map              tabs of the same values, of one value, and of a list's elements
--     tab_none, tab_more, tab_done              the invariant `tab i f ++ drop i d`: where the loop begins, after a
--                                               turn, at the end
--     tab_ahead, tab_still                      what the loop has not reached is as it was
--     each_place: each_tab, each_map, fused     a loop that works on each place by itself, and two of them as one
--     Filling, and `fills`                      the invariant as a record, and what a need of such a loop is searched
--                                               with
--     Mapping, and `maps`                       the same of a loop that changes each element in place
-- Assumes nothing.
use mathlib.Core.Path.{◌≡◌, refl, sym, ap, ◌∙◌}
use mathlib.Core.List.{List, [], ◌∷◌, ◌++◌, append_assoc, append-nil, map, map-append}
use mathlib.Core.Logic.{⊎_elim}
use Prim.Native.Nat.{ℕ, zero, suc, ◌+◌, ◌-◌, ◌≤◌, ◌<◌}
use native.Mathlib.Nat.{eq-or-lt_of_le, le_of_suc-le-suc, add_assoc}
use native.Mathlib.Numerals.{add-one}
use native.Mathlib.Omega.{arith}
use lib.ListN.{length, get_or, set, take, drop, replicate, length-append, length-drop, drop_of_length-le}
use lib.ListN.{take-append-drop, get_or-append, length-set}
use lib.Seq.{drop-cons, set_at, take-suc, get_or-append-add, get_or-append_seam, get_or-drop, ext_get_or, take_at}
use lib.Seq.{get_or-set_same, get_or-set_other, set-set, set_comm}
use Rattle.rules.specs.Loop.{loop}
use Rattle.rules.specs.Tab.{tab}
use Rattle.rules.proofs.Loops.{same_length, turns}

module _ {A : Type 0} where
  pub length_tab : (n : ℕ) (f : ℕ → A) → length (tab n f) ≡ n
  unfolding tab
  length_tab zero f = refl
  length_tab (suc n) f = simp (length-append, length_tab n f) (omega arith)

  pub tab_none : (f : ℕ → A) (d : List A) → d ≡ tab 0 f ++ drop 0 d
  unfolding tab
  tab_none f d = refl

  -- a store right behind a front makes it longer by one
  pub front_more : (ys d m : List A) (i : ℕ) (v : A) → length ys ≡ i → m ≡ ys ++ drop i d → i < length d
      → set m i v ≡ (ys ++ (v ∷ [])) ++ drop (i + 1) d
  front_more ys d m i v l e h =
      rw (e, add-one i, drop-cons d i v h, set_at ys (get_or d i v) (drop (suc i) d) v i l)
      (sym (append_assoc ys (v ∷ []) (drop (suc i) d)))

  pub tab_more : (f : ℕ → A) (d m : List A) (i : ℕ) (v : A) → m ≡ tab i f ++ drop i d → v ≡ f i → i < length d
      → set m i v ≡ tab (i + 1) f ++ drop (i + 1) d
  unfolding tab
  tab_more f d m i v e w h =
      rw (w, add-one i) (rw (add-one i) at (front_more (tab i f) d m i (f i) (length_tab i f) e h))

  pub tab_ahead : (f : ℕ → A) (d : List A) (i j : ℕ) (z : A) → i ≤ j → get_or (tab i f ++ drop i d) j z ≡ get_or d j z
  tab_ahead f d i j z h =
      let whole : j ≡ length (tab i f) + (j - i) = simp length_tab (omega arith) in
      let rest : i + (j - i) ≡ j = omega arith in
      ap (λ (k : ℕ). get_or (tab i f ++ drop i d) k z) whole
      ∙ get_or-append-add (tab i f) (drop i d) (j - i) z
      ∙ get_or-drop i d (j - i) z
      ∙ ap (λ (k : ℕ). get_or d k z) rest

  pub tab_still : (f : ℕ → A) (d m : List A) (i j : ℕ) (z : A) → m ≡ tab i f ++ drop i d → i ≤ j
      → get_or m j z ≡ get_or d j z
  tab_still f d m i j z e h = ap (λ (l : List A). get_or l j z) e ∙ tab_ahead f d i j z h

  pub tab_done : (f : ℕ → A) (d : List A) (i n : ℕ) → i ≡ n → length d ≤ n → tab i f ++ drop i d ≡ tab n f
  tab_done f d i n e h = rw (e, drop_of_length-le d h, append-nil (tab n f))

  pub get_d_tab : (n : ℕ) (f : ℕ → A) (i : ℕ) (z : A) → i < n → get_or (tab n f) i z ≡ f i
  unfolding tab
  get_d_tab zero f i z h = absurd (omega arith)
  get_d_tab (suc n) f i z h = ⊎_elim here (λ b. there b (get_d_tab n f i z b)) (eq-or-lt_of_le (le_of_suc-le-suc h))
    where
      here : i ≡ n → get_or (tab n f ++ (f n ∷ [])) i z ≡ f i
      here e =
          rw e (ap (λ (k : ℕ). get_or (tab n f ++ (f n ∷ [])) k z) (sym (length_tab n f))
          ∙ get_or-append_seam (tab n f) (f n) [] z)

      there : i < n → get_or (tab n f) i z ≡ f i → get_or (tab n f ++ (f n ∷ [])) i z ≡ f i
      there b e = get_or-append (tab n f) (f n ∷ []) z i (rw length_tab b) ∙ e

  -- a part of a list, element by element
  pub tab_get_d : (d : List A) (a k : ℕ) (z : A) → a + k ≤ length d
      → tab k (λ i. get_or d (a + i) z) ≡ take k (drop a d)
  unfolding tab
  tab_get_d d a zero z h = refl
  tab_get_d d a (suc k) z h =
      let room : k < length (drop a d) = simp length-drop (omega arith) in
      rw (tab_get_d d a k z (omega arith), take-suc (drop a d) k z room, get_or-drop a d k z)

  -- a whole list, element by element
  pub tab_id : (d : List A) (z : A) → tab (length d) (λ i. get_or d i z) ≡ d
  tab_id d z =
      ext_get_or z (tab (length d) (λ i. get_or d i z)) d (length_tab (length d) (λ i. get_or d i z))
      (λ i h. get_d_tab (length d) (λ k. get_or d k z) i z (rw length_tab at h))

  -- a list of one value
  pub tab_const : (n : ℕ) (v : A) → tab n (λ i. v) ≡ replicate n v
  unfolding tab
  tab_const zero v = refl
  tab_const (suc n) v = ap (λ (l : List A). l ++ (v ∷ [])) (tab_const n v) ∙ ends n
    where
      ends : (k : ℕ) → replicate k v ++ (v ∷ []) ≡ replicate (suc k) v
      ends zero = refl
      ends (suc k) = ap (λ (l : List A). v ∷ l) (ends k)

  -- lists of the same values
  pub tab_same : (n : ℕ) (f g : ℕ → A) → ((i : ℕ) → i < n → f i ≡ g i) → tab n f ≡ tab n g
  unfolding tab
  tab_same zero f g h = refl
  tab_same (suc n) f g h = rw (tab_same n f g (λ i b. h i (omega arith)), h n (omega arith))

  -- four turns at once
  pub tab_four_more : (f : ℕ → A) (d m : List A) (i : ℕ) {a b c e : A} → m ≡ tab i f ++ drop i d → a ≡ f i
      → b ≡ f (i + 1) → c ≡ f (i + 2) → e ≡ f (i + 3)
      → i + 4 ≤ length d → set (set (set (set m i a) (i + 1) b) (i + 2) c) (i + 3) e ≡ tab (i + 4) f ++ drop (i + 4) d
  tab_four_more f d m i now p q r s h =
      let one = tab_more f d m i _ now p (omega arith) in
      let two = tab_more f d _ (i + 1) _ one q (omega arith) in
      let three = tab_more f d _ (i + 2) _ (simp (add_assoc i 1 1) at two) r (omega arith) in
      simp (add_assoc i 3 1) at (tab_more f d _ (i + 3) _ (simp (add_assoc i 2 1) at three) s (omega arith))

  -- a list whose front is filled is its front and the rest
  pub tab_front : (f : ℕ → A) (d : List A) (i : ℕ) → take i d ≡ tab i f → d ≡ tab i f ++ drop i d
  tab_front f d i e = rw (← e) (sym (take-append-drop i d))

  pub front_tab : (f : ℕ → A) (d m : List A) (i : ℕ) → m ≡ tab i f ++ drop i d → take i m ≡ tab i f
  front_tab f d m i e = rw e (take_at (tab i f) (drop i d) i (length_tab i f))

-- ---- a loop that works on each place by itself

module _ {A : Type 0} (d : A) where
  abbrev pub each_place : (ℕ → A → A) → ℕ → List A → List A
  each_place f j s = set s j (f j (get_or s j d))

  as_long : (f : ℕ → A → A) (n : ℕ) (s : List A) → length (loop n (each_place f) s) ≡ length s
  as_long f n s = same_length (each_place f) (λ i t. simp length-set) n s

  -- what it has not reached is as it was
  ahead : (f : ℕ → A → A) (n k : ℕ) (s : List A) → n ≤ k → get_or (loop n (each_place f) s) k d ≡ get_or s k d
  unfolding loop
  ahead f zero k s h = refl
  ahead f (suc n) k s h =
      let l = loop n (each_place f) s in
      get_or-set_other l n k (f n (get_or l n d)) d (λ e. omega arith) ∙ ahead f n k s (omega arith)

  -- and what it has passed holds f's value
  pub behind : (f : ℕ → A → A) (n k : ℕ) (s : List A) → k < n → n ≤ length s
      → get_or (loop n (each_place f) s) k d ≡ f k (get_or s k d)
  unfolding loop
  behind f zero k s h r = absurd (omega arith)
  behind f (suc n) k s h r =
      ⊎_elim here (λ b. there b (behind f n k s b (omega arith))) (eq-or-lt_of_le (le_of_suc-le-suc h))
    where
      here : k ≡ n → get_or (loop (suc n) (each_place f) s) k d ≡ f k (get_or s k d)
      here e =
          let l = loop n (each_place f) s in
          rw e (get_or-set_same l n (f n (get_or l n d)) d (rw (as_long f n s) (omega arith))
          ∙ ap (f n) (ahead f n n s (omega arith)))

      there : k < n → get_or (loop n (each_place f) s) k d ≡ f k (get_or s k d)
          → get_or (loop (suc n) (each_place f) s) k d ≡ f k (get_or s k d)
      there b e =
          let l = loop n (each_place f) s in
          get_or-set_other l n k (f n (get_or l n d)) d (λ q. omega arith) ∙ e

  pub each_tab : (f : ℕ → A → A) (s : List A) → loop (length s) (each_place f) s
      ≡ tab (length s) (λ j. f j (get_or s j d))
  each_tab f s =
      let g : ℕ → A = λ j. f j (get_or s j d) in
      let long = as_long f (length s) s in
      ext_get_or d (loop (length s) (each_place f) s) (tab (length s) g) (long ∙ sym (length_tab (length s) g))
      (λ i h.
      let inside : i < length s = rw long at h in
      behind f (length s) i s inside (omega arith) ∙ sym (get_d_tab (length s) g i d inside))

  -- and may be stored before or after it
  apart : (f : ℕ → A → A) (n k : ℕ) (s : List A) (v : A) → n ≤ k
      → loop n (each_place f) (set s k v) ≡ set (loop n (each_place f) s) k v
  unfolding loop
  apart f zero k s v h = refl
  apart f (suc n) k s v h =
      let l = loop n (each_place f) s in
      rw (apart f n k s v (omega arith), get_or-set_other l k n v d (λ e. omega arith))
      (set_comm l k n v (f n (get_or l n d)) (λ e. omega arith))

  pub fused : (f g : ℕ → A → A) (n : ℕ) (s : List A) → n ≤ length s
      → loop n (each_place (λ j a. g j (f j a))) s ≡ loop n (each_place g) (loop n (each_place f) s)
  unfolding loop
  fused f g zero s h = refl
  fused f g (suc n) s h =
      let l = loop n (each_place f) s in
      let m = loop n (each_place g) l in
      let v = f n (get_or l n d) in
      let room : n < length m = rw (as_long g n l, as_long f n s) (omega arith) in
      let before : get_or m n d ≡ get_or l n d = ahead g n n l (omega arith) in
      rw (
        fused f g n s (omega arith),
        apart g n n l v (omega arith),
        get_or-set_same m n v d room,
        set-set m n v (g n v),
        before,
      )

-- ---- a loop that fills a list from the front

-- the first i places hold f's values, and the others what `d` held. `filling_begin` shows it where the loop begins,
-- `filling_more` after a turn, and `filling_ended` reads it after the last; `filling_ahead` is for a loop that works in
-- place
pub record Filling {A : Type 0} (f : ℕ → A) (d : List A) (i : ℕ) (now : List A) : Type 0 where
  pub same : length now ≡ length d
  pub front : now ≡ tab i f ++ drop i d

module _ {A : Type 0} (f : ℕ → A) (d : List A) where
  pub filling_begin : Filling f d 0 d
  filling_begin = record { same = refl; front = tab_none f d }

  pub filling_more : (i : ℕ) {now : List A} {v : A} → Filling f d i now → i < length d → v ≡ f i
      → Filling f d (i + 1) (set now i v)
  filling_more i {now} {v} h room e = record {
    same = simp length-set h.same;
    front = tab_more f d now i v h.front e room;
  }

  pub filling_ended : (i n : ℕ) {now : List A} → i ≤ n → n ≤ i → length d ≡ n → Filling f d i now → now ≡ tab n f
  filling_ended i n below above size h = h.front ∙ tab_done f d i n (omega arith) (omega arith)

  pub filling_ahead : (i j : ℕ) (z : A) {now : List A} → Filling f d i now → i ≤ j → get_or now j z ≡ get_or d j z
  filling_ahead i j z {now} h reach = tab_still f d now i j z h.front reach

pub ruleset fills = (filling_begin, filling_more, filling_ended, turns)

-- ---- a list of which each element is changed in place

module _ {A B : Type 0} (g : A → B) (z : A) where
  map_tab : (n : ℕ) (f : ℕ → A) → map g (tab n f) ≡ tab n (λ i. g (f i))
  unfolding tab
  map_tab zero f = refl
  map_tab (suc n) f = rw (map-append, map_tab n f)

  pub tab_map : (d : List A) → tab (length d) (λ i. g (get_or d i z)) ≡ map g d
  tab_map d = sym (map_tab (length d) (λ i. get_or d i z)) ∙ ap (map g) (tab_id d z)

module _ {A : Type 0} (g : A → A) (z : A) where
  pub each_map : (d : List A) → loop (length d) (each_place z (λ j a. g a)) d ≡ map g d
  each_map d = each_tab z (λ j a. g a) d ∙ tab_map g z d

  module _ (d : List A) where
    abbrev pub Mapping : ℕ → List A → Type 0
    Mapping i now = Filling (λ k. g (get_or d k z)) d i now

    pub mapping_begin : Mapping 0 d
    mapping_begin = filling_begin (λ k. g (get_or d k z)) d

    pub mapping_more : (i : ℕ) {now : List A} {v : A} → Mapping i now → i < length d → v ≡ g (get_or now i z)
        → Mapping (i + 1) (set now i v)
    mapping_more i h room e =
        filling_more (λ k. g (get_or d k z)) d i h room
        (e ∙ ap g (filling_ahead (λ k. g (get_or d k z)) d i i z h (omega arith)))

    pub mapping_ended : (i n : ℕ) {now : List A} → i ≤ n → n ≤ i → length d ≡ n → Mapping i now → now ≡ map g d
    mapping_ended i n below above size h =
        filling_ended (λ k. g (get_or d k z)) d i n below above size h ∙ rw (← size) (tab_map g z d)

pub ruleset maps = (mapping_begin, mapping_more, mapping_ended, turns)
