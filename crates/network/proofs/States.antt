-- The three states, side by side in one slice.
--     fit_on, whole_of     the lengths fit exactly where the slice has 384 numbers
--     side_by_side         the slice is its three states
--     joined_in, parted    three slices that are joined in one, and taken out of it again
--     six_joined           what the layers leave, one after the other, is what the definition says
-- Assumes nothing.
use Rattle.std.specs.Prelude.{◌+◌, ◌≤◌, ◌++◌, ◌≡◌}
use Rattle.rules.proofs.Common.{ℕ, List, refl, sym, ap, ◌∙◌, length, take, drop, length-take}
use Rattle.rules.proofs.Common.{length-drop, length-append, Float}
use mathlib.Core.List.{append_assoc}
use mathlib.Core.Logic.{inl, inr}
use native.Mathlib.Omega.{arith}
use lib.ListN.{take-append-drop}
use lib.Seq.{take_all, take-take, take_at, drop_at, take-append-le, drop-append-le, drop-drop}
use Rattle.rules.specs.F32.{part}
use Rattle.rules.specs.Place.{Place, get, put}
use Rattle.rules.proofs.Places.{Apart, length_get, length_put, get_put, get_put_apart, put_in}
use Rattle.model.specs.declared.Model.{Model}
use Rattle.network.specs.Computed.{Computed}
use Rattle.network.specs.Laws.{SideBySide}
use Rattle.network.specs.Compute.{dense_at, gru_at, six_layers, layers_in_place, vad_in, noise_in, denoise_in}
use Rattle.network.specs.Compute.{layered_on}
use Rattle.network.specs.Compute.{Outcome, outcome_of, outcome_on}
use Rattle.network.specs.Private.{state_at, Lengths}
use Rattle.network.proofs.Lengths.{length_gru_at}

-- ---- the three in one

module _ (s : List Float) where
  pub fit_on : {gains voice features : ℕ} → gains ≡ 22 → voice ≡ 1 → length s ≡ 384 → features ≡ 42
      → Lengths gains voice (length (vad_in s)) (length (noise_in s)) (length (denoise_in s)) features
  unfolding vad_in noise_in denoise_in
  fit_on g v whole f =
      record {
        gained = g;
        voiced = v;
        first = simp length-take (omega arith);
        second = simp (length-take, length-drop) (omega arith);
        third = simp length-drop (omega arith);
        featured = f;
      }

  pub whole_of : {gains voice features : ℕ}
      → Lengths gains voice (length (vad_in s)) (length (noise_in s)) (length (denoise_in s)) features → length s ≡ 384
  unfolding denoise_in
  whole_of fit = let third = sym (length-drop 256 s) ∙ fit.third in omega arith

pub side_by_side : SideBySide
unfolding vad_in noise_in denoise_in
side_by_side s =
    append_assoc (take 128 s) (take 128 (drop 128 s)) (drop 256 s)
    ∙ ap (λ (t : List Float). take 128 s ++ (take 128 (drop 128 s) ++ t)) (sym (drop-drop 128 128 s))
    ∙ ap (λ (t : List Float). take 128 s ++ t) (take-append-drop 128 (drop 128 s))
    ∙ take-append-drop 128 s

pub joined_in : (vad noise denoise s : List Float) → length vad ≡ 128 → length noise ≡ 128 → length denoise ≡ 128
    → length s ≡ 384
    → take (length vad + length noise + length denoise) s ≡ vad ++ noise ++ denoise
    → (vad_in s ≡ vad) × (noise_in s ≡ noise) × (denoise_in s ≡ denoise)
unfolding vad_in noise_in denoise_in
joined_in vad noise denoise s lv ln ld whole e =
    let two : length (vad ++ noise) ≡ 256 = simp length-append (omega arith) in
    let all : s ≡ vad ++ noise ++ denoise = sym (take_all (length vad + length noise + length denoise) s (omega arith))
    ∙ e in (
      ap (take 128) all ∙ take-append-le 128 (vad ++ noise) denoise (omega arith) ∙ take_at vad noise 128 lv,
      ap (λ (t : List Float). take 128 (drop 128 t)) all
          ∙ ap (take 128) (drop-append-le 128 (vad ++ noise) denoise (omega arith)
          ∙ ap (λ (t : List Float). t ++ denoise) (drop_at vad noise 128 lv))
          ∙ take_at noise denoise 128 ln,
      ap (drop 256) all ∙ drop_at (vad ++ noise) denoise 256 two,
    )

pub parted : (s : List Float) {answer : Computed} {gains voice vad noise denoise : List Float} {o : Outcome}
    → length s ≡ 384
    → vad ≡ part 0 128 s → noise ≡ part 128 256 s → denoise ≡ part 256 384 s → outcome_on answer gains voice s ≡ o
    → outcome_of answer gains voice vad noise denoise ≡ o
unfolding vad_in noise_in denoise_in
parted s whole ev en ed e = rw (ev, en, ed, take_all 128 (drop 256 s) (simp length-drop (omega arith))) e

-- ---- a layer's state stands in the front of 128 places

-- a place whose front was written
get_put_front : (p : Place) (n : ℕ) (xs ys : List Float) → p.at + p.size ≤ length xs → n ≤ p.size → length ys ≡ n
    → get p (put (record { at = p.at; size = n }) xs ys) ≡ ys ++ drop n (get p xs)
unfolding put
get_put_front p n xs ys w few l =
    let held = length_get p xs w in
    ap (get p) (sym (put_in p n xs ys w few))
    ∙ get_put p xs (ys ++ drop n (get p xs)) w (simp (length-append, length-drop) (omega arith))

abbrev pub vad_place : Place
vad_place = record { at = 0; size = 128 }

abbrev pub noise_place : Place
noise_place = record { at = 128; size = 128 }

abbrev pub denoise_place : Place
denoise_place = record { at = 256; size = 128 }

pub vad_in_lem : (s : List Float) → vad_in s ≡ get vad_place s
unfolding vad_in get
vad_in_lem s = refl

pub noise_in_lem : (s : List Float) → noise_in s ≡ get noise_place s
unfolding noise_in get
noise_in_lem s = refl

pub denoise_in_lem : (s : List Float) → length s ≡ 384 → denoise_in s ≡ get denoise_place s
unfolding denoise_in get
denoise_in_lem s whole = sym (take_all 128 (drop 256 s) (simp length-drop (omega arith)))

-- three fronts written one after the other, of a, b and c numbers: what each layer then reads, and what is left
module _ (s v n d : List Float) {a b c : ℕ} (fa : a ≤ 127) (fb : b ≤ 127) (fc : c ≤ 127) (whole : length s ≡ 384)
    (lv : length v ≡ a) (ln : length n ≡ b) (ld : length d ≡ c) where
  abbrev A : Place
  A = record { at = 0; size = a }

  abbrev B : Place
  B = record { at = 128; size = b }

  abbrev C : Place
  C = record { at = 256; size = c }

  abbrev one : List Float
  one = put A s v

  abbrev two : List Float
  two = put B one n

  abbrev three : List Float
  three = put C two d

  pub record Fronts : Type 0 where
    pub vad₁ : get A one ≡ v
    pub noise₁ : get B one ≡ get B s
    pub vad₂ : get A two ≡ v
    pub noise₂ : get B two ≡ n
    pub denoise₂ : get C two ≡ get C s
    pub denoise₃ : get C three ≡ d
    pub vad_left : vad_in three ≡ v ++ drop a (vad_in s)
    pub noise_left : noise_in three ≡ n ++ drop b (noise_in s)
    pub denoise_left : denoise_in three ≡ d ++ drop c (denoise_in s)

  fronts : Fronts
  fronts =
      let w₁ = length_put A s v (omega arith) lv ∙ whole in
      let w₂ = length_put B one n (omega (arith, w₁)) ln ∙ w₁ in
      let w₃ = length_put C two d (omega (arith, w₂)) ld ∙ w₂ in
      let past_a : (q : Place) → 128 ≤ q.at → get q one ≡ get q s =
      λ q h. get_put_apart A q s v (omega arith) lv (inl (omega arith)) in
      let past_b : (q : Place) → Apart B q → get q two ≡ get q one =
      λ q h. get_put_apart B q one n (omega (arith, w₁)) ln h in
      let past_c : (q : Place) → q.at + q.size ≤ 256 → get q three ≡ get q two =
      λ q h. get_put_apart C q two d (omega (arith, w₂)) ld (inr h) in
      let here-a = get_put A s v (omega arith) lv in
      record {
        vad₁ = here-a;
        noise₁ = past_a B (omega arith);
        vad₂ = past_b A (inr (omega arith)) ∙ here-a;
        noise₂ = get_put B one n (omega (arith, w₁)) ln;
        denoise₂ = past_b C (inl (omega arith)) ∙ past_a C (omega arith);
        denoise₃ = get_put C two d (omega (arith, w₂)) ld;
        vad_left = vad_in_lem three
            ∙ past_c vad_place (omega arith)
            ∙ past_b vad_place (inr (omega arith))
            ∙ get_put_front vad_place a s v (omega arith) (omega arith) lv
            ∙ ap (λ (t : List Float). v ++ drop a t) (sym (vad_in_lem s));
        noise_left = noise_in_lem three
            ∙ past_c noise_place (omega arith)
            ∙ get_put_front noise_place b one n (omega (arith, w₁)) (omega arith) ln
            ∙ ap (λ (t : List Float). n ++ drop b t) (past_a noise_place (omega arith) ∙ sym (noise_in_lem s));
        denoise_left = denoise_in_lem three w₃
            ∙ get_put_front denoise_place c two d (omega (arith, w₂)) (omega arith) ld
            ∙ ap (λ (t : List Float). d ++ drop c t)
            (past_b denoise_place (inl (omega arith)) ∙ past_a denoise_place (omega arith)
            ∙ sym (denoise_in_lem s whole));
      }

module _ (bytes : List ℕ) (m : Model) (s features : List Float) (whole : length s ≡ 384)
    (few : (m.vad_gru.neurons ≤ 127) × (m.noise_gru.neurons ≤ 127) × (m.denoise_gru.neurons ≤ 127)) where
  abbrev vad : Place
  vad = state_at 0 m.vad_gru

  abbrev noise : Place
  noise = state_at 128 m.noise_gru

  abbrev denoise : Place
  denoise = state_at 256 m.denoise_gru

  vad_front : get vad s ≡ take m.vad_gru.neurons (vad_in s)
  unfolding get vad_in
  vad_front = sym (take-take m.vad_gru.neurons 128 s (omega arith))

  noise_front : get noise s ≡ take m.noise_gru.neurons (noise_in s)
  unfolding get noise_in
  noise_front = sym (take-take m.noise_gru.neurons 128 (drop 128 s) (omega arith))

  denoise_front : get denoise s ≡ take m.denoise_gru.neurons (denoise_in s)
  unfolding get denoise_in
  denoise_front = refl

  pub six_joined : {hidden voice gains s₁ s₂ s₃ : List Float}
      → hidden ≡ dense_at bytes m.input_dense features
      → s₁ ≡ put vad s (gru_at bytes m.vad_gru hidden (get vad s))
      → voice ≡ dense_at bytes m.vad_output (get vad s₁)
      → s₂ ≡ put noise s₁ (gru_at bytes m.noise_gru (hidden ++ get vad s₁ ++ features) (get noise s₁))
      → s₃ ≡ put denoise s₂ (gru_at bytes m.denoise_gru (get vad s₂ ++ get noise s₂ ++ features) (get denoise s₂))
      → gains ≡ dense_at bytes m.denoise_output (get denoise s₃)
      → layered_on gains voice s₃ ≡ layers_in_place bytes m (vad_in s) (noise_in s) (denoise_in s) features
  unfolding layers_in_place six_layers
  six_joined {hidden} {voice} {gains} {s₁} {s₂} {s₃} eh e1 ev e2 e3 eg =
      let v = gru_at bytes m.vad_gru hidden (get vad s) in
      let n = gru_at bytes m.noise_gru (hidden ++ v ++ features) (get noise s) in
      let d = gru_at bytes m.denoise_gru (v ++ n ++ features) (get denoise s) in
      let f =
      fronts s v n d few.0 few.1 few.2 whole
      (length_gru_at bytes m.vad_gru hidden (get vad s) ∙ length_get vad s (omega arith))
      (length_gru_at bytes m.noise_gru (hidden ++ v ++ features) (get noise s) ∙ length_get noise s (omega arith))
      (length_gru_at bytes m.denoise_gru (v ++ n ++ features) (get denoise s)
      ∙ length_get denoise s (omega arith)) in
      let e2' : s₂ ≡ put noise (put vad s v) n = e2 ∙ rw (e1, f.vad₁, f.noise₁) in
      let e3' : s₃ ≡ put denoise (put noise (put vad s v) n) d = e3 ∙ rw (e2', f.vad₂, f.noise₂, f.denoise₂) in
      rw (
        eg,
        ev,
        e1,
        e3',
        f.vad₁,
        f.denoise₃,
        f.vad_left,
        f.noise_left,
        f.denoise_left,
        eh,
        vad_front,
        noise_front,
        denoise_front,
      )
