-- A recording that is cut at a frame is two. Assumes nothing.
use Rattle.std.specs.Prelude.{◌+◌, ◌-◌, ◌*◌, ◌/◌, ◌%◌, ◌^◌, ◌≤◌, ◌<◌, ◌∷◌, ◌++◌, ◌≡◌}
use Rattle.rules.proofs.Common.{ℕ, suc, Bool, cond, List, []}
use Rattle.rules.proofs.Common.{refl, sym, ap, ◌∙◌, eqb, length}
use Rattle.rules.proofs.Common.{take, drop, length-take, length-drop}
use native.Mathlib.Nat.{add-zero}
use native.Mathlib.Omega.{arith}
use borrow.Author.Tests.{ne_eqb}
use lib.ListN.{take-append-drop}
use Rattle.sides.specs.Sides.{number_of}
use Rattle.sheet.specs.Sheet.{records_of}
use Rattle.sheet.proofs.Laying.{records_append}
use Rattle.sheet.proofs.Back.{drop_bytes}
use Rattle.recording.specs.Recording.{Recording, frames_of, entry, entries_from, Good}
use Rattle.recording.specs.Laws.{frames_before, cut_before, cut_after, InTwo, Cuts}
use Rattle.recording.proofs.Told.{take_bytes, told_all}

-- ---- numbers go on

entries_alike : (i j : ℕ) (hs : List Bool) → i % 4294967296 ≡ j % 4294967296 → entries_from i hs ≡ entries_from j hs
entries_alike i j [] e = refl
entries_alike i j (h ∷ hs) e =
    let first : entry i h ≡ entry j h = ap (λ (n : ℕ). n + 4294967296 * cond h 1 0) e in
    let rest = entries_alike (i + 1) (j + 1) hs (omega arith) in
    ap (λ (x : ℕ). x ∷ entries_from (i + 1) hs) first ∙ ap (λ (l : List ℕ). entry j h ∷ l) rest

pub entries_append : (i : ℕ) (xs ys : List Bool)
    → entries_from i (xs ++ ys) ≡ entries_from i xs ++ entries_from (i + length xs) ys
entries_append i [] ys = ap (λ (n : ℕ). entries_from n ys) (sym (add-zero i))
entries_append i (x ∷ xs) ys =
    let place : i + 1 + length xs ≡ i + suc (length xs) = omega arith in
    ap (λ (l : List ℕ). entry i x ∷ l)
    (entries_append (i + 1) xs ys ∙ ap (λ (n : ℕ). entries_from (i + 1) xs ++ entries_from n ys) place)

records_cut : (side i n : ℕ) (hs : List Bool) → n ≤ length hs
    → records_of side (entries_from i (take n hs)) ++ records_of side (entries_from ((i + n) % 4294967296) (drop n hs))
    ≡ records_of side (entries_from i hs)
records_cut side i n hs h =
    let long : length (take n hs) ≡ n = simp length-take (omega arith) in
    let same : entries_from ((i + n) % 4294967296) (drop n hs) ≡ entries_from (i + length (take n hs)) (drop n hs) =
    entries_alike ((i + n) % 4294967296) (i + length (take n hs)) (drop n hs) (rw long (omega arith)) in
    ap (λ (l : List ℕ). records_of side (entries_from i (take n hs)) ++ records_of side l) same
    ∙ sym (records_append side (entries_from i (take n hs)) (entries_from (i + length (take n hs)) (drop n hs)))
    ∙ ap (records_of side) (sym (entries_append i (take n hs) (drop n hs))
    ∙ ap (entries_from i) (take-append-drop n hs))

-- ---- both parts

-- k frames of audio take k frames, and one more after an opening
filled : (k c : ℕ) → (960 * k + 959) / 960 + c ≡ k + c
filled k c = omega arith

module _ (r : Recording) (k began : ℕ) (good : Good r) (time : began < 2 ^ 64) (some : 0 < k)
    (left : 960 * k < length r.audio) (other : (cut_after r k began).front.first ≡ 0 → ⊥) where
  abbrev size : ℕ
  size = length r.audio

  abbrev c : ℕ
  c = cond (eqb r.front.first 0) 1 0

  abbrev n : ℕ
  n = frames_before r k

  many : n ≡ k + c
  many = filled k c

  all : length r.heard ≡ (size + 959) / 960 + c
  all = good.frames

  enough : n ≤ length r.heard
  enough = omega (arith, many, all)

  audio_before : length (take (960 * k) r.audio) ≡ 960 * k
  audio_before = simp length-take (omega arith)

  audio_after : length (drop (960 * k) r.audio) ≡ size - 960 * k
  audio_after = simp length-drop

  heard_before : length (take n r.heard) ≡ n
  heard_before = simp length-take (omega (arith, enough))

  heard_after : length (drop n r.heard) ≡ length r.heard - n
  heard_after = simp length-drop

  good_before : Good (cut_before r k)
  good_before = record {
    began = good.began;
    first = good.first;
    bytes = take_bytes (960 * k) r.audio good.bytes;
    some = rw audio_before (omega arith);
    even = rw audio_before (omega arith);
    most = rw audio_before (omega (arith, good.most));
    frames = heard_before ∙ ap (frames_of r.front.first) (sym audio_before);
  }

  frames_after : length r.heard - n ≡ (size - 960 * k + 959) / 960 + 0
  frames_after = omega (arith, many, all)

  good_after : Good (cut_after r k began)
  good_after = record {
    began = time;
    first = omega arith;
    bytes = drop_bytes (960 * k) r.audio good.bytes;
    some = rw audio_after (omega arith);
    even = rw audio_after (omega (arith, good.even));
    most = rw audio_after (omega (arith, good.most));
    frames = heard_after ∙ frames_after ∙ rw (audio_after, ne_eqb (cut_after r k began).front.first 0 other);
  }

  in_two : InTwo r (cut_before r k) (cut_after r k began)
  in_two = record {
    good = (good_before, good_after);
    sides = (refl, refl);
    audio = take-append-drop (960 * k) r.audio;
    records = records_cut (number_of r.front.side) r.front.first n r.heard enough;
    earlier = told_all (cut_before r k) good_before;
    later = told_all (cut_after r k began) good_after;
  }

pub cuts : Cuts
cuts r k began good time some left other = in_two r k began good time some left other
