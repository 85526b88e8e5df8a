-- What a frame's record tells (`records_tell`), and sides by the definition, computed. Assumes nothing.
use Rattle.std.specs.Prelude.{◌+◌, ◌*◌, ◌%◌, ◌/◌, ◌<◌, ◌∷◌, ◌++◌, ◌≡◌}
use Rattle.rules.proofs.Common.{ℕ, zero, suc, Bool, true, false, cond, List, []}
use Rattle.rules.proofs.Common.{map, refl, sym, ap, subst, ◌∙◌, length, get_or}
use Rattle.rules.proofs.Common.{drop, Float, nan}
use native.Mathlib.Omega.{arith}
use lib.Ieee.{eq, of_bits}
use lib.ListN.{get_or-append}
use lib.Seq.{get_or-append-add, drop-drop, drop_at}
use Rattle.rules.specs.F32.{f32, at}
use Rattle.rules.proofs.Lists.{length_tab, get_d_tab}
use Rattle.frame.specs.Reply.{is_heard, Reply, Heard, Done, Silent, Numbered, Refused, Misread}
use Rattle.desk.specs.Gate.{side_of}
use Rattle.desk.specs.Surface.{heard_of}
use Rattle.dictation.specs.Dictation.{Told}
use Rattle.whole.specs.Whole.{answers_of}
use Rattle.whole.proofs.Dictations.{answers_length}
use Rattle.sheet.specs.Sheet.{four, kind, record_bytes, records_of}
use Rattle.sheet.proofs.Laying.{length_record, length_records}
use Rattle.sheet.proofs.Digits.{four_read}
use Rattle.feed.specs.Feed.{frame_entry, frame_entries}
use Rattle.surface.specs.Cutting.{Tells, frames_heard_in, RecordsTell}

-- three answers of a reply, the first of which is 0 unless the frame was heard
three : (r : Reply) → length (heard_of r) ≡ 3
three (Heard v e) = refl
three Done = refl
three Silent = refl
three (Numbered f h) = refl
three (Refused n) = refl
three (Misread n l) = refl

-- 2^32 unless this answer is 0
abbrev marked : Float → ℕ
marked x = cond (eq x (f32 0)) 0 4294967296

-- 2^32 if it was heard
abbrev mark : Bool → ℕ
mark b = cond b 4294967296 0

flag : (r : Reply) → marked (at (heard_of r) 0) ≡ mark (is_heard r)
unfolding eq of_bits
flag (Heard v e) = refl
flag Done = refl
flag Silent = refl
flag (Numbered f h) = refl
flag (Refused n) = refl
flag (Misread n l) = refl

flag_at : (told : List Told) (j : ℕ) → j < length told
    → marked (at (answers_of told) (3 * j)) ≡ mark (get_or (frames_heard_in told) j false)
flag_at [] j h = absurd (omega arith)
flag_at (f ∷ fs) zero h =
    ap marked (get_or-append (heard_of f.1) (answers_of fs) nan 0 (omega (arith, three f.1))) ∙ flag f.1
flag_at (f ∷ fs) (suc j) h =
    let next : 3 * suc j ≡ length (heard_of f.1) + 3 * j = omega (arith, three f.1) in
    ap marked
    (ap (at (answers_of (f ∷ fs))) next ∙ get_or-append-add (heard_of f.1) (answers_of fs) (3 * j) nan)
    ∙ flag_at fs j (omega arith)

-- entry j: the frame's number, and 2^32 more exactly if the frame's reply says that it was heard
entries_tell : (frame : ℕ) (told : List Told) (j : ℕ) → j < length told
    → get_or (frame_entries frame (answers_of told)) j 0
    ≡ (frame + j) % 4294967296 + mark (get_or (frames_heard_in told) j false)
entries_tell frame told j h =
    get_d_tab (length (answers_of told) / 3) (λ k. frame_entry frame k (at (answers_of told) (3 * k))) j 0
    (omega (arith, answers_length told))
    ∙ ap (λ (x : ℕ). (frame + j) % 4294967296 + x) (flag_at told j h)

-- what a record of this entry says, whatever follows it
record_tells : (number : ℕ) (heard : Bool) (side : ℕ) (rest : List ℕ) → number < 4294967296
    → Tells (record_bytes side (number + mark heard) ++ rest) number heard side
unfolding record_bytes four
record_tells number heard side rest small =
    record {
      numbered = four_read (number + mark heard) (kind (number + mark heard) ∷ side ∷ 0 ∷ 0 ∷ rest) ∙ low heard;
      marked = high heard;
      sided = refl;
      ended = (refl, refl);
    }
  where
    low : (t : Bool) → (number + mark t) % 4294967296 ≡ number
    low true = omega arith
    low false = omega arith

    high : (t : Bool) → (number + mark t) / 4294967296 ≡ cond t 1 0
    high true = omega arith
    high false = omega arith

-- record j stands behind 8 times j bytes
drop_records : (side : ℕ) (es : List ℕ) (j : ℕ) → j < length es
    → drop (8 * j) (records_of side es) ≡ record_bytes side (get_or es j 0) ++ records_of side (drop (suc j) es)
drop_records side [] j h = absurd (omega arith)
drop_records side (e ∷ es) zero h = refl
drop_records side (e ∷ es) (suc j) h =
    let next : 8 * suc j ≡ 8 + 8 * j = omega arith in
    ap (λ (k : ℕ). drop k (records_of side (e ∷ es))) next
    ∙ sym (drop-drop (8 * j) 8 (records_of side (e ∷ es)))
    ∙ ap (drop (8 * j)) (drop_at (record_bytes side e) (records_of side es) 8 (length_record side e))
    ∙ drop_records side es j (omega arith)

pub records_tell : RecordsTell
records_tell bench frame told =
    let es = frame_entries frame (answers_of told) in
    let side = side_of bench in
    let many : length es ≡ length told = length_tab (length (answers_of told) / 3) _
    ∙ omega (arith, answers_length told) in (
      length_records side es ∙ ap (λ (k : ℕ). 8 * k) many,
      λ j h.
          subst (λ (xs : List ℕ). Tells xs ((frame + j) % 4294967296) (get_or (frames_heard_in told) j false) side)
          (sym
          (drop_records side es j (omega (arith, many))
          ∙ ap (λ (e : ℕ). record_bytes side e ++ records_of side (drop (suc j) es)) (entries_tell frame told j h)))
          (record_tells ((frame + j) % 4294967296) (get_or (frames_heard_in told) j false) side
          (records_of side (drop (suc j) es)) (omega arith)),
    )

-- even benches are left, odd ones right
sides : map side_of (0 ∷ 1 ∷ 2 ∷ 3 ∷ 14 ∷ 15 ∷ []) ≡ 0 ∷ 1 ∷ 0 ∷ 1 ∷ 0 ∷ 1 ∷ []
sides = refl

-- and the three answers of a heard frame: 1, its voice and its energy
answers : (voice energy : Float) → heard_of (Heard voice energy) ≡ f32 0x3F80_0000 ∷ voice ∷ energy ∷ []
answers voice energy = refl
