-- What is written by calls that are accepted is a good recording. Assumes nothing.
use Rattle.recording.specs.Verdict.{told_as}
use Rattle.std.specs.Prelude.{◌+◌, ◌*◌, ◌/◌, ◌%◌, ◌^◌, ◌≤◌, ◌<◌, ◌∷◌, ◌++◌, ◌≡◌}
use Rattle.rules.proofs.Common.{ℕ, zero, suc, Bool, true, false, cond, not}
use Rattle.rules.proofs.Common.{List, [], refl}
use Rattle.rules.proofs.Common.{sym, ap, ap₂, subst, ◌∙◌, eqb, ltb, length, get_or, take, drop, length-append}
use Rattle.rules.proofs.Common.{length-drop}
use mathlib.Core.List.{append_assoc, append-nil}
use native.Mathlib.Omega.{arith}
use borrow.Author.Tests.{eqb-true, eqb-false, ltb-false, leb-true, not-true, not-false}
use lib.ListN.{take-append-drop}
use Rattle.rules.specs.Leaf.{◌leaving◌}
use Rattle.rules.specs.Lists.{sum, Bytes}
use Rattle.rules.specs.Refusals.{Row, ◌when◌, refusing, wrong}
use Rattle.rules.proofs.Refusals.{Clear, clear, none_held, right}
use Rattle.rules.proofs.Tests.{both, neither}
use Rattle.checksum.specs.Checksum.{crc32, crc}
use Rattle.checksum.proofs.Parts.{in_parts}
use Rattle.checksum.proofs.Apart as checksum
use Rattle.sides.specs.Sides.{number_of, of_number}
use Rattle.sides.specs.declared.Side.{Side}
use Rattle.sides.specs.declared.Side.TheVariants.{Left, Right}
use Rattle.std.specs.Prelude.{Some, None}
use Rattle.sheet.specs.Sheet.{record_bytes, records_of, trailer_of}
use Rattle.sheet.specs.End.{from_four, good_record, entry_of}
use Rattle.sheet.proofs.Digits.{four_mod}
use Rattle.sheet.proofs.Runs.{sum_append}
use Rattle.sheet.proofs.Laying.{length_records, records_append}
use Rattle.sheet.proofs.Back.{drop_bytes, record_back}
use Rattle.recording.specs.Recording.{frames_of, entry, entries_from, head_for, chunk_for, recording_bytes, MOST, Good}
use Rattle.recording.specs.Verdict.{was_heard, heard_in, is_size, how_many, verdict_of}
use Rattle.recording.specs.Numbers.{side_at}
use Rattle.recording.specs.declared.Front.{Front}
use Rattle.recording.proofs.Cuts.{entries_append}
use Rattle.recording.proofs.SaidBack.{length_entries, heard_in_lem}
use Rattle.recording.proofs.Told.{take_bytes, told_all}
use Rattle.recorder.specs.Recorder.{beginning, next_frame, skip_of, room_of, belonging, start_of, is_record}
use Rattle.recorder.specs.Recorder.{are_records, with_feed, more_rows}
use Rattle.recorder.specs.Recorder.{LONGEST, FRAMES, close_rows}
use Rattle.recorder.specs.Numbers.{recorder_in, recorder_numbers, begun_on, begun_laid, more_laid, finish_laid}
use Rattle.recorder.specs.Laws.{Given, GivenBytes, Calls, none, more, IsGood, AlwaysGood, audio_of}
use Rattle.recorder.specs.Laws.{given_records, Frames, AsDefined}
use Rattle.recorder.specs.declared.Recorder.{Recorder}
use Rattle.recorder.proofs.Answers.{part_is, part_size}
use Rattle.recorder.proofs.GoesOn.{part_few}

-- ---- records that the recorder takes are those of frames in a row

kind_heard : (b : ℕ) → b ≤ 1 → b ≡ cond (eqb b 1) 1 0
kind_heard zero h = refl
kind_heard (suc zero) h = refl
kind_heard (suc (suc b)) h = absurd (omega arith)

module _ (side number : ℕ) (s : List ℕ) (h : is_record side number s ≡ true) where
  numbered : from_four s ≡ number % 4294967296
  unfolding is_record
  numbered = eqb-true _ _ (both (eqb (from_four s) (number % 4294967296)) (good_record side s) h).0

  is_good_lem : good_record side s ≡ true
  unfolding is_record
  is_good_lem = (both (eqb (from_four s) (number % 4294967296)) (good_record side s) h).1

  known : get_or s 4 0 ≤ 1
  unfolding good_record
  known = ltb-false 1 (get_or s 4 0) (not-true _ (both (not (ltb 1 (get_or s 4 0))) _ is_good_lem).0)

  entry_is : entry_of s ≡ entry number (was_heard s)
  unfolding entry_of
  entry_is = ap₂ (λ a b. a + 4294967296 * b) numbered (kind_heard (get_or s 4 0) known)

  first_is : Bytes s → 8 ≤ length s → take 8 s ≡ record_bytes side (entry number (was_heard s))
  first_is b l = sym (record_back side s is_good_lem b l) ∙ ap (record_bytes side) entry_is

pub records_are : (n side number : ℕ) (s : List ℕ) → Bytes s → length s ≡ 8 * n → are_records side number n s ≡ true
    → s ≡ records_of side (entries_from number (heard_in n s))
unfolding are_records heard_in
records_are zero side number [] b l h = refl
records_are zero side number (x ∷ s) b l h = absurd (omega arith)
records_are (suc n) side number s b l h =
    let t = both (is_record side number s) (are_records side (number + 1) n (drop 8 s)) h in
    let rest = records_are n side (number + 1) (drop 8 s) (drop_bytes 8 s b) (simp length-drop (omega arith)) t.1 in
    sym (take-append-drop 8 s) ∙ ap₂ ◌++◌ (first_is side number s t.0 b (omega arith)) rest

pub length_heard : (n : ℕ) (s : List ℕ) → length (heard_in n s) ≡ n
unfolding heard_in
length_heard zero s = refl
length_heard (suc n) s = ap suc (length_heard n (drop 8 s))

-- ---- what was recorded so far

append_bytes : (xs ys : List ℕ) → Bytes xs → Bytes ys → Bytes (xs ++ ys)
append_bytes [] ys bx by i = by i
append_bytes (x ∷ xs) ys bx by zero = bx 0
append_bytes (x ∷ xs) ys bx by (suc i) = append_bytes xs ys (λ k. bx (suc k)) by i

record So (f : Front) (r : Recorder) (audio records : List ℕ) (heard : List Bool) : Type 0 where
  front : r.front ≡ f
  size : r.size ≡ length audio
  crc : r.crc ≡ crc32 0 audio
  sum : r.sum ≡ sum records % 4294967296
  count : length heard ≡ r.count
  are : records ≡ records_of (number_of f.side) (entries_from f.first heard)
  bytes : Bytes audio
  room : r.size ≤ 2 * r.taken
  few : r.taken ≤ LONGEST
  short : r.count ≤ FRAMES

side_kept : (side : Side) → side_at (number_of side) ≡ side
side_kept Left = refl
side_kept Right = refl

none_crc : crc32 0 [] ≡ 0
unfolding crc32 crc
none_crc = refl

module _ (f : Front) (small : f.first < 2 ^ 32) where
  begun : So f (beginning f) [] [] []
  begun = record {
    front = refl;
    size = refl;
    crc = sym none_crc;
    sum = refl;
    count = refl;
    are = refl;
    bytes = λ i. omega arith;
    room = omega arith;
    few = omega arith;
    short = omega arith;
  }

  module _ (r : Recorder) (audio records : List ℕ) (heard : List Bool) (so : So f r audio records heard) where
    kept : recorder_in (recorder_numbers r) ≡ r
    unfolding recorder_in
    kept =
        let first : r.front.first % 4294967296 ≡ r.front.first = rw so.front (omega (arith, small)) in
        let taken : r.taken % 4294967296 ≡ r.taken = omega (arith, so.few) in
        let size : r.size % 4294967296 ≡ r.size = omega (arith, so.few, so.room) in
        let checked : r.crc < 4294967296 = rw so.crc (checksum.small 0 audio (omega arith)) in
        let crc : r.crc % 4294967296 ≡ r.crc = omega arith in
        let count : r.count % 4294967296 ≡ r.count = omega (arith, so.short) in
        let summed : r.sum % 4294967296 ≡ r.sum = omega (arith, so.sum) in
        rw (side_kept r.front.side, first, taken, size, crc, count, summed)

    module _ (g : Given) (clean : Bytes g.cleaned) (whole : Bytes g.records) (rows : Clear (more_rows r g.taken
        g.cleaned g.records)) where
      abbrev part : List ℕ
      part = belonging r g.taken g.cleaned

      abbrev n : ℕ
      n = length g.records / 8

      lengths : (length g.records ≡ 8 * n) × (length g.cleaned ≡ 960 * n)
      lengths = let k = right ((length g.records, 8 * n) ∷ (length g.cleaned, 960 * n) ∷ []) rows.0 in (
        k.0,
        k.1.0,
      )

      long : (r.taken + g.taken ≤ LONGEST) × (r.count + n ≤ FRAMES)
      long =
          let k = neither (ltb LONGEST (r.taken + g.taken)) (ltb FRAMES (r.count + n)) rows.1.0 in
          (ltb-false LONGEST (r.taken + g.taken) k.0, ltb-false FRAMES (r.count + n) k.1)

      theirs : g.records ≡ records_of (number_of r.front.side) (entries_from (next_frame r) (heard_in n g.records))
      theirs = records_are n (number_of r.front.side) (next_frame r) g.records whole lengths.0 (not-false _
          rows.1.1.0)

      ours : g.records ≡ records_of (number_of f.side) (entries_from (f.first + length heard) (heard_in n g.records))
      ours = rw (so.front, ← so.count) at theirs

      part_bytes : Bytes (belonging r g.taken g.cleaned)
      unfolding belonging
      part_bytes = take_bytes (room_of r g.taken) (drop (skip_of r) g.cleaned) (drop_bytes (skip_of r) g.cleaned
          clean)

      all_are : records ++ g.records ≡ records_of (number_of f.side)
          (entries_from f.first (heard ++ heard_in n g.records))
      all_are =
          let side = number_of f.side in
          ap₂ ◌++◌ so.are ours
          ∙ sym (records_append side (entries_from f.first heard)
          (entries_from (f.first + length heard) (heard_in n g.records)))
          ∙ ap (records_of side) (sym (entries_append f.first heard (heard_in n g.records)))

      next : So f (with_feed r g.taken g.cleaned g.records) (audio ++ part) (records ++ g.records) (heard ++
          heard_in n g.records)
      unfolding with_feed
      next = record {
        front = so.front;
        size = ap (λ (k : ℕ). k + length part) so.size ∙ sym (length-append audio part);
        crc = ap (λ (k : ℕ). crc32 k part) so.crc ∙ in_parts 0 audio part;
        sum = omega (arith, so.sum, sum_append records g.records);
        count = length-append heard (heard_in n g.records) ∙ ap₂ ◌+◌ so.count (length_heard n g.records);
        are = all_are;
        bytes = append_bytes audio part so.bytes part_bytes;
        room = omega (arith, so.room, part_few r g.taken g.cleaned);
        few = long.0;
        short = long.1;
      }

    -- a call that is accepted
    module _ (g : Given) (ns lent ns' place : List ℕ) (held : ns ≡ recorder_numbers r)
        (e : (0 leaving ns' leaving place) ≡ more_laid g.taken g.cleaned g.records ns lent) where
      abbrev table : List Row
      table = 5 when wrong ((length (recorder_numbers r), 8) ∷ (length lent, 2) ∷ [])
          ∷ more_rows r g.taken g.cleaned g.records

      abbrev done : ℕ × (List ℕ × List ℕ)
      done =
          0 leaving recorder_numbers (with_feed r g.taken g.cleaned g.records)
          leaving start_of r (length g.cleaned) ∷ length (belonging r g.taken g.cleaned) ∷ []

      tabled : (0 leaving ns' leaving place) ≡ refusing table (λ k. k leaving recorder_numbers r leaving lent) done
      unfolding more_laid
      tabled = rw (held, kept) at e

      rows_clear : Clear table
      rows_clear = none_held (λ (p : ℕ × (List ℕ × List ℕ)). p.0) (λ k. k leaving recorder_numbers r leaving lent) done
          (λ k. refl) table tt
          (ap (λ (p : ℕ × (List ℕ × List ℕ)). p.0) (sym tabled))

      got : (0 leaving ns' leaving place) ≡ done
      got = tabled ∙ clear (λ k. k leaving recorder_numbers r leaving lent) done table rows_clear

      numbers_are : ns' ≡ recorder_numbers (with_feed r g.taken g.cleaned g.records)
      numbers_are = ap (λ (p : ℕ × (List ℕ × List ℕ)). p.1.0) got

      written_is : take (get_or place 1 0) (drop (get_or place 0 0) g.cleaned) ≡ belonging r g.taken g.cleaned
      written_is =
          rw (ap (λ (p : ℕ × (List ℕ × List ℕ)). p.1.1) got, part_size r g.taken g.cleaned)
          (part_is r g.taken g.cleaned)

  -- ---- calls in a row

  record Comes (audio records end : List ℕ) : Type 0 where
    recorder : Recorder
    heard : List Bool
    so : So f recorder audio records heard
    numbers : end ≡ recorder_numbers recorder

  comes : {ns : List ℕ} {gs : List Given} {audio' records' end : List ℕ} → Calls ns gs audio' records' end
      → (r : Recorder) (audio records : List ℕ) (heard : List Bool) → So f r audio records heard → ns ≡ recorder_numbers
      r → GivenBytes gs
      → Comes (audio ++ audio') (records ++ records') end
  comes (none ns) r audio records heard so held b =
      rw (append-nil audio, append-nil records) (record { recorder = r; heard = heard; so = so; numbers = held })
  comes (more g ns lent ns' place {audio = audio'} {records = records'} e rest) r audio records heard so held b =
      let part = belonging r g.taken g.cleaned in
      let clear_rows = rows_clear r audio records heard so g ns lent ns' place held e in
      let on = next r audio records heard so g b.0 b.1 clear_rows.1 in
      let all = comes rest _ (audio ++ part) (records ++ g.records) _ on (numbers_are r audio records heard so g ns
      lent ns' place held e) b.2 in
      rw (
        written_is r audio records heard so g ns lent ns' place held e,
        ← append_assoc audio part audio',
        ←
            append_assoc records g.records records',
      ) all

  -- ---- the end

  module _ (q : Recorder) (audio records : List ℕ) (heard : List Bool) (so : So f q audio records heard)
      (time : f.began < 2 ^ 64)
      (head chunk trailer h c t : List ℕ) (e : (0 leaving head leaving chunk leaving trailer) ≡ finish_laid
      (recorder_numbers q) h c t) where
    abbrev end_table : List Row
    end_table = 5 when wrong ((8, 8) ∷ (length h, 76) ∷ (length c, 32) ∷ (length t, 16) ∷ []) ∷ close_rows q

    abbrev closed : ℕ × (List ℕ × (List ℕ × List ℕ))
    closed =
        0 leaving head_for q.front q.size leaving chunk_for q.front q.size q.crc leaving trailer_of q.count
        (number_of q.front.side) q.sum

    end_tabled : (0 leaving head leaving chunk leaving trailer) ≡ refusing end_table (λ k. k leaving h leaving c leaving
        t) closed
    unfolding finish_laid
    end_tabled = rw (kept q audio records heard so) at e

    end_clear : Clear end_table
    end_clear = none_held (λ (p : ℕ × (List ℕ × (List ℕ × List ℕ))). p.0) (λ k. k leaving h leaving c leaving t) closed
        (λ k. refl) end_table tt
        (ap (λ (p : ℕ × (List ℕ × (List ℕ × List ℕ))). p.0) (sym end_tabled))

    laid : (0 leaving head leaving chunk leaving trailer) ≡ closed
    laid = end_tabled ∙ clear (λ k. k leaving h leaving c leaving t) closed end_table end_clear

    sized : is_size q.size ≡ true
    sized = not-false (is_size q.size) end_clear.1.0

    counted : q.count ≡ frames_of q.front.first q.size
    counted = eqb-true _ _ (not-false _ end_clear.1.1.0)

    is_sized : (q.size ≡ 0 → ⊥) × (q.size % 2 ≡ 0) × (q.size ≤ MOST)
    is_sized =
        let u = both (not (eqb q.size 0)) _ sized in
        let v = both (eqb (q.size % 2) 0) _ u.1 in
        (eqb-false q.size 0 (not-true _ u.0), eqb-true (q.size % 2) 0 v.0, leb-true q.size MOST v.1)

    all_good : Good (record { front = f; audio = audio; heard = heard })
    all_good = record {
      began = time;
      first = small;
      bytes = so.bytes;
      some = rw (← so.size) (let z = is_sized.0 in omega arith);
      even = rw (← so.size) is_sized.1;
      most = rw (← so.size) is_sized.2;
      frames = so.count ∙ counted ∙ rw (so.front, so.size);
    }

    trailer_is : trailer ≡ trailer_of (length (entries_from f.first heard)) (number_of f.side) (sum (records_of
        (number_of f.side) (entries_from f.first heard)))
    unfolding trailer_of
    trailer_is =
        ap (λ (p : ℕ × (List ℕ × (List ℕ × List ℕ))). p.1.1.1) laid
        ∙ rw (so.front, so.sum, ← so.are, four_mod (sum records), length_entries f.first heard, so.count)

    in_a_row : head ++ (audio ++ (chunk ++ (records ++ trailer))) ≡ recording_bytes (record {
      front = f;
      audio = audio;
      heard =
          heard;
    })
    unfolding recording_bytes
    in_a_row =
        let hs : head ≡ head_for f (length audio) = ap (λ (p : ℕ × (List ℕ × (List ℕ × List ℕ))). p.1.0) laid ∙ rw (
          so.front,
          so.size,
        ) in
        let cs : chunk ≡ chunk_for f (length audio) (crc32 0 audio) = ap
        (λ (p : ℕ × (List ℕ × (List ℕ × List ℕ))). p.1.1.0) laid ∙ rw (so.front, so.size, so.crc) in
        rw (hs, cs, trailer_is, so.are)

    heard_is : heard_in (length records / 8) records ≡ heard
    heard_is =
        let side = number_of f.side in
        let many : length records / 8 ≡ length heard =
        rw (so.are, length_records side (entries_from f.first heard), length_entries f.first heard) (omega arith)
        in
        ap (λ (k : ℕ). heard_in k records) many ∙ ap (heard_in (length heard)) (so.are ∙ sym (append-nil _))
        ∙ heard_in_lem side f.first heard []

    is_good_file : IsGood f audio records (head ++ (audio ++ (chunk ++ (records ++ trailer))))
    is_good_file =
        let as-it-is = told_all (record { front = f; audio = audio; heard = heard }) all_good in
        record {
          good = subst (λ (hs : List Bool). Good (record { front = f; audio = audio; heard = hs })) (sym heard_is)
              all_good;
          bytes =
              in_a_row ∙ ap (λ (hs : List Bool). recording_bytes (record { front = f; audio = audio; heard = hs })) (sym
              heard_is);
          noted = so.are ∙ ap (λ (hs : List Bool). records_of (number_of f.side) (entries_from f.first hs)) (sym
              heard_is);
          told = ap verdict_of in_a_row ∙ as-it-is ∙ ap (λ (hs : List Bool). told_as f (length hs) (how_many hs)) (sym
              heard_is);
        }

-- ---- the beginning

module _ (began first : ℕ) (lent numbers : List ℕ) where
  begun_of : (t u : Bool) → (0 leaving numbers) ≡ begun_on (cond t (Some Left) (cond u (Some Right) None)) began
      first lent
      → numbers ≡ recorder_numbers (beginning (record { side = cond t Left Right; began = began; first = first }))
  begun_of true u e = ap (λ (p : ℕ × List ℕ). p.1) e
  begun_of false true e = ap (λ (p : ℕ × List ℕ). p.1) e
  begun_of false false e = absurd (omega (arith, ap (λ (p : ℕ × List ℕ). p.0) e))

  begun_is : (side : ℕ) → (0 leaving numbers) ≡ begun_laid side began first lent
      → numbers ≡ recorder_numbers (beginning (record { side = side_at side; began = began; first = first }))
  unfolding begun_laid
  begun_is side e =
      let table = 5 when not (eqb (length lent) 8) ∷ [] in
      let rows = none_held (λ (p : ℕ × List ℕ). p.0) (λ k. k leaving lent) (begun_on (of_number side) began first lent)
      (λ k. refl) table tt
      (ap (λ (p : ℕ × List ℕ). p.0) (sym e)) in
      begun_of (eqb side 0) (eqb side 1) (e ∙ clear (λ k. k leaving lent) (begun_on (of_number side) began first lent)
      table rows)

pub always_good : AlwaysGood
always_good side began first gs audio records head chunk trailer time small bytes w =
    let f : Front = record { side = side_at side; began = began; first = first } in
    let k = comes f small w.goes (beginning f) [] [] [] (begun f small) (begun_is began first w.lent w.numbers
    side w.begins) bytes in
    is_good_file f small k.recorder audio records k.heard k.so time head chunk trailer w.lent_head w.lent_chunk
    w.lent_trailer
    (rw k.numbers at w.ends)

-- ---- and it is what the definition says

as_given_lem : (f : Front) (small : f.first < 2 ^ 32) {ns : List ℕ} {gs : List Given} {audio' records' end : List ℕ}
    → Calls ns gs audio' records' end → (r : Recorder) (audio records : List ℕ) (heard : List Bool)
    → So f r audio records heard → ns ≡ recorder_numbers r → GivenBytes gs
    → (audio' ≡ audio_of r gs) × (records' ≡ given_records gs) × Frames gs
as_given_lem f small (none ns) r audio records heard so held b = (refl, refl, tt)
as_given_lem f small (more g ns lent ns' place e rest) r audio records heard so held b =
    let clear_rows = rows_clear f small r audio records heard so g ns lent ns' place held e in
    let on = next f small r audio records heard so g b.0 b.1 clear_rows.1 in
    let all = as_given_lem f small rest _ _ _ _ on (numbers_are f small r audio records heard so g ns lent ns' place
    held e)
    b.2 in (
      ap₂ ◌++◌ (written_is f small r audio records heard so g ns lent ns' place held e) all.0,
      ap (λ (l : List ℕ). g.records ++ l) all.1,
      ((lengths f small r audio records heard so g b.0 b.1 clear_rows.1).1, all.2),
    )

pub as_defined : AsDefined
as_defined side began first gs audio records head chunk trailer small bytes w =
    let f : Front = record { side = side_at side; began = began; first = first } in
    as_given_lem f small w.goes (beginning f) [] [] [] (begun f small) (begun_is began first w.lent w.numbers side
    w.begins) bytes
