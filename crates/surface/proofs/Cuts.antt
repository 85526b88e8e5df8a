-- Blocks in a row are one dictation (`rows`, `bytes_in_a_row`), however a stream is cut into them (`however_cut`).
-- Assumes nothing.
use Rattle.std.specs.Prelude.{◌+◌, ◌/◌, ◌≤◌, ◌<◌, ◌++◌, ◌≡◌}
use Rattle.rules.proofs.Common.{ℕ, List, refl, sym, ap, ap₂, ◌∙◌, length, replicate}
use Rattle.rules.proofs.Common.{length-append, Float}
use native.Mathlib.Omega.{arith}
use mathlib.Core.List.{append_assoc, append-nil}
use lib.ListN.{length-replicate, replicate-append-replicate}
use Rattle.rules.specs.Place.{get}
use Rattle.rules.proofs.Places.{length_get}
use Rattle.frame.specs.Share.{SHARE}
use Rattle.pieces.specs.Pieces.{waiting_in, completes}
use Rattle.pieces.proofs.Shares.{waiting_length}
use Rattle.desk.specs.declared.Record.{Record}
use Rattle.desk.specs.Gate.{side_of, share_of}
use Rattle.dictation.specs.Dictation.{Lent, Dictated, dictate}
use Rattle.dictation.proofs.Joins.{share_size, then, rejoin}
use Rattle.whole.specs.Whole.{our_lent, lent_to_each, answers_of}
use Rattle.whole.proofs.Dictations.{answers_length, answers_both}
use Rattle.isolation.specs.Run.{record_at}
use Rattle.sheet.specs.Sheet.{records_of}
use Rattle.sheet.proofs.Laying.{records_append}
use Rattle.feed.specs.Feed.{block_of, samples_of, frame_entries, noted_of}
use Rattle.surface.specs.Surface.{Call}
use Rattle.surface.specs.Cutting.{Has, has_of, dictation_of, has_said, Feeds, last_block, more_blocks, BytesInARow}
use Rattle.surface.specs.Cutting.{HoweverCut}
use Rattle.surface.proofs.Bytes.{samples_alike}
use Rattle.surface.proofs.Rows.{packed_both, entries_both, size_is, samples_both, frame_after, waiting_after}
use Rattle.surface.proofs.Rows.{told_each}
use Rattle.surface.proofs.Fed.{Says, ahead, Comes, lone_run}

-- ---- samples that are said, and then others

module _ (b : Record) (xs x y : List Float) (model : List ℕ) (full : length xs ≡ SHARE) (says : Says b x) where
  abbrev first : Dictated
  first = dictation_of b xs x model

  abbrev rest : Dictated
  rest = dictation_of first.rec first.kept y model

  abbrev these : List Float
  these = waiting_in b.waiting xs ++ x

  abbrev ls : List Lent
  ls = lent_to_each b x model

  abbrev ms : List Lent
  ms = lent_to_each first.rec y model

  frames : length (lent_to_each b x model) ≡ (b.waiting + length x) / 480
  frames = length-replicate _ (our_lent model)

  size : length (waiting_in b.waiting xs ++ x) ≡ b.waiting + length x
  size =
      length-append (waiting_in b.waiting xs) x
      ∙ ap (λ (k : ℕ). k + length x) (waiting_length xs full b.waiting says.waits)

  -- what is lent to each frame
  both_lent : lent_to_each b (x ++ y) model ≡ ls ++ ms
  both_lent =
      let w = waiting_after ls b xs these (omega (arith, frames, size)) in
      let k = completes b.waiting (length x) in
      let m = completes first.rec.waiting (length y) in
      let count : completes b.waiting (length (x ++ y)) ≡ k + m =
      omega (arith, length-append x y, w, frames, size) in
      ap (λ (j : ℕ). replicate j (our_lent model)) count ∙ sym (replicate-append-replicate k m (our_lent model))

  both_are : dictation_of b xs (x ++ y) model ≡ then first rest
  both_are =
      ap₂ (dictate b xs) (sym (append_assoc (waiting_in b.waiting xs) x y)) both_lent
      ∙ rejoin b xs these y ls ms full (omega (arith, frames, size)) (omega (arith, frames, size))

  both_has : (side : ℕ) → b.frame < 4294967296
      → has_said side b xs (x ++ y) model
      ≡ ahead (has_said side b xs x model) (has_said side first.rec first.kept y model)
  both_has side h =
      let fs = first.told in
      let gs = rest.told in
      let number = frame_after ls b xs these h in
      let many = told_each ls b xs these in
      let entries : frame_entries b.frame (answers_of (fs ++ gs))
      ≡ frame_entries b.frame (answers_of fs) ++ frame_entries first.rec.frame (answers_of gs) =
      ap (frame_entries b.frame) (answers_both fs gs)
      ∙ entries_both b.frame first.rec.frame (length fs) (length gs) (answers_of fs) (answers_of gs)
      (answers_length fs) (answers_length gs)
      (λ j. omega (arith, number, many)) in
      let records : noted_of side b.frame (answers_of (fs ++ gs))
      ≡ noted_of side b.frame (answers_of fs) ++ noted_of side first.rec.frame (answers_of gs) =
      ap (records_of side) entries
      ∙ records_append side (frame_entries b.frame (answers_of fs))
      (frame_entries first.rec.frame (answers_of gs)) in
      rw (both_are, records, packed_both first.out rest.out, answers_both fs gs)

-- ---- blocks in a row

module _ (side format channels channel : ℕ) (model : List ℕ) where
  abbrev samples : List ℕ → List Float
  samples bytes = samples_of (block_of bytes format channels channel)

  rows : {calls : List Call} {bytes : List ℕ} → Feeds format channels channel model calls bytes
      → (b : Record) (xs : List Float) (h : Has) → length xs ≡ SHARE → b.frame < 4294967296 → Comes side calls b xs h
      → (1 ≤ length (samples bytes)) × (h ≡ has_said side b xs (samples bytes) model)
  unfolding Comes
  rows (last_block bytes c e a) b xs h full small k =
      let said_so = has_said side b xs (samples bytes) model in (
        k.1.some,
        k.3 ∙ ap (ahead said_so) k.2
            ∙ rw (append-nil said_so.cleaned, append-nil said_so.records, append-nil said_so.answers),
      )
  rows (more_blocks bytes c e a {calls} {rest} r) b xs h full small k =
      let says = k.1 in
      let x = samples bytes in
      let y = samples rest in
      let d = dictation_of b xs x model in
      let these = waiting_in b.waiting xs ++ x in
      let small' : d.rec.frame < 4294967296 = omega (arith, frame_after (lent_to_each b x model) b xs these small) in
      let w = rows r d.rec d.kept k.0 (share_size b xs these (lent_to_each b x model) full) small' k.2 in
      let joined : samples (bytes ++ rest) ≡ x ++ y =
      samples_both bytes rest format channels channel
      (omega (arith, size_is (block_of bytes format channels channel), says.some))
      (omega (arith, size_is (block_of rest format channels channel), w.0)) in
      rw joined (
        omega (arith, length-append x y, says.some),
        k.3 ∙ ap (ahead (has_said side b xs x model)) w.1 ∙ sym (both_has b xs x y model full says side small),
      )

pub bytes_in_a_row : BytesInARow
bytes_in_a_row n s st calls format channels channel model bytes k =
    (rows (side_of s) format channels channel model k.fed (record_at s st) (get (share_of s) st.store)
    (has_of n s st calls)
    (length_get (share_of s) st.store (omega (arith, k.inside, k.sized))) k.numbered
    (lone_run n s k.inside calls st k.sized (record_at s st) (get (share_of s) st.store) refl refl)).1

-- ---- however they are cut

pub however_cut : HoweverCut
however_cut n s st st' calls calls' format channels channel channels' channel' model bytes bytes' k k' alike e f =
    bytes_in_a_row n s st calls format channels channel model bytes k
    ∙ rw (
      e,
      f,
      samples_alike (block_of bytes format channels channel) (block_of bytes' format channels' channel')
          alike,
    )
    (sym (bytes_in_a_row n s st' calls' format channels' channel' model bytes' k'))
