-- What a host is told of what it wrote (`written_is_reported`, `parts_are_reported`). Assumes nothing.
use Rattle.std.specs.Prelude.{◌+◌, ◌*◌, ◌≤◌, ◌&&◌, ◌∷◌, ◌++◌, ◌≡◌}
use Rattle.rules.proofs.Common.{ℕ, Bool, true, false, not, List, []}
use Rattle.rules.proofs.Common.{refl, sym, ap, ap₂, ◌∙◌, ltb, length}
use Rattle.rules.proofs.Common.{get_or, take, drop, length-append}
use native.Mathlib.Omega.{arith}
use borrow.Author.Tests.{lt-leb, eq-eqb, ltb-false, not-false}
use lib.Seq.{take_at}
use Rattle.rules.specs.Leaf.{◌leaving◌}
use Rattle.rules.specs.Refusals.{Row, ◌when◌}
use Rattle.rules.proofs.Refusals.{clear, none_held}
use Rattle.sheet.specs.Sheet.{Sheet, kind, records_of, trailer_of, sheet_bytes, sheet_size}
use Rattle.sheet.specs.End.{sheet, end_of, read_sheet}
use Rattle.sheet.specs.Asked.{sheet_summary, entry_at}
use Rattle.sheet.specs.Written.{known_kinds}
use Rattle.sheet.specs.Rows.{Tally, with_records, records_faults, records_laid, trailer_laid}
use Rattle.sheet.specs.Laws.{in_row, together, Reports, WrittenIsReported, WrittenInParts, closing, adding}
use Rattle.sheet.specs.Laws.{PartsAreReported}
use Rattle.sheet.proofs.Laying.{length_records, length_trailer}
use Rattle.sheet.proofs.Inverse.{Fits, reads_back}
use Rattle.sheet.proofs.InRow.{parts_are_whole}
use Rattle.sheet.proofs.Written.{sheet_reads}

-- a file that has a sheet at its end reports it
reported : (file before : List ℕ) (sh : Sheet) → end_of file ≡ sheet before sh
    → Reports file (length before) sh.side sh.entries
unfolding sheet_summary entry_at read_sheet
reported file before sh e =
    record {
      summary = λ numbers three. rw (eq-eqb (length numbers) 3 three, e);
      each = λ i entry one inside. rw (eq-eqb (length entry) 1 one, e, lt-leb (length sh.entries) i inside);
    }

pub written_is_reported : WrittenIsReported
written_is_reported sh before out after e =
    reported (before ++ take (sheet_size (length sh.entries)) after) before sh (sheet_reads sh before out after e)

-- ---- in parts

abbrev tally_of : List ℕ → Tally
tally_of numbers = record { count = get_or numbers 0 0; total = get_or numbers 1 0 }

pub kinds_both : (xs ys : List ℕ) → known_kinds xs ≡ true → known_kinds ys ≡ true → known_kinds (xs ++ ys) ≡ true
unfolding known_kinds
kinds_both [] ys h k = k
kinds_both (x ∷ xs) ys h k = go (not (ltb 1 (kind x))) h (λ m. kinds_both xs ys m k)
  where
    go : (t : Bool) → t && known_kinds xs ≡ true → (known_kinds xs ≡ true → known_kinds (xs ++ ys) ≡ true)
        → t && known_kinds (xs ++ ys) ≡ true
    go true h more = more h
    go false h more = h

-- the bytes are those of a row, and what is in it fits a file
pub record InRow (side : ℕ) (numbers : List ℕ) (parts : List (List ℕ)) (bytes : List ℕ) : Type 0 where
  pub are : bytes ≡ in_row side (tally_of numbers) parts
  pub few : get_or numbers 0 0 + length (together parts) ≤ 536870911
  pub known : side ≤ 1
  pub heard : known_kinds (together parts) ≡ true

closed_row : (side : ℕ) (numbers out after : List ℕ)
    → (0 leaving after) ≡ trailer_laid side (get_or numbers 0 0) (get_or numbers 1 0) out
    → InRow side numbers [] (take 16 after)
unfolding trailer_laid known_kinds
closed_row side numbers out after e =
    let count = get_or numbers 0 0 in
    let bytes = trailer_of count side (get_or numbers 1 0) in
    let right : ℕ × List ℕ = (0 leaving bytes ++ drop 16 out) in
    let rows : List Row = 32 when ltb 536870911 count ∷ 33 when ltb 1 side ∷ 36 when ltb (length out) 16 ∷ [] in
    let c = none_held (λ (p : ℕ × List ℕ). p.0) (λ r. r leaving out) right (λ n. refl) rows tt
    (ap (λ (p : ℕ × List ℕ). p.0) (sym e)) in
    let done : after ≡ bytes ++ drop 16 out =
    ap (λ (p : ℕ × List ℕ). p.1) (e ∙ clear (λ r. r leaving out) right rows c) in
    record {
      are = rw done (take_at bytes (drop 16 out) 16 (length_trailer count side (get_or numbers 1 0)));
      few = omega (arith, ltb-false 536870911 count c.0);
      known = ltb-false 1 side c.1.0;
      heard = refl;
    }

more_row : (side : ℕ) (numbers numbers' es out after : List ℕ) {parts : List (List ℕ)} {rest : List ℕ}
    → (0 leaving numbers' leaving after) ≡ records_laid side es numbers out → InRow side numbers' parts rest
    → InRow side numbers (es ∷ parts) (take (8 * length es) after ++ rest)
unfolding records_laid
more_row side numbers numbers' es out after {parts} {rest} e r =
    let bytes = records_of side es in
    let t = with_records side es (tally_of numbers) in
    let right : ℕ × (List ℕ × List ℕ) =
    (0 leaving t.count ∷ t.total ∷ [] leaving bytes ++ drop (8 * length es) out) in
    let refuse : ℕ → ℕ × (List ℕ × List ℕ) = λ n. (n leaving numbers leaving out) in
    let rows = records_faults side es numbers (length out) in
    let c = none_held (λ (p : ℕ × (List ℕ × List ℕ)). p.0) refuse right (λ n. refl) rows tt
    (ap (λ (p : ℕ × (List ℕ × List ℕ)). p.0) (sym e)) in
    let done : (0 leaving numbers' leaving after) ≡ right = e ∙ clear refuse right rows c in
    let next : numbers' ≡ t.count ∷ t.total ∷ [] = ap (λ (p : ℕ × (List ℕ × List ℕ)). p.1.0) done in
    let laid : after ≡ bytes ++ drop (8 * length es) out = ap (λ (p : ℕ × (List ℕ × List ℕ)). p.1.1) done in
    let first : take (8 * length es) after ≡ bytes =
    rw laid (take_at bytes (drop (8 * length es) out) (8 * length es) (length_records side es)) in
    let same : tally_of numbers' ≡ t = ap tally_of next in
    let count : get_or numbers' 0 0 ≡ get_or numbers 0 0 + length es = ap (λ (ns : List ℕ). get_or ns 0 0) next in
    record {
      are = ap₂ (λ (x y : List ℕ). x ++ y) first (r.are ∙ ap (λ (u : Tally). in_row side u parts) same);
      few = omega (arith, r.few, count, length-append es (together parts));
      known = r.known;
      heard = kinds_both es (together parts) (not-false _ c.1.1.1.0) r.heard;
    }

row_of : (side : ℕ) {numbers : List ℕ} {parts : List (List ℕ)} {bytes : List ℕ}
    → WrittenInParts side numbers parts bytes → InRow side numbers parts bytes
row_of side (closing numbers out after e) = closed_row side numbers out after e
row_of side (adding numbers numbers' es out after e rest) =
    more_row side numbers numbers' es out after e (row_of side rest)

pub parts_are_reported : PartsAreReported
parts_are_reported side parts before bytes w =
    let r = row_of side w in
    let sh : Sheet = record { side = side; entries = together parts } in
    let fits : Fits sh = record { few = omega (arith, r.few); known = r.known; heard = r.heard } in
    let whole : bytes ≡ sheet_bytes sh = r.are ∙ parts_are_whole side parts in
    reported (before ++ bytes) before sh (ap (λ (s : List ℕ). end_of (before ++ s)) whole ∙ reads_back before sh fits)
