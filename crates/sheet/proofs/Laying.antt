-- How records are laid one behind the other into a buffer, and closed by a trailer. Assumes nothing.
use mathlib.Core.Path.{◌≡◌, refl, sym, ap, ◌∙◌}
use mathlib.Core.List.{List, [], ◌∷◌, ◌++◌, append_assoc, append-nil}
use Prim.Native.Nat.{ℕ, suc, ◌+◌, ◌*◌, ◌-◌, ◌≤◌, ◌<◌}
use native.Mathlib.Numerals.{add-one}
use native.Mathlib.Omega.{arith}
use lib.ListN.{length, get_or, take, drop, length-append, length-take, length-drop, drop_of_length-le}
use lib.Seq.{take_at, drop_at, drop-drop, take-suc, take_all, take-take}
use Rattle.rules.specs.Lists.{sum}
use Rattle.sheet.specs.Sheet.{four, record_bytes, records_of, trailer_of, Sheet, sheet_bytes, sheet_size}
use Rattle.sheet.specs.Private.{closed}

pub length_record : (side e : ℕ) → length (record_bytes side e) ≡ 8
unfolding record_bytes four
length_record side e = refl

pub length_trailer : (n side t : ℕ) → length (trailer_of n side t) ≡ 16
unfolding trailer_of four
length_trailer n side t = refl

pub length_records : (side : ℕ) (es : List ℕ) → length (records_of side es) ≡ 8 * length es
length_records side [] = refl
length_records side (e ∷ es) = simp (length-append, length_record, length_records side es) (omega arith)

pub records_append : (side : ℕ) (xs ys : List ℕ) → records_of side (xs ++ ys) ≡ records_of side xs ++ records_of side ys
records_append side [] ys = refl
records_append side (x ∷ xs) ys =
    rw (records_append side xs ys) (sym (append_assoc (record_bytes side x) (records_of side xs) (records_of side ys)))

-- a buffer with the records of the first i entries in front
abbrev pub laid : ℕ → List ℕ → ℕ → List ℕ → List ℕ
laid side es i out = records_of side (take i es) ++ drop (8 * i) out

module _ (side : ℕ) (es : List ℕ) (i : ℕ) (out : List ℕ) (h : i < length es) where
  front : length (records_of side (take i es)) ≡ 8 * i
  front = simp (length_records, length-take) (omega arith)

  pub lay_more : {now bytes : List ℕ} → bytes ≡ record_bytes side (get_or es i 0) → now ≡ laid side es i out
      → take (8 * i) now ++ (bytes ++ drop (8 * i + 8 - 8 * i) (drop (8 * i) now)) ≡ laid side es (i + 1) out
  lay_more b e =
      let eight : 8 * i + 8 - 8 * i ≡ 8 = omega arith in
      let next : 8 * i + 8 ≡ 8 * (i + 1) = omega arith in
      let r = records_of side (take i es) in
      rw (
        b,
        e,
        eight,
        take_at r (drop (8 * i) out) (8 * i) front,
        drop_at r (drop (8 * i) out) (8 * i) front,
        drop-drop 8 (8 * i) out,
        next,
        add-one i,
        take-suc es i 0 h,
        records_append side (take i es) (get_or es i 0 ∷ []),
        append-nil (record_bytes side (get_or es i 0)),
      )
      (sym (append_assoc r (record_bytes side (get_or es i 0)) (drop (8 * suc i) out)))

pub length_laid : (side : ℕ) (es : List ℕ) (i : ℕ) (out : List ℕ) → i ≤ length es → length out ≡ 8 * length es
    → length (laid side es i out) ≡ 8 * length es
length_laid side es i out h e = simp (length-append, length_records, length-take, length-drop) (omega arith)

pub lay_ended : (side : ℕ) (es : List ℕ) (i : ℕ) (out : List ℕ) {now : List ℕ} → length es ≤ i → length out ≤ 8 * i
    → now ≡ laid side es i out → now ≡ records_of side es
lay_ended side es i out h room e =
    e ∙ rw (take_all i es h, drop_of_length-le out {i = 8 * i} room, append-nil (records_of side es))

-- a trailer behind records
pub closing : (out : List ℕ) (n side : ℕ) {t : ℕ} {bytes : List ℕ} → bytes ≡ trailer_of n side t
    → t ≡ sum (take (8 * n) out) → length out ≡ sheet_size n
    → take (8 * n) out ++ (bytes ++ drop (length out - 8 * n) (drop (8 * n) out)) ≡ closed n side out
closing out n side {t} {bytes} b s e =
    let none : drop (length out - 8 * n) (drop (8 * n) out) ≡ [] =
    drop_of_length-le (drop (8 * n) out) {i = length out - 8 * n} (simp length-drop (omega arith)) in
    rw (none, append-nil bytes, b, s)

pub front_size : (side : ℕ) (es out : List ℕ) {l : List ℕ} → l ≡ records_of side es
    → sheet_size (length es) ≤ length out
    → length (take (sheet_size (length es)) (l ++ drop (8 * length es) out)) ≡ sheet_size (length es)
front_size side es out e h = rw e (simp (length-take, length-append, length-drop, length_records) (omega arith))

-- a sheet in front of a longer buffer: first its records, then its trailer
pub close_all : (sh : Sheet) (out : List ℕ) → sheet_size (length sh.entries) ≤ length out
    → closed (length sh.entries) sh.side
    (take (sheet_size (length sh.entries))
    (records_of sh.side sh.entries ++ drop (8 * length sh.entries) out))
    ++ drop (sheet_size (length sh.entries))
    (records_of sh.side sh.entries ++ drop (8 * length sh.entries) out)
    ≡ sheet_bytes sh ++ drop (sheet_size (length sh.entries)) out
close_all sh out h =
    let n = length sh.entries in
    let r = records_of sh.side sh.entries in
    let long = length_records sh.side sh.entries in
    let rest = drop (8 * n) out in
    let all : drop (8 * n + 16) (r ++ rest) ≡ drop (8 * n + 16) out =
    sym (drop-drop 16 (8 * n) (r ++ rest)) ∙ ap (drop 16) (drop_at r rest (8 * n) long) ∙ drop-drop 16 (8 * n) out in
    rw (take-take (8 * n) (8 * n + 16) (r ++ rest) (omega arith), take_at r rest (8 * n) long, all)
