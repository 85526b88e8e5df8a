-- What a host is told by its calls is what the file is. Assumes nothing.
use Rattle.std.specs.Prelude.{Ok, Err}
use Rattle.recording.specs.Verdict.{told_as, Verdict}
use Rattle.std.specs.Prelude.{◌&&◌, ◌∷◌, ◌≡◌}
use Rattle.rules.proofs.Common.{ℕ, Bool, true, false, cond, not, List, [], refl, sym, ap, ◌∙◌, subst}
use Rattle.rules.proofs.Common.{ltb, length, drop}
use native.Mathlib.Omega.{arith}
use borrow.Author.Tests.{eq-eqb}
use Rattle.rules.specs.Leaf.{◌leaving◌}
use Rattle.rules.specs.Lists.{sum, Bytes}
use Rattle.checksum.specs.Checksum.{crc32}
use Rattle.sides.specs.Sides.{number_of}
use Rattle.sheet.specs.Sheet.{records_of, trailer_of}
use Rattle.sheet.specs.Laws.{together}
use Rattle.recording.specs.Recording.{frames_of, entries_from, head_for, chunk_for}
use Rattle.recording.specs.Verdict.{size_in, frames_in, behind, records_from, trailer_in, said_by, begins, is_size}
use Rattle.recording.specs.Verdict.{how_many, file_faults, verdict_of}
use Rattle.recording.specs.Judge.{fed, begin, tell_of}
use Rattle.recording.specs.Numbers.{judge_in, judge_numbers, judge_laid, told_in, verdict_laid}
use Rattle.recording.specs.Laws.{after_calls, AllBytes, held_after, host_told, JudgeBuffers, HostAll}
use Rattle.recording.specs.Laws.{Accepted, HostOnly}
use Rattle.recording.specs.declared.Front.{Front}
use Rattle.recording.specs.declared.Judge.{Judge}
use Rattle.recording.proofs.Told.{told_all, told_only}
use Rattle.recording.proofs.Calls.{Fits, kept, begun_fits, run_fits, calls_told}

-- a judge laid into buffers of the right lengths
laid : (j : Judge) (ns held : List ℕ) → length ns ≡ 11 → length held ≡ 76
    → judge_laid j ns held ≡ (0 leaving judge_numbers j leaving j.held)
unfolding judge_laid
laid j ns held n h = rw (eq-eqb (length ns) 11 n, eq-eqb (length held) 76 h)

on_held : (j : Judge) (parts : List (List ℕ)) → Fits j → AllBytes parts
    → held_after (judge_numbers j) j.held parts ≡ (judge_numbers (after_calls j parts), (after_calls j parts).held)
on_held j [] fits b = refl
on_held j (bytes ∷ parts) fits b =
    let k : Judge = fed (judge_in (judge_numbers j) j.held) bytes in
    let same : fed j bytes ≡ k = ap (λ (x : Judge). fed x bytes) (sym (kept j fits)) in
    let good : Fits k = subst Fits same (run_fits j bytes fits b.0) in
    ap (λ (left : ℕ × (List ℕ × List ℕ)). held_after left.1.0 left.1.1 parts)
    (laid k (judge_numbers j) j.held refl fits.long)
    ∙ on_held k parts good b.1

module _ (parts : List (List ℕ)) (ns held out : List ℕ) (lent : JudgeBuffers ns held out) (b : AllBytes parts) where
  abbrev j : Judge
  j = after_calls begin parts

  same_held : (let left = judge_laid begin ns held in held_after left.1.0 left.1.1 parts)
      ≡ (judge_numbers j, j.held)
  same_held =
      ap (λ (left : ℕ × (List ℕ × List ℕ)). held_after left.1.0 left.1.1 parts)
      (laid begin ns held lent.numbers lent.bytes)
      ∙ on_held begin parts begun_fits b

  asked : verdict_laid (judge_numbers j) j.held out ≡ told_in (tell_of (judge_in (judge_numbers j) j.held)) out
  unfolding verdict_laid
  asked = rw (eq-eqb (length out) 5 lent.places, eq-eqb (length j.held) 76 (calls_told parts b).0)

  host_told_lem : host_told ns held parts out ≡ told_in (verdict_of (together parts)) out
  host_told_lem =
      ap (λ (last : List ℕ × List ℕ). verdict_laid last.0 last.1 out) same_held
      ∙ asked
      ∙ ap (λ (v : Verdict). told_in v out) (calls_told parts b).1

pub host_all : HostAll
host_all r parts ns held out good lent b e =
    host_told_lem parts ns held out lent b ∙ ap (λ (v : Verdict). told_in v out) (ap verdict_of e ∙ told_all r good)

-- no part has number 0
none_is_zero : (t u v w x y : Bool) (f : Front) (n h : ℕ)
    → cond t (Err 61) (cond u (Err 62)
    (cond v (Err 63) (cond w (Err 64) (cond x (Err 65) (cond y (Err 66) (told_as f n h)))))) ≡ Err 0 → ⊥
none_is_zero true u v w x y f n h e = absurd (let z : ◌≡◌ {A = ℕ} 61 0 = cc in omega arith)
none_is_zero false true v w x y f n h e = absurd (let z : ◌≡◌ {A = ℕ} 62 0 = cc in omega arith)
none_is_zero false false true w x y f n h e = absurd (let z : ◌≡◌ {A = ℕ} 63 0 = cc in omega arith)
none_is_zero false false false true x y f n h e = absurd (let z : ◌≡◌ {A = ℕ} 64 0 = cc in omega arith)
none_is_zero false false false false true y f n h e = absurd (let z : ◌≡◌ {A = ℕ} 65 0 = cc in omega arith)
none_is_zero false false false false false true f n h e = absurd (let z : ◌≡◌ {A = ℕ} 66 0 = cc in omega arith)
none_is_zero false false false false false false f n h e = absurd (let z : ◌≡◌ {A = ℕ} 0 1 = cc in omega arith)

not_zero : (file : List ℕ) → verdict_of file ≡ Err 0 → ⊥
unfolding verdict_of file_faults
not_zero file e =
    let size = size_in file in
    let r = said_by file in
    let side = number_of r.front.side in
    let rs = records_of side (entries_from r.front.first r.heard) in
    none_is_zero
    (not (is_size size && begins (head_for r.front size) file))
    (ltb (length (drop 76 file)) size)
    (not (begins (chunk_for r.front size (crc32 0 r.audio)) (behind file)))
    (not (begins rs (records_from file)))
    (not (begins (trailer_of (frames_of r.front.first size) side (sum rs)) (trailer_in file)))
    (ltb 16 (length (trailer_in file)))
    r.front (frames_in file) (how_many r.heard) e

by_verdict : (file out told : List ℕ) (v : Verdict) → Bytes file → verdict_of file ≡ v
    → (0 leaving told) ≡ told_in v out
    → Accepted file told (said_by file)
by_verdict file out told (Ok t) b e a =
    let f = t.front in
    let n = t.frames in
    let h = t.heard in
    let is = told_only file f n h b (sym e) in
    let list : told ≡ number_of f.side ∷ f.began ∷ f.first ∷ n ∷ h ∷ [] = ap (λ (p : ℕ × List ℕ). p.1) a in
    let r = said_by file in
    record {
      good = is.good;
      bytes = is.bytes;
      numbers = list
          ∙ ap (λ (g : Front). number_of g.side ∷ g.began ∷ g.first ∷ n ∷ h ∷ []) is.fronted
          ∙ ap (λ (m : ℕ). number_of r.front.side ∷ r.front.began ∷ r.front.first ∷ m ∷ h ∷ []) is.framed
          ∙ ap (λ (m : ℕ). number_of r.front.side ∷ r.front.began ∷ r.front.first ∷ length r.heard ∷ m ∷ [])
          is.counts;
    }
by_verdict file out told (Err n) b e a =
    let zero_it : 0 ≡ n = ap (λ (p : ℕ × List ℕ). p.0) a in
    absurd (not_zero file (e ∙ ap Err (sym zero_it)))

pub host_only : HostOnly
host_only parts ns held out told lent b bytes e =
    by_verdict (together parts) out told (verdict_of (together parts)) bytes refl
    (e ∙ host_told_lem parts ns held out lent b)
