-- What the functions on a recorder say, and their tables of refusals. Assumes nothing.
use Rattle.std.specs.Prelude.{Result, Ok, Err, ◌+◌, ◌-◌, ◌/◌, ◌≤◌, ◌<◌, ◌∷◌, ◌≡◌}
use Prim.Native.Nat.{min}
use Rattle.rules.proofs.Common.{ℕ, Bool, true, false, List}
use Rattle.rules.proofs.Common.{[], refl, sym, ap, ◌∙◌, ltb, T}
use Rattle.rules.proofs.Common.{length, take, drop, length-take, length-drop}
use native.Mathlib.Omega.{arith}
use borrow.Author.Tests.{eq-eqb, ltb-true, ltb-false}
use lib.ListN.{drop_of_length-le}
use lib.Seq.{take_all}
use Rattle.rules.specs.Leaf.{◌leaving◌}
use Rattle.rules.specs.Refusals.{Row, refusing}
use Rattle.rules.proofs.Refusals.{leave_both, clear, cleared, due, above}
use Rattle.rules.proofs.Numbered.{never_0}
use Rattle.rules.specs.Refusal.{refusal_number, told}
use Rattle.rules.specs.declared.refusal.Refusal.{Refusal}
use Rattle.rules.proofs.Tests.{neither}
use Rattle.recorder.specs.Recorder.{skip_of, room_of, belonging, start_of}
use Rattle.recorder.specs.Recorder.{with_feed, more_rows, LONGEST, FRAMES}
use Rattle.recorder.specs.Numbers.{recorder_in, recorder_numbers, more_laid}
use Rattle.recorder.specs.Private.{with_audio, Within}
use Rattle.recorder.specs.declared.Recorder.{Recorder}

-- ---- the part that belongs to the recording

take_min : (n : ℕ) (s : List ℕ) → take (min n (length s)) s ≡ take n s
take_min n s = go (ltb n (length s)) refl
  where
    go : (t : Bool) → ltb n (length s) ≡ t → take (min n (length s)) s ≡ take n s
    go true e = let few = ltb-true n (length s) e in let same : min n (length s) ≡ n = omega arith in rw same
    go false e =
        let all = ltb-false n (length s) e in
        take_all (min n (length s)) s (omega arith) ∙ sym (take_all n s all)

drop_min : (n : ℕ) (s : List ℕ) → drop (min n (length s)) s ≡ drop n s
drop_min n s = go (ltb n (length s)) refl
  where
    go : (t : Bool) → ltb n (length s) ≡ t → drop (min n (length s)) s ≡ drop n s
    go true e = let few = ltb-true n (length s) e in let same : min n (length s) ≡ n = omega arith in rw same
    go false e =
        let all = ltb-false n (length s) e in
        drop_of_length-le s {i = min n (length s)} (omega arith) ∙ sym (drop_of_length-le s {i = n} all)

module _ (r : Recorder) (taken : ℕ) (cleaned : List ℕ) where
  pub part_is : take (min (room_of r taken) (length cleaned - start_of r (length cleaned))) (drop (start_of r (length
      cleaned)) cleaned) ≡ belonging r taken cleaned
  unfolding belonging
  part_is =
      let rest = drop (start_of r (length cleaned)) cleaned in
      let long : length rest ≡ length cleaned - start_of r (length cleaned) = length-drop (start_of r (length cleaned))
      cleaned in
      rw long at (take_min (room_of r taken) rest) ∙ ap (take (room_of r taken)) (drop_min (skip_of r) cleaned)

  pub part_size : length (belonging r taken cleaned) ≡ min (room_of r taken) (length cleaned - start_of r (length
      cleaned))
  part_size = sym (ap length part_is) ∙ simp (length-take, length-drop) (omega arith)

pub part_at : (r : Recorder) (taken : ℕ) (cleaned : List ℕ) {start size : ℕ} → start ≡ start_of r (length cleaned)
    → size ≡ min (room_of r taken) (length (take (length cleaned - start) (drop start cleaned)))
    → take size (take (length cleaned - start) (drop start cleaned)) ≡ belonging r taken cleaned
part_at r taken cleaned {start} ss zs =
    let all : take (length cleaned - start) (drop start cleaned) ≡ drop start cleaned =
    take_all (length cleaned - start) (drop start cleaned) (simp length-drop (omega arith)) in
    let rest : length (drop start cleaned) ≡ length cleaned - start = length-drop start cleaned in
    rw (zs, all, rest, ss) (part_is r taken cleaned)

pub belonging_few : (r : Recorder) (taken : ℕ) (cleaned : List ℕ) {audio : List ℕ} → audio ≡ belonging r taken cleaned
    → length audio ≤ room_of r taken
belonging_few r taken cleaned e = rw (e, part_size r taken cleaned) (omega arith)

pub small_in : (ns : List ℕ) {r : Recorder} → r ≡ recorder_in ns → r.size < 4294967296
unfolding recorder_in
small_in ns e = rw e (omega arith)

-- ---- a table of refusals, by the number that a host is told

module _ {A : Type 0} (refuse : ℕ → A) (right : A) (rows : List Row) {r : Result (Unit {0}) Refusal}
    (tried : told r ≡ refusing rows (λ n. n) 0) where
  pub refused_with : {x : Refusal} → r ≡ Err x → refuse (refusal_number x) ≡ refusing rows refuse right
  refused_with {x} e = sym (due refuse right rows (sym (ap told e) ∙ tried) (never_0 x))

  pub passed_by : T (above rows) → {u : Unit {0}} → r ≡ Ok u → right ≡ refusing rows refuse right
  passed_by a e = sym (clear refuse right rows (cleared rows a (sym tried ∙ ap told e)))

-- a feed that is not refused finds room
pub room_for : (r : Recorder) (taken : ℕ) (cleaned records : List ℕ) {t : Result (Unit {0}) Refusal} {u : Unit {0}}
    → told t ≡ refusing (more_rows r taken cleaned records) (λ n. n) 0 → t ≡ Ok u
    → r.size < 4294967296 → (audio : ℕ) → audio ≤ room_of r taken → Within r taken audio (length records)
room_for r taken cleaned records tried none small audio most =
    let rows = cleared (more_rows r taken cleaned records) tt (sym tried ∙ ap told none) in
    let long = neither (ltb LONGEST (r.taken + taken)) (ltb FRAMES (r.count + length records / 8)) rows.1.0 in
    let samples = ltb-false LONGEST (r.taken + taken) long.0 in
    record {
      samples = samples;
      bytes = omega arith;
      frames = ltb-false FRAMES (r.count + length records / 8) long.1;
    }

-- ---- each answer behind the tests of lengths

module _ (taken : ℕ) (cleaned records ns out : List ℕ) (eight : length ns ≡ 8) (two : length out ≡ 2)
    {r : Recorder} (rs : r ≡ recorder_in ns) {t : Result (Unit {0}) Refusal}
    (tried : told t ≡ refusing (more_rows r taken cleaned records) (λ n. n) 0) where
  pub more_refused : {x : Refusal} → t ≡ Err x
      → (refusal_number x leaving ns leaving out) ≡ more_laid taken cleaned records ns out
  unfolding more_laid
  more_refused e =
      rw (eq-eqb (length ns) 8 eight, eq-eqb (length out) 2 two, ← rs)
      (refused_with (λ k. k leaving ns leaving out) _ (more_rows r taken cleaned records) tried e)

  pub more_done : {u : Unit {0}} → t ≡ Ok u → {next : Recorder} {audio after place : List ℕ} {start : ℕ}
      → audio ≡ belonging r taken cleaned → start ≡ start_of r (length cleaned)
      → next ≡ with_audio r taken audio records → after ≡ recorder_numbers next → place ≡ start ∷ length audio ∷ []
      → (0 leaving after leaving place) ≡ more_laid taken cleaned records ns out
  unfolding more_laid with_feed
  more_done e bs ss es ms ps =
      rw (eq-eqb (length ns) 8 eight, eq-eqb (length out) 2 two, ← rs)
      (leave_both (ms ∙ ap recorder_numbers es ∙ rw bs) (ps ∙ rw (bs, ss))
      ∙ passed_by (λ k. k leaving ns leaving out) _ (more_rows r taken cleaned records) tried tt e)
