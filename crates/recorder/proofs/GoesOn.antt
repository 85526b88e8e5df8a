-- A bench that goes on in a next recording: its audio goes on. Assumes nothing.
use Rattle.std.specs.Prelude.{◌+◌, ◌-◌, ◌*◌, ◌%◌, ◌≤◌, ◌∷◌, ◌++◌, ◌≡◌}
use Rattle.rules.proofs.Common.{ℕ, List, [], refl, sym, ap, ap₂, ◌∙◌}
use Rattle.rules.proofs.Common.{length, length-take}
use mathlib.Core.List.{append_assoc}
use native.Mathlib.Omega.{arith}
use borrow.Author.Tests.{ne_eqb, eqb-true, eqb-false, not-false}
use Rattle.rules.specs.Refusals.{refusing}
use Rattle.rules.proofs.Refusals.{cleared}
use Rattle.rules.proofs.Tests.{neither}
use Rattle.recorder.specs.Recorder.{beginning, next_frame, room_of, belonging, with_feed, next_first, following}
use Rattle.recorder.specs.Recorder.{next_rows}
use Rattle.recorder.specs.Laws.{Given, after, audio_of, CutGoesOn}
use Rattle.recorder.specs.declared.Recorder.{Recorder}

pub part_few : (r : Recorder) (taken : ℕ) (cleaned : List ℕ) → length (belonging r taken cleaned) ≤ room_of r taken
unfolding belonging
part_few r taken cleaned = simp length-take (omega arith)

-- two recorders that have equally much room, both after their first frame
record Alike (r q : Recorder) (d : ℕ) : Type 0 where
  one : 2 * r.taken ≡ r.size + d
  other : 2 * q.taken ≡ q.size + d
  on : next_frame r ≡ 0 → ⊥
  on' : next_frame q ≡ 0 → ⊥

module _ (r q : Recorder) (d : ℕ) (a : Alike r q d) (taken : ℕ) (cleaned records : List ℕ) where
  same_part : belonging r taken cleaned ≡ belonging q taken cleaned
  unfolding belonging
  same_part =
      let room : room_of r taken ≡ room_of q taken = omega (arith, a.one, a.other) in
      rw (room, ne_eqb (next_frame r) 0 a.on, ne_eqb (next_frame q) 0 a.on')

  same_next : Alike (with_feed r taken cleaned records) (with_feed q taken cleaned records)
      (d + 2 * taken - length (belonging r taken cleaned))
  unfolding with_feed
  same_next =
      let few = part_few r taken cleaned in
      let long : length (belonging q taken cleaned) ≡ length (belonging r taken cleaned) = sym (ap length same_part) in
      record {
        one = omega (arith, a.one);
        other = omega (arith, a.one, a.other);
        on = λ e. a.on (omega arith);
        on' = λ e. a.on' (omega arith);
      }

same_audio : (gs : List Given) (r q : Recorder) (d : ℕ) → Alike r q d → audio_of r gs ≡ audio_of q gs
same_audio [] r q d a = refl
same_audio (g ∷ gs) r q d a =
    ap₂ ◌++◌ (same_part r q d a g.taken g.cleaned g.records)
    (same_audio gs _ _ _ (same_next r q d a g.taken g.cleaned g.records))

pub audio_append : (gs gs' : List Given) (r : Recorder) → audio_of r (gs ++ gs') ≡ audio_of r gs
    ++ audio_of (after r gs)
    gs'
audio_append [] gs' r = refl
audio_append (g ∷ gs) gs' r =
    let part = belonging r g.taken g.cleaned in
    let next = with_feed r g.taken g.cleaned g.records in
    ap (λ (l : List ℕ). part ++ l) (audio_append gs gs' next)
    ∙ sym (append_assoc part (audio_of next gs) (audio_of (after next gs) gs'))

-- never more audio than was taken in
pub within_feed : (r : Recorder) (taken : ℕ) (cleaned records : List ℕ) → r.size ≤ 2 * r.taken
    → (with_feed r taken cleaned records).size ≤ 2 * (with_feed r taken cleaned records).taken
unfolding with_feed
within_feed r taken cleaned records h = omega (arith, part_few r taken cleaned)

pub within : (gs : List Given) (r : Recorder) → r.size ≤ 2 * r.taken → (after r gs).size ≤ 2 * (after r gs).taken
within [] r h = h
within (g ∷ gs) r h = within gs (with_feed r g.taken g.cleaned g.records) (within_feed r g.taken g.cleaned
    g.records h)

module _ (r : Recorder) (began : ℕ) (none : refusing (next_rows r) (λ n. n) 0 ≡ 0) (h : r.size ≤ 2 * r.taken) where
  goes_on : Alike r (following r began) (2 * r.taken - r.size)
  unfolding following
  goes_on =
      let last = neither _ _ (cleared (next_rows r) tt none).1.1.0 in
      let whole = eqb-true (r.size % 960) 0 (not-false _ last.0) in
      let other = eqb-false (next_first r) 0 last.1 in
      record {
        one = omega arith;
        other = omega arith;
        on = λ e. other (omega arith);
        on' = λ e. other (omega arith);
      }

pub cut_goes_on : CutGoesOn
cut_goes_on f gs gs' began none =
    let r = after (beginning f) gs in
    audio_append gs gs' (beginning f)
    ∙ ap (λ (l : List ℕ). audio_of (beginning f) gs ++ l)
    (same_audio gs' r (following r began) _ (goes_on r began none (within gs (beginning f) (omega arith))))
