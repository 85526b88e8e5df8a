-- What a bench remembers, over any run: what specs/Memory.antt claims. Assumes nothing.
use Rattle.std.specs.Prelude.{◌<◌, ◌∷◌, ◌≡◌}
use Rattle.rules.proofs.Common.{ℕ, Bool, true, false, cond, false≢true, List, [], refl, sym, ap, ◌∙◌}
use Rattle.rules.proofs.Common.{eqb, length, Float, nan}
use native.Mathlib.Omega.{arith}
use mathlib.Core.Logic.{⊎_elim}
use borrow.Author.Tests.{eqb-true}
use lib.ListN.{get_or-replicate}
use lib.Ieee.{is_nan, of_bits}
use Rattle.rules.specs.F32.{at, f32}
use Rattle.frame.specs.Reply.{is_heard, Reply, Done, Silent, Heard, Numbered, Refused, Misread}
use Rattle.desk.specs.Desk.{Ask}
use Rattle.memory.specs.Hear.{Recalled, blank, HeardFrame, heard_all, faded}
use Rattle.memory.specs.Calls.{FrameCall}
use Rattle.memory.specs.Brought.{unnoted, brought}
use Rattle.memory.proofs.Kept.{Kept, noted_in, kept, kept_recalled, same_count}
use Rattle.memory.proofs.Calls.{Remembers, remembers, either}
use Rattle.memory.proofs.Gains.{held_gains_lem}
use Rattle.isolation.specs.Run.{Kind, On, State, record_at, after, ended, desks, Made, expand, Expands}
use Rattle.isolation.specs.Numbering.{replied, calls_in}
use Rattle.isolation.specs.Memory.{recalled, SilentLeaves, MadeOfHeard, Since, Faded, NeverNan, HeardHolds}
use Rattle.isolation.specs.Memory.{Counts, itself, DeskCounts, ExpandedCounts}
use Rattle.isolation.proofs.Runs.{expanding}
use Rattle.isolation.proofs.Moved.{share, Whole, fits, kept_whole, lone, replies, kept_then, kept_at, calls}
use Rattle.isolation.proofs.Moved.{own_calls, own_moves, other_moves, run, fresh}
use Rattle.isolation.proofs.Numberings.{numbering}

-- no frame
none_heard : (m : Recalled) (fs : List HeardFrame) → length fs ≡ 0 → heard_all m fs ≡ m
unfolding heard_all
none_heard m [] e = refl
none_heard m (f ∷ fs) e = absurd (omega arith)

gains : {a b : Recalled} → a ≡ b → a.gains ≡ b.gains
gains e = ap (λ (m : Recalled). m.gains) e

module _ (n s : ℕ) (inside : s < n) where
  -- what is kept behind calls, as far as it is remembered
  recalled_behind : (st : State) (cs : List FrameCall) {k : Kept} → k ≡ kept (kept_at n s inside st) cs
      → k.recalled ≡ heard_all (recalled s st) (brought (noted_in (share n s inside st)) cs)
  recalled_behind st cs e = ap (λ (k : Kept). k.recalled) e ∙ kept_recalled (kept_at n s inside st) cs

  -- ---- since an opening

  abbrev Numbers : State → Type 0
  Numbers st = (i : ℕ) → i < 22 → is_nan (at (recalled s st).gains i) ≡ false

  blank_number : (i : ℕ) → i < 22 → is_nan (at blank.gains i) ≡ false
  unfolding is_nan of_bits
  blank_number i h = rw (get_or-replicate 22 i (f32 0) nan h)

  -- no call makes a gain NaN: it opens the side anew, or it hears what it brings
  numbers_after : (st : State) → Whole n s inside st → (c : On Ask) → Numbers st → Numbers (after desks n st c)
  numbers_after st l c numbers i band = go (eqb c.side s) refl
    where
      hears : kept_at n s inside (after desks n st c) ≡ kept (kept_at n s inside st) (calls n s inside st c)
          → is_nan (at (recalled s (after desks n st c)).gains i) ≡ false
      hears m =
          rw (gains (recalled_behind st (calls n s inside st c) m))
          (held_gains_lem i band (brought _ (calls n s inside st c)) (recalled s st) (numbers i band)).0

      go : (t : Bool) → eqb c.side s ≡ t → is_nan (at (recalled s (after desks n st c)).gains i) ≡ false
      go true f =
          let e = eqb-true c.side s f in
          ⊎_elim (λ o. rw (gains (ap (λ (k : Kept). k.recalled) (kept_then n s inside st l c e ∙ o.forgets)))
          (blank_number i band)) (λ r. hears (own_moves n s inside st l c e r))
          (either (record_at s st) (share n s inside st) (fits n s inside st l) c.call)
      go false f = hears (other_moves n s inside st l c f)

  numbers_run : (cs : List (On Ask)) (st : State) → Whole n s inside st → Numbers st
      → Numbers (ended desks n st cs) × Whole n s inside (ended desks n st cs)
  unfolding ended
  numbers_run [] st l numbers = (numbers, l)
  numbers_run (c ∷ cs) st l numbers =
      numbers_run cs (after desks n st c) (kept_whole n s inside st l c) (numbers_after st l c numbers)

  since : {C : Type 0} (serve : Kind C) (asksOf : Made C) → Expands serve asksOf n → (st : State)
      → Since serve asksOf n s st → Numbers st × Whole n s inside st
  since serve asksOf expanded st h =
      let f = fresh n s inside h.start h.opened in
      rw (← h.led, expanded h.start h.calls)
      (numbers_run (expand serve asksOf n h.start h.calls) h.start f.1
      (λ i band. rw (gains (ap (λ (k : Kept). k.recalled) f.0)) (blank_number i band)))

-- ---- what is claimed

not_heard : (r : Reply) → ((voice energy : Float) → r ≡ Heard voice energy → ⊥) → is_heard r ≡ false
not_heard Done u = refl
not_heard Silent u = refl
not_heard (Heard v e) u = absurd (u v e refl)
not_heard (Numbered f h) u = refl
not_heard (Refused k) u = refl
not_heard (Misread k l) u = refl

-- a call of the desk that is heard brings one frame, and any other none
module _ (n s : ℕ) (inside : s < n) (st : State) (l : Whole n s inside st) (c : On Ask) (e : c.side ≡ s) where
  frames : List HeardFrame
  frames = brought (noted_in (share n s inside st)) (calls n s inside st c)

  count : Remembers (record_at s st) (share n s inside st) c.call (lone n s inside st l c e)
      → length frames ≡ cond (is_heard (replied n st c)) 1 0
  unfolding frames
  count r = rw (own_calls n s inside st l c e, replies n s inside st l c e) (r.counts _)

pub silent_leaves : (n : ℕ) → SilentLeaves n
unfolding frames
silent_leaves n s inside st l c e ne u =
    let r = remembers (record_at s st) (share n s inside st) (fits n s inside st l) c.call (λ z. absurd (ne z)) in
    recalled_behind n s inside st (calls n s inside st c) (own_moves n s inside st l c e r)
    ∙ none_heard (recalled s st) _ (count n s inside st l c e r ∙ rw (not_heard (replied n st c) u))

module _ {C : Type 0} (serve : Kind C) (asksOf : Made C) (n : ℕ) (expanded : Expands serve asksOf n) where
  pub made_of_heard : MadeOfHeard serve asksOf n
  made_of_heard s inside st o calls u =
      let asks = expand serve asksOf n st calls in
      let f = fresh n s inside st o in
      rw (expanded st calls)
      (recalled_behind n s inside st (calls_in n s st asks) (run n s inside asks st f.1 u)
      ∙ ap (λ (k : Kept). heard_all k.recalled (brought k.noted (calls_in n s st asks))) f.0)

  pub faded_gains : Faded serve asksOf n
  faded_gains s inside st h calls u =
      let asks = expand serve asksOf n st calls in
      let k = since n s inside serve asksOf expanded st h in
      let m = recalled_behind n s inside st (calls_in n s st asks) (run n s inside asks st k.1 u) in
      let fs = brought (noted_in (share n s inside st)) (calls_in n s st asks) in
      let many = same_count (noted_in (share n s inside st)) unnoted (calls_in n s st asks) in
      rw (expanded st calls) (
        λ i band. rw (← many, gains m) (held_gains_lem i band fs (recalled s st) (k.0 i band)).1,
        λ z. m ∙ none_heard (recalled s st) fs (many ∙ z),
      )

  pub never_nan : NeverNan serve asksOf n
  never_nan s inside st h = (since n s inside serve asksOf expanded st h).0

  pub heard_holds : HeardHolds serve asksOf n
  unfolding faded frames
  heard_holds s inside st h c e v x r i band =
      let k = since n s inside serve asksOf expanded st h in
      let told : is_heard (lone n s inside st k.1 c e).answer.reply ≡ true =
      ap is_heard (sym (replies n s inside st k.1 c e) ∙ r) in
      ⊎_elim (λ o. absurd (false≢true (sym o.unheard ∙ told)))
      (λ t.
      let single : length (frames n s inside st k.1 c e) ≡ 1 =
      count n s inside st k.1 c e t ∙ rw (ap is_heard r) in
      rw (gains (recalled_behind n s inside st (calls n s inside st c) (own_moves n s inside st k.1 c e t)))
      (rw single at (held_gains_lem i band (frames n s inside st k.1 c e) (recalled s st) (k.0 i band)).1))
      (either (record_at s st) (share n s inside st) (fits n s inside st k.1) c.call)

  pub counts : Counts serve asksOf n
  counts = (numbering serve asksOf n expanded, made_of_heard, faded_gains, never_nan, heard_holds)

pub desk_counts : (n : ℕ) → DeskCounts n
unfolding ended
desk_counts n = counts desks itself n (expanding desks itself n (λ st side a. refl))

pub expanded_counts : ExpandedCounts
expanded_counts C serve asksOf n expanded = counts serve asksOf n expanded
