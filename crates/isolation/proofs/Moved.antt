-- What one call of the desk, and then any run of them, makes of what a side keeps.
--     one      a call makes of it what the calls of a frame do that it is made of
--     run      so does a run
--     fresh    an opening that is done leaves nothing of it
-- Assumes nothing.
use Rattle.std.specs.Prelude.{◌*◌, ◌<◌, ◌∷◌, ◌≡◌}
use Rattle.rules.proofs.Common.{ℕ, Bool, true, false, cond, List, [], refl, sym, ap, ap₂, ◌∙◌, eqb}
use Rattle.rules.proofs.Common.{length, Float}
use native.Mathlib.Omega.{arith}
use borrow.Author.Tests.{eq-eqb, eqb-true, eqb-false}
use Rattle.rules.specs.Place.{get}
use Rattle.rules.proofs.Places.{length_get}
use Rattle.frame.specs.Effect.{Effect}
use Rattle.frame.specs.Reply.{passed}
use Rattle.frame.specs.Share.{SHARE}
use Rattle.desk.specs.Answer.{Answer}
use Rattle.desk.specs.Gate.{share_of}
use Rattle.desk.specs.Desk.{Ask, call_of, desk}
use Rattle.desk.proofs.Apart.{its_own, own_share, other_share, same_length}
use Rattle.memory.specs.Hear.{blank}
use Rattle.memory.specs.Calls.{FrameCall, calls_done}
use Rattle.memory.specs.Brought.{unnoted}
use Rattle.memory.proofs.Kept.{Kept, kept_of, kept_in, kept, kept_behind}
use Rattle.memory.proofs.Calls.{Remembers, remembers, opens}
use Rattle.isolation.specs.Run.{On, State, record_at, after, ended, desks}
use Rattle.isolation.specs.Numbering.{replied, calls_in, Unopened, opening_of, Opened}
use Rattle.isolation.proofs.Runs.{record_after, store_after}

module _ (n s : ℕ) (inside : s < n) where
  abbrev pub share : State → List Float
  share st = get (share_of s) st.store

  abbrev pub Whole : State → Type 0
  Whole st = length st.store ≡ n * SHARE

  pub fits : (st : State) → Whole st → length (share st) ≡ SHARE
  fits st l = length_get (share_of s) st.store (omega arith)

  pub kept_whole : (st : State) → Whole st → (c : On Ask) → Whole (after desks n st c)
  kept_whole st l c =
      rw (store_after n st c) (same_length n c.side (record_at c.side st) st.store c.call l ∙ l)

  -- ---- one call

  -- a call on side s is the bench's own
  module _ (st : State) (l : Whole st) (c : On Ask) (e : c.side ≡ s) where
    abbrev pub lone : Effect Answer
    lone = desk 1 0 (record_at s st) (share st) c.call

    own : share (after desks n st c) ≡ lone.kept
    own = rw (store_after n st c, e) (own_share n s (record_at s st) st.store c.call l inside)

    answers : (desk n c.side (record_at c.side st) st.store c.call).answer ≡ lone.answer
    answers = rw e (ap (λ (o : Effect Answer). o.answer) (its_own n s (record_at s st) st.store c.call l inside))

    pub replies : replied n st c ≡ lone.answer.reply
    replies = ap (λ (a : Answer). a.reply) answers

    recorded : record_at s (after desks n st c) ≡ lone.answer.rec
    recorded = rw (record_after n s st c, eq-eqb c.side s e) (ap (λ (a : Answer). a.rec) answers)

    pub kept_then : kept_in (record_at s (after desks n st c)) (share (after desks n st c))
        ≡ kept_in lone.answer.rec lone.kept
    kept_then = ap₂ kept_in recorded own

  -- what side s keeps, and the calls of its frame that a call on any side is made of
  abbrev pub kept_at : State → Kept
  kept_at st = kept_in (record_at s st) (share st)

  abbrev pub calls : State → On Ask → List FrameCall
  calls st c = cond (eqb c.side s) (calls_done (record_at s st) (share st) c.call (replied n st c)) []

  module _ (st : State) (l : Whole st) (c : On Ask) where
    pub own_calls : (e : c.side ≡ s)
        → calls st c ≡ calls_done (record_at s st) (share st) c.call (lone st l c e).answer.reply
    own_calls e = rw (eq-eqb c.side s e, replies st l c e)

    pub own_moves : (e : c.side ≡ s) → Remembers (record_at s st) (share st) c.call (lone st l c e)
        → kept_at (after desks n st c) ≡ kept (kept_at st) (calls st c)
    own_moves e r = kept_then st l c e ∙ r.keeps ∙ ap (kept (kept_at st)) (sym (own_calls e))

    pub other_moves : eqb c.side s ≡ false → kept_at (after desks n st c) ≡ kept (kept_at st) (calls st c)
    unfolding kept
    other_moves f =
        let same : share (after desks n st c) ≡ share st =
        rw (store_after n st c) (other_share n c.side (record_at c.side st) st.store c.call l s
        (eqb-false c.side s f)) in
        let rec : record_at s (after desks n st c) ≡ record_at s st = rw (record_after n s st c, f) in
        let none : calls st c ≡ [] = rw f in
        ap₂ kept_in rec same ∙ ap (kept (kept_at st)) (sym none)

    pub one : (c.side ≡ s → call_of c.call ≡ 0 → passed (replied n st c) ≡ false)
        → kept_at (after desks n st c) ≡ kept (kept_at st) (calls st c)
    one shut = go (eqb c.side s) refl
      where
        go : (t : Bool) → eqb c.side s ≡ t → kept_at (after desks n st c) ≡ kept (kept_at st) (calls st c)
        go true f =
            let e = eqb-true c.side s f in
            own_moves e (remembers (record_at s st) (share st) (fits st l) c.call (rw (replies st l c e) at (shut e)))
        go false f = other_moves f

  -- ---- any run

  pub run : (cs : List (On Ask)) (st : State) → Whole st → Unopened n s st cs
      → kept_at (ended desks n st cs) ≡ kept (kept_at st) (calls_in n s st cs)
  unfolding ended calls_in Unopened kept
  run [] st l u = refl
  run (c ∷ cs) st l u =
      let next = after desks n st c in
      run cs next (kept_whole st l c) u.1
      ∙ ap (λ (k : Kept). kept k (calls_in n s next cs)) (one st l c u.0)
      ∙ sym (kept_behind (kept_at st) (calls st c) (calls_in n s next cs))

  pub fresh : (st : State) → Opened n s st → (kept_at st ≡ kept_of blank unnoted 0 0) × Whole st
  fresh st k =
      let was = k.before in
      let c = opening_of s k.way k.model in
      let o = opens (record_at s was) (share was) (fits was k.sized) k.way k.model
      (ap passed (sym (replies was k.sized c refl)) ∙ k.opens) in
      rw (← k.now) (kept_then was k.sized c refl ∙ o.forgets, kept_whole was k.sized c)
