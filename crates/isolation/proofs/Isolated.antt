-- The law of isolation, once over the kind of calls and the number of benches.
--     beside         a call leaves every other share
--     in-any-run     in any run, what a side receives is what its own record, share and calls alone give
--     closed_same    from closed, what the share held is never received
--     named          another bench of the same side receives the same, but for the bench's number in its record
--     isolated, undisturbed     the two laws, of a kind of calls that is owned
--     owned-is-apart            what specs/Isolation.antt claims
-- Assumes nothing.
use Rattle.std.specs.Prelude.{◌+◌, ◌*◌, ◌<◌, ◌∷◌, ◌≡◌}
use Rattle.rules.proofs.Common.{ℕ, Bool, true, false, cond, List, [], map, refl, sym, ap, ap₂}
use Rattle.rules.proofs.Common.{◌∙◌, eqb, ltb, length, Float}
use native.Mathlib.Omega.{arith}
use mathlib.Core.Logic.{◌⊎◌, inl, inr, ⊎_elim}
use borrow.Author.Tests.{ne_eqb, eq-eqb, eqb-true, eqb-false, ltb-true, ltb-false}
use Rattle.rules.specs.F32.{zeros}
use Rattle.rules.specs.Place.{get}
use Rattle.rules.proofs.Places.{length_get, length_put, get_put, get_put_apart}
use Rattle.frame.specs.Effect.{Effect}
use Rattle.frame.specs.Reply.{passed}
use Rattle.frame.specs.Share.{SHARE}
use Rattle.frame.specs.declared.Hearing.{Hearing}
use Rattle.desk.specs.Answer.{Answer}
use Rattle.desk.specs.declared.Record.{Record}
use Rattle.desk.specs.Gate.{side_of, share_of, way_number}
use Rattle.desk.specs.Desk.{closed}
use Rattle.desk.specs.Surface.{numbers_of, record_in, reply_number, handed_back}
use Rattle.desk.specs.Laws.{placed}
use Rattle.desk.proofs.Apart.{apart}
use Rattle.isolation.specs.Run.{Returned, returned, Kind, On, on, State, record_at, given, gets, after, received}
use Rattle.isolation.specs.Isolation.{of_bench, as_bench, all_zeros, own, alone, Isolated, Undisturbed, Owned}
use Rattle.isolation.specs.Isolation.{OwnedIsApart}
use Rattle.isolation.proofs.Performed.{lonely, sized, its_own, no_side, unseen}
use Rattle.isolation.proofs.Runs.{reads}

-- the numbers of a record as bench k has them, as bench s has them
of_bench_lem : (s k : ℕ) (rec : Record) → of_bench s (numbers_of k rec) ≡ numbers_of s rec
of_bench_lem s k rec = go (eqb rec.due 0)
  where
    h : Hearing
    h = rec.hearing

    -- with this as the last number
    ending : ℕ → List ℕ
    ending j =
        rec.due ∷ h.index ∷ h.vad ∷ h.noise ∷ h.denoise ∷ rec.frame ∷ rec.heard ∷ rec.waiting ∷ rec.piece
        ∷ rec.progress ∷ way_number h.way ∷ j ∷ []

    go : (t : Bool) → ending (cond (eqb (cond t 0 (k + 1)) 0) 0 (s + 1)) ≡ ending (cond t 0 (s + 1))
    go true = refl
    go false = rw (ne_eqb (k + 1) 0 (λ z. omega arith))

module _ {C : Type 0} (serve : Kind C) (owned : Owned serve) where
  -- ---- one call

  -- what a call makes of a bench's side, its own record and its own share
  abbrev pub alone_does : ℕ → Record → List Float → C → Effect Answer
  alone_does side rec xs c = lonely side rec xs (owned.local c)

  mine : (n s : ℕ) (ns : List ℕ) (store : List Float) (c : C) → s < n → length store ≡ n * SHARE
      → serve n s ns store c ≡ placed s store (alone_does (side_of s) (record_in s ns) (get (share_of s) store) c)
  mine n s ns store c h l = owned.does n s ns store c ∙ its_own (owned.local c) n s store h l (record_in s ns)

  kept : (side : ℕ) (rec : Record) (xs : List Float) (c : C) → length xs ≡ SHARE
      → length (alone_does side rec xs c).kept ≡ SHARE
  kept side rec xs c l = sized (owned.local c) side rec xs l

  -- every other share stays, and the length of the store
  pub beside : (n side : ℕ) (ns : List ℕ) (store : List Float) (c : C) → length store ≡ n * SHARE
      → (length (serve n side ns store c).kept ≡ n * SHARE)
      × ((s : ℕ) → (side ≡ s → ⊥) → get (share_of s) (serve n side ns store c).kept ≡ get (share_of s) store)
  beside n side ns store c l = go (ltb side n) refl
    where
      go : (t : Bool) → ltb side n ≡ t
          → (length (serve n side ns store c).kept ≡ n * SHARE)
          × ((s : ℕ) → (side ≡ s → ⊥) → get (share_of s) (serve n side ns store c).kept ≡ get (share_of s) store)
      go true e =
          let h = ltb-true side n e in
          let xs = get (share_of side) store in
          let left = (alone_does (side_of side) (record_in side ns) xs c).kept in
          let k = kept (side_of side) (record_in side ns) xs c (length_get (share_of side) store (omega arith)) in
          rw (mine n side ns store c h l) (
            length_put (share_of side) store left (omega arith) k ∙ l,
            λ s ne. get_put_apart (share_of side) (share_of s) store left (omega arith) k (apart side s ne),
          )
      go false e =
          let o : (serve n side ns store c).kept ≡ store =
          ap (λ (g : Effect Answer). g.kept) (owned.does n side ns store c)
          ∙ no_side (owned.local c) n side (ltb-false side n e) (record_in side ns) store in
          rw o (l, λ s ne. refl)

  -- what the share of a closed side held is not told
  record Alike (s : ℕ) (ns : List ℕ) (o u : Effect Answer) : Type 0 where
    back : returned s ns o ≡ returned s ns u
    store : (o.kept ≡ u.kept) ⊎ ((record_in s (returned s ns o).numbers).due ≡ 0)

  untold : (s : ℕ) (ns : List ℕ) (xs ys : List Float) (c : C) → (record_in s ns).due ≡ 0
      → Alike s ns (alone_does (side_of s) (record_in s ns) xs c) (alone_does (side_of s) (record_in s ns) ys c)
  untold s ns xs ys c z =
      let a = unseen (owned.local c) (side_of s) (record_in s ns) xs ys z in
      record {
        back = rw (a.answer, a.written);
        store = ⊎_elim (λ e. inl e) (λ d. inr (shut (passed o.answer.reply) d)) a.store;
      }
    where
      o : Effect Answer
      o = alone_does (side_of s) (record_in s ns) xs c

      shut : (t : Bool) → o.answer.rec.due ≡ 0 → (record_in s (cond t (numbers_of s o.answer.rec) ns)).due ≡ 0
      shut true d = rw (reads s o.answer.rec) d
      shut false d = z

  -- ---- any run

  -- what bench s receives, from its record and share
  unfoldable pub lone : ℕ → List ℕ → List Float → List C → List Returned
  lone s ns xs [] = []
  lone s ns xs (c ∷ more) = let o = alone_does (side_of s) (record_in s ns) xs c in let r = returned s ns o in
      r ∷ lone s r.numbers o.kept more

  -- and what comes after a call
  abbrev pub next : ℕ → List C → List ℕ → Effect Answer → List Returned
  next s more ns o = let r = returned s ns o in r ∷ lone s r.numbers o.kept more

  module _ (n s : ℕ) (h : s < n) where
    pub in_any_run : (cs : List (On C)) (st : State) → length st.store ≡ n * SHARE
        → received serve n s st cs ≡ lone s (st.numbers s) (get (share_of s) st.store) (own s cs)
    unfolding received own lone
    in_any_run [] st l = refl
    in_any_run (c ∷ cs) st l =
        let b = beside n c.side (st.numbers c.side) st.store c.call l in
        go (eqb c.side s) refl (b.1 s) (in_any_run cs (after serve n st c) b.0)
      where
        go : (t : Bool) → eqb c.side s ≡ t
            → ((c.side ≡ s → ⊥) → get (share_of s) (after serve n st c).store ≡ get (share_of s) st.store)
            → received serve n s (after serve n st c) cs
            ≡ lone s ((after serve n st c).numbers s) (get (share_of s) (after serve n st c).store) (own s cs)
            → received serve n s st (c ∷ cs) ≡ lone s (st.numbers s) (get (share_of s) st.store) (own s (c ∷ cs))
        go true e others rest =
            let same = eqb-true c.side s e in
            let xs = get (share_of s) st.store in
            let k = kept (side_of s) (record_at s st) xs c.call (length_get (share_of s) st.store (omega arith)) in
            let one = alone_does (side_of s) (record_at s st) xs c.call in
            let here : given serve n st c ≡ placed s st.store one =
            rw same (mine n s (st.numbers s) st.store c.call h l) in
            let share : get (share_of s) (given serve n st c).kept ≡ one.kept =
            ap (λ (g : Effect Answer). get (share_of s) g.kept) here
            ∙ get_put (share_of s) st.store one.kept (omega arith) k in
            let told : gets serve n st c ≡ returned s (st.numbers s) one =
            ap (λ (k : ℕ). returned k (st.numbers k) (given serve n st c)) same
            ∙ ap (returned s (st.numbers s)) here in
            rw e
            (ap₂ {C = List Returned} (λ (x : Returned) (more : List Returned). x ∷ more) told
            ((rw e at rest) ∙ ap₂ (λ (r : Returned) (x : List Float). lone s r.numbers x (own s cs)) told share))
        go false e others rest =
            rw e ((rw e at rest) ∙ ap (λ (x : List Float). lone s (st.numbers s) x (own s cs))
            (others (eqb-false c.side s e)))

  -- ---- from closed

  closed_same : (cs : List C) (s : ℕ) (ns : List ℕ) (xs ys : List Float) → length xs ≡ SHARE → length ys ≡ SHARE
      → (record_in s ns).due ≡ 0
      → lone s ns xs cs ≡ lone s ns ys cs
  unfolding lone
  closed_same [] s ns xs ys l k z = refl
  closed_same (c ∷ more) s ns xs ys l k z =
      let o = alone_does (side_of s) (record_in s ns) xs c in
      let u = alone_does (side_of s) (record_in s ns) ys c in
      let like = untold s ns xs ys c z in
      ap₂ {C = List Returned} (λ (x : Returned) (rest : List Returned). x ∷ rest) like.back
      (⊎_elim
      (λ e. ap₂ (λ (r : Returned) (x : List Float). lone s r.numbers x more) like.back e)
      (λ d.
      closed_same more s (returned s ns o).numbers o.kept u.kept (kept (side_of s) (record_in s ns) xs c l)
      (kept (side_of s) (record_in s ns) ys c k) d
      ∙ ap (λ (r : Returned). lone s r.numbers u.kept more) like.back)
      like.store)

  -- ---- as another bench of the same side

  -- the record that comes back, as each bench of a side has it
  module _ (side : ℕ) (rec : Record) (xs : List Float) (c : C) where
    abbrev gives : Effect Answer
    gives = alone_does side rec xs c

    abbrev then : Record
    then = cond (passed gives.answer.reply) gives.answer.rec rec

    back : (k : ℕ) → handed_back k gives.answer (numbers_of k rec) ≡ numbers_of k then
    back k = go (passed gives.answer.reply)
      where
        go : (t : Bool) → cond t (numbers_of k gives.answer.rec) (numbers_of k rec)
            ≡ numbers_of k (cond t gives.answer.rec rec)
        go true = refl
        go false = refl

    gives_back : (k : ℕ) → side_of k ≡ side
        → returned k (numbers_of k rec) (alone_does (side_of k) (record_in k (numbers_of k rec)) xs c)
        ≡ record { number = reply_number gives.answer.reply; numbers = numbers_of k then; written = gives.written }
    gives_back k e = rw (e, reads k rec) (rw (back k))

  pub named : (cs : List C) (s k : ℕ) → side_of k ≡ side_of s → (rec : Record) (xs : List Float)
      → lone s (numbers_of s rec) xs cs ≡ map (as_bench s) (lone k (numbers_of k rec) xs cs)
  unfolding lone
  named [] s k same rec xs = refl
  named (c ∷ more) s k same rec xs =
      let o = gives (side_of s) rec xs c in
      let r = then (side_of s) rec xs c in
      let told : ℕ → Returned =
      λ j. record { number = reply_number o.answer.reply; numbers = numbers_of j r; written = o.written } in
      let from : (j : ℕ) → side_of j ≡ side_of s
      → lone j (numbers_of j rec) xs (c ∷ more) ≡ told j ∷ lone j (numbers_of j r) o.kept more =
      λ j e. ap₂ {C = List Returned} (λ (x : Returned) (left : List Float). x ∷ lone j x.numbers left more)
      (gives_back (side_of s) rec xs c j e)
      (ap₂ (λ (side : ℕ) (b : Record). (alone_does side b xs c).kept) e (reads j rec)) in
      from s refl
      ∙ ap₂ {C = List Returned} (λ (x : Returned) (rest : List Returned). x ∷ rest)
      (ap (λ (ns : List ℕ). record { number = reply_number o.answer.reply; numbers = ns; written = o.written })
      (sym (of_bench_lem s k r)))
      (named more s k same r o.kept)
      ∙ ap (map (as_bench s)) (sym (from k same))

  own_lonely : (s : ℕ) (cs : List C) → own s (map (on s) cs) ≡ cs
  unfolding own
  own_lonely s [] = refl
  own_lonely s (c ∷ more) = rw (eq-eqb s s refl) (ap (λ (xs : List C). c ∷ xs) (own_lonely s more))

  pub alone_lone : (s : ℕ) (cs : List C) → alone serve s cs ≡ lone s (numbers_of s closed) (zeros SHARE) cs
  unfolding alone record_in
  alone_lone s cs =
      let k = side_of s in
      let two = zeros (2 * SHARE) in
      let low : k < 2 = omega arith in
      let same : side_of k ≡ side_of s = omega arith in
      ap (map (as_bench s))
      (in_any_run 2 k low (map (on k) cs) (all_zeros two) refl
      ∙ ap (lone k (numbers_of k closed) (get (share_of k) two)) (own_lonely k cs)
      ∙ closed_same cs k (numbers_of k closed) (get (share_of k) two) (zeros SHARE)
      (length_get (share_of k) two (omega arith)) refl refl)
      ∙ sym (named cs s k same closed (zeros SHARE))

  -- ---- what is claimed

  pub isolated : (n : ℕ) → Isolated serve n
  unfolding record_in
  isolated n s h store l calls =
      in_any_run n s h calls (all_zeros store) l
      ∙ closed_same (own s calls) s (numbers_of s closed) (get (share_of s) store) (zeros SHARE)
      (length_get (share_of s) store (omega arith)) refl refl
      ∙ sym (alone_lone s (own s calls))

  pub undisturbed : (n : ℕ) → Undisturbed serve n
  undisturbed n s h store store' l l' calls calls' e =
      isolated n s h store l calls ∙ ap (alone serve s) e ∙ sym (isolated n s h store' l' calls')

pub owned_is_apart : OwnedIsApart
owned_is_apart C serve owned n = (isolated serve owned n, undisturbed serve owned n)
