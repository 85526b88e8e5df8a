-- What the law of isolation rests on: laws of any call that is the gate and a function of the bench's side, its own
-- record and its own share.
--     lonely, one-bench    such a call of a bench of a side, with the share for its store; on a desk of one bench it is
-- the call itself
--     its_own    on a bench it is what such a call makes of the bench's share
--     no-side    on none, the store stays
--     sized      the share keeps its length
--     unseen     what the share of a closed bench held is never told
-- Assumes nothing.
use Rattle.std.specs.Prelude.{◌*◌, ◌≤◌, ◌<◌, ◌≡◌}
use Rattle.rules.proofs.Common.{ℕ, Bool, true, false, cond, List, refl, eqb, length}
use Rattle.rules.proofs.Common.{Float}
use native.Mathlib.Omega.{arith}
use mathlib.Core.Logic.{inr}
use borrow.Author.Tests.{ne_eqb, eqb-true}
use Rattle.rules.specs.Place.{get}
use Rattle.rules.proofs.Places.{put_get, get_whole, put_whole}
use Rattle.frame.specs.Effect.{Effect, refusal}
use Rattle.frame.specs.Share.{SHARE}
use Rattle.frame.specs.Reply.{Refused}
use Rattle.desk.specs.Answer.{Answer}
use Rattle.desk.specs.declared.Record.{Record}
use Rattle.desk.specs.Gate.{side_of, gate, share_of}
use Rattle.desk.specs.Laws.{placed, AnsweredAlike}
use Rattle.desk.proofs.Turned.{through, gate_own, closed_opens}
use Rattle.isolation.specs.Local.{Local, performed}

-- a call of a bench of this side, whose store is its share
unfoldable pub lonely : ℕ → Record → List Float → Local → Effect Answer
lonely side b xs l =
    let number = gate 1 0 b SHARE l.call in
    cond (eqb number 0) (l.work side b xs) (refusal (record { reply = Refused number; rec = b }) xs)

module _ (l : Local) where
  pub one_bench : (b : Record) (xs : List Float) → length xs ≡ SHARE → performed 1 0 b xs l ≡ lonely 0 b xs l
  unfolding performed lonely
  one_bench b xs k = rw (k, get_whole xs SHARE k, put_whole xs SHARE k)

  pub sized : (side : ℕ) (b : Record) (xs : List Float) → length xs ≡ SHARE → length (lonely side b xs l).kept ≡ SHARE
  unfolding lonely
  sized side b xs k = go (eqb (gate 1 0 b SHARE l.call) 0)
    where
      go : (t : Bool)
          → length
          (cond t (l.work side b xs) (refusal (record { reply = Refused (gate 1 0 b SHARE l.call); rec = b })
          xs)).kept ≡ SHARE
      go true = l.sized side b xs k
      go false = k

  pub its_own : (n bench : ℕ) (store : List Float) → bench < n → length store ≡ n * SHARE → (b : Record)
      → performed n bench b store l ≡ placed bench store (lonely (side_of bench) b (get (share_of bench) store) l)
  unfolding performed lonely
  its_own n bench store h k b = rw (gate_own n bench b (length store) l.call h k)
      (go (eqb (gate 1 0 b SHARE l.call) 0))
    where
      go : (t : Bool)
          → let share = get (share_of bench) store in
          let answer : Answer = record { reply = Refused (gate 1 0 b SHARE l.call); rec = b } in
          cond t (placed bench store (l.work (side_of bench) b share)) (refusal answer store)
          ≡ placed bench store (cond t (l.work (side_of bench) b share) (refusal answer share))
      go true = refl
      go false = rw (put_get (share_of bench) store)

  pub no_side : (n bench : ℕ) → n ≤ bench → (b : Record) (store : List Float) → (performed n bench b store l).kept
      ≡ store
  unfolding performed
  no_side n bench h b store =
      let shut : gate n bench b (length store) l.call ≡ 0
      → ⊥ = λ z. omega (arith, (through n bench b (length store) l.call z).0) in
      rw (ne_eqb (gate n bench b (length store) l.call) 0 shut)

  pub unseen : (side : ℕ) (b : Record) (xs ys : List Float) → b.due ≡ 0
      → AnsweredAlike (lonely side b xs l) (lonely side b ys l)
  unfolding lonely
  unseen side b xs ys z = go (eqb number 0) refl
    where
      number : ℕ
      number = gate 1 0 b SHARE l.call

      go : (t : Bool) → eqb number 0 ≡ t
          → let answer : Answer = record { reply = Refused number; rec = b } in
          AnsweredAlike (cond t (l.work side b xs) (refusal answer xs))
          (cond t (l.work side b ys) (refusal answer ys))
      go true e = l.blind (closed_opens 1 0 b SHARE l.call z (eqb-true number 0 e)) side b xs ys z
      go false e = record { answer = refl; written = refl; store = inr z }
