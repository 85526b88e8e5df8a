-- What the law of isolation rests on: laws of one call, over the definition `desk` and any number of benches.
--     its_own         a call on a side is what a desk of one bench makes of it, with the side's share for its store
--     other_share     no other side's share changes
--     same_length     the store keeps its length
--     closed_alike    what the share of a closed side held is never told
--     anew            an opening that is done forgets the record and the share that it found
-- Assumes nothing.
use Rattle.std.specs.Prelude.{◌*◌, ◌≤◌, ◌<◌, ◌≡◌}
use Rattle.rules.proofs.Common.{ℕ, Bool, true, false, cond, false≢true, List, refl, sym, ap, ◌∙◌}
use Rattle.rules.proofs.Common.{eqb, ltb, length, Float}
use native.Mathlib.Omega.{arith}
use mathlib.Core.Logic.{◌⊎◌, inl, inr, ⊎_elim}
use borrow.Author.Tests.{ltb-true, ltb-false, eqb-true, ne_eqb}
use Rattle.rules.specs.Place.{get, put}
use Rattle.rules.proofs.Places.{Within, length_get, length_put, get_put, get_put_apart, put_get, get_whole, put_whole}
use Rattle.model.specs.Model.{read_of}
use Rattle.model.specs.Reading.{Reading, Good, Refused as Unread}
use Rattle.frame.specs.Share.{SHARE}
use Rattle.frame.specs.Effect.{Effect, refusal}
use Rattle.frame.specs.Reply.{passed}
use Rattle.frame.specs.Reply.{Refused}
use Rattle.frame.specs.declared.Way.{Way}
use Rattle.desk.specs.Answer.{Answer}
use Rattle.desk.specs.declared.Record.{Record}
use Rattle.desk.specs.Gate.{share_of, gate, in_range, all_zero, idle}
use Rattle.desk.specs.Desk.{Ask, opening, call1, call2, call2_own, call3, call4, first_half, second_half, piece}
use Rattle.desk.specs.Desk.{resume, call_of, closed, opened, on_share, admitted, desk}
pub use Rattle.desk.specs.Laws.{placed}
use Rattle.desk.specs.Laws.{SharesApart, ItsOwn, SameLength, OtherShare, AnsweredAlike, ClosedAlike, OpensAnew}
pub use Rattle.desk.proofs.Answered.{given_of}
use Rattle.desk.proofs.Kept.{admitted_kept}
use Rattle.desk.proofs.Turned.{through, gate_own, closed_opens}

-- ---- shares of two sides are apart

lt_or_ge : (a b : ℕ) → (a < b) ⊎ (b ≤ a)
lt_or_ge a b = go (ltb a b) refl
  where
    go : (t : Bool) → ltb a b ≡ t → (a < b) ⊎ (b ≤ a)
    go true e = inl (ltb-true a b e)
    go false e = inr (ltb-false a b e)

pub apart : SharesApart
apart a b ne = ⊎_elim (λ h. inl (omega arith)) (λ h. inr (omega arith)) (lt_or_ge a b)

-- ---- a desk of one bench, whose store is the share

module _ (b : Record) (xs : List Float) (ask : Ask) (l : length xs ≡ SHARE) where
  pub one_bench : desk 1 0 b xs ask ≡ given_of b ask (admitted b xs ask (gate 1 0 b SHARE (call_of ask)))
  unfolding desk
  one_bench = rw (l, get_whole xs SHARE l, put_whole xs SHARE l)

  pub one_length : length (desk 1 0 b xs ask).kept ≡ SHARE
  one_length = rw one_bench ((admitted_kept b xs ask (gate 1 0 b SHARE (call_of ask))).size l)

module _ (n side : ℕ) (b : Record) (store : List Float) (ask : Ask) (l : length store ≡ n * SHARE) where
  abbrev share : List Float
  share = get (share_of side) store

  abbrev after : List Float
  after = (desk n side b store ask).kept

  module _ (h : side < n) where
    within : Within (share_of side) store
    within = omega arith

    fits : length share ≡ SHARE
    fits = length_get (share_of side) store within

    asked : desk n side b store ask
        ≡ placed side store (given_of b ask (admitted b share ask (gate 1 0 b SHARE (call_of ask))))
    unfolding desk
    asked = rw (gate_own n side b (length store) (call_of ask) h l)

    its : desk n side b store ask ≡ placed side store (desk 1 0 b share ask)
    its = asked ∙ ap (placed side store) (sym (one_bench b share ask fits))

    stored : after ≡ put (share_of side) store (desk 1 0 b share ask).kept
    stored = ap (λ (o : Effect Answer). o.kept) its

    whole : length (desk 1 0 b share ask).kept ≡ SHARE
    whole = one_length b share ask fits

    pub own_share : get (share_of side) after ≡ (desk 1 0 b share ask).kept
    own_share = ap (get (share_of side)) stored ∙ get_put (share_of side) store (desk 1 0 b share ask).kept within whole

  -- no side of the desk
  pub no_side : n ≤ side → after ≡ store
  unfolding desk
  no_side h =
      let shut : gate n side b (length store) (call_of ask) ≡ 0 → ⊥ =
      λ z. omega (arith, (through n side b (length store) (call_of ask) z).0) in
      rw (ne_eqb (gate n side b (length store) (call_of ask)) 0 shut) (put_get (share_of side) store)

  long : length after ≡ length store
  long =
      ⊎_elim
      (λ h. ap length (stored h) ∙ length_put (share_of side) store (desk 1 0 b share ask).kept (within h) (whole h))
      (λ h. ap length (no_side h))
      (lt_or_ge side n)

  elsewhere : (s : ℕ) → (side ≡ s → ⊥) → get (share_of s) after ≡ get (share_of s) store
  elsewhere s ne =
      ⊎_elim
      (λ h. ap (get (share_of s)) (stored h)
      ∙ get_put_apart (share_of side) (share_of s) store (desk 1 0 b share ask).kept (within h) (whole h)
      (apart side s ne))
      (λ h. ap (get (share_of s)) (no_side h))
      (lt_or_ge side n)

pub its_own : ItsOwn
its_own n side b store ask l h = its n side b store ask l h

pub same_length : SameLength
same_length n side b store ask l = long n side b store ask l

pub other_share : OtherShare
other_share n side b store ask l s ne = elsewhere n side b store ask l s ne

-- ---- what a share held before an opening is never told

pub closed_alike : ClosedAlike
closed_alike b xs ys l k ask z = rw (one_bench b xs ask l, one_bench b ys ask k) (go (eqb number 0) refl)
  where
    number : ℕ
    number = gate 1 0 b SHARE (call_of ask)

    opens : (read : Reading) (w : Way) (m : List ℕ)
        → AnsweredAlike (given_of b (opening w m) (opened xs read)) (given_of b (opening w m) (opened ys read))
    opens (Good m) _ _ = record { answer = refl; written = refl; store = inl refl }
    opens (Unread n l) _ _ = record { answer = refl; written = refl; store = inr z }

    -- of a closed side only an opening gets through
    admit : (a : Ask) → call_of a ≡ 0 → AnsweredAlike (given_of b a (on_share b xs a)) (given_of b a (on_share b ys a))
    admit (opening w m) e = opens (read_of m) w m
    admit (call1 x w) e = absurd (omega arith)
    admit (call2 x g w s) e = absurd (omega arith)
    admit (call2_own x w s) e = absurd (omega arith)
    admit (call3 x g m o) e = absurd (omega arith)
    admit (call4 x o) e = absurd (omega arith)
    admit (first_half x s) e = absurd (omega arith)
    admit (second_half g m o) e = absurd (omega arith)
    admit (piece x o s) e = absurd (omega arith)
    admit (resume x g m o s) e = absurd (omega arith)

    go : (t : Bool) → eqb number 0 ≡ t
        → AnsweredAlike (given_of b ask (admitted b xs ask number)) (given_of b ask (admitted b ys ask number))
    go true e = rw e (admit ask (closed_opens 1 0 b SHARE (call_of ask) z (eqb-true number 0 e)))
    go false e = rw e (record { answer = refl; written = refl; store = inr z })

-- the closed record, too, gets through
pub anew : OpensAnew
unfolding gate in_range all_zero idle
anew b xs ys l k w m = rw (one_bench b xs (opening w m) l, one_bench closed ys (opening w m) k) (go (eqb number 0))
  where
    number : ℕ
    number = gate 1 0 b SHARE 0

    opens : (read : Reading) → read_of m ≡ read → passed (opened xs read).answer ≡ true
        → given_of b (opening w m) (opened xs read) ≡ given_of closed (opening w m) (opened ys read)
    opens (Good m) e h = rw e
    opens (Unread n l) e h = absurd (false≢true h)

    go : (t : Bool) → passed (cond t (opened xs (read_of m)) (refusal (Refused number) xs)).answer ≡ true
        → given_of b (opening w m) (cond t (opened xs (read_of m)) (refusal (Refused number) xs))
        ≡ given_of closed (opening w m) (admitted closed ys (opening w m) (gate 1 0 closed SHARE 0))
    go true h = opens (read_of m) refl h
    go false h = absurd (false≢true h)
