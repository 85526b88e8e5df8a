-- A call as its bench sees it: the gate, and then a function of the bench's side, its own record and its own share. It
-- can read and write nothing else.
use Rattle.std.specs.Prelude.{◌≡◌}
use Rattle.rules.specs.Common.{ℕ, cond, List, eqb, length, Float}
use Rattle.rules.specs.Place.{get}
use Rattle.frame.specs.Effect.{Effect, refusal}
use Rattle.frame.specs.Share.{SHARE}
use Rattle.frame.specs.Reply.{Refused}
use Rattle.desk.specs.Answer.{Answer}
use Rattle.desk.specs.declared.Record.{Record}
use Rattle.desk.specs.Gate.{side_of, gate, share_of}
use Rattle.desk.specs.Laws.{placed, AnsweredAlike}

-- A call that only sees its own bench. Of the bench's number its work gets the side alone, left or right.
pub record Local : Type 0 where
  -- The number of the call at the gate; 0 for an opening.
  pub call : ℕ
  -- What the call does with the bench's side, record and share once the gate lets it through.
  pub work : (side : ℕ) → Record → List Float → Effect Answer
  -- The work keeps the length of the share.
  pub sized : (side : ℕ) (rec : Record) (share : List Float)
      → length share ≡ SHARE → length (work side rec share).kept ≡ SHARE
  -- An opening of a closed bench answers the same whatever the share contains: the share may hold anything then.
  pub blind : call ≡ 0 → (side : ℕ) (rec : Record) (xs ys : List Float) → rec.due ≡ 0
      → AnsweredAlike (work side rec xs) (work side rec ys)

-- The work if the gate's number is 0; otherwise a refusal with that number, which changes nothing.
abbrev pub gated : Local → Record → ℕ → ℕ → List Float → Effect Answer
gated l rec number bench store =
    cond (eqb number 0) (placed bench store (l.work (side_of bench) rec (get (share_of bench) store)))
    (refusal (record { reply = Refused number; rec = rec }) store)

-- The call on one of n benches, with the bench's record and the store of all benches.
unfoldable pub performed : ℕ → ℕ → Record → List Float → Local → Effect Answer
performed n bench rec store l = gated l rec (gate n bench rec (length store) l.call) bench store
