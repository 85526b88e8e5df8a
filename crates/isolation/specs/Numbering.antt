-- Numbered frames (request 07): what is claimed. The proofs are in proofs/Numberings.antt.
-- After an opening, whatever calls follow on whatever benches, the record of a bench counts its finished frames and its
-- heard frames, both modulo 2^32, until it is opened again.
use Rattle.std.specs.Prelude.{◌+◌, ◌*◌, ◌%◌, ◌<◌, ◌∷◌, ◌++◌, ◌≡◌}
use Rattle.rules.specs.Common.{ℕ, true, false, cond, List, [], eqb, length}
use Rattle.rules.specs.Place.{get}
use Rattle.frame.specs.Reply.{passed, Reply}
use Rattle.frame.specs.Share.{SHARE}
use Rattle.frame.specs.declared.Way.{Way}
use Rattle.desk.specs.Gate.{share_of}
use Rattle.desk.specs.Desk.{Ask, opening, call_of, desk}
use Rattle.memory.specs.Hear.{HeardFrame}
use Rattle.memory.specs.Calls.{FrameCall, one, two, three, four, calls_done}
use Rattle.memory.specs.Brought.{unnoted, brought}
use Rattle.isolation.specs.Run.{Kind, On, on, State, record_at, after, ended, desks, Made, expand}

-- The reply to a call of the desk in a state.
abbrev pub replied : ℕ → State → On Ask → Reply
replied n st c = (desk n c.side (record_at c.side st) st.store c.call).answer.reply

-- The frame calls on bench s that are done in a run, in order.
unfoldable pub calls_in : ℕ → ℕ → State → List (On Ask) → List FrameCall
calls_in n s st [] = []
calls_in n s st (c ∷ cs) =
    cond (eqb c.side s) (calls_done (record_at s st) (get (share_of s) st.store) c.call (replied n st c)) []
    ++ calls_in n s (after desks n st c) cs

-- How many of them end a frame: the calls 4.
unfoldable pub frames_ended : List FrameCall → ℕ
frames_ended [] = 0
frames_ended (one ∷ cs) = frames_ended cs
frames_ended (two x lag ∷ cs) = frames_ended cs
frames_ended (three heard x logs m ∷ cs) = frames_ended cs
frames_ended (four ∷ cs) = frames_ended cs + 1

-- The frames that bench s hears in a run, in order, if no call 2 came before the run. (Their number does not depend on
-- that.)
abbrev pub frames_heard : ℕ → ℕ → State → List (On Ask) → List HeardFrame
frames_heard n s st cs = brought unnoted (calls_in n s st cs)

-- Bench s is not opened again in this run: every opening of it is refused.
unfoldable pub Unopened : ℕ → ℕ → State → List (On Ask) → Type 0
Unopened n s st [] = Unit
Unopened n s st (c ∷ cs) =
    (c.side ≡ s → call_of c.call ≡ 0 → passed (replied n st c) ≡ false) × Unopened n s (after desks n st c) cs

-- The opening of a bench.
abbrev pub opening_of : ℕ → Way → List ℕ → On Ask
opening_of side way model = on side (opening way model)

-- The state just after an opening of bench s, whatever call made it: by `Expands` any such call leaves what the desk's
-- own opening leaves.
pub record Opened (n s : ℕ) (st : State) : Type 0 where
  -- The state before the opening.
  pub before : State
  -- The store has its published length.
  pub sized : length before.store ≡ n * SHARE
  -- The way that the opening asks for.
  pub way : Way
  -- The model that the opening is lent.
  pub model : List ℕ
  -- The opening is done, not refused.
  pub opens : passed (replied n before (opening_of s way model)) ≡ true
  -- It led to this state.
  pub now : after desks n before (opening_of s way model) ≡ st

-- For calls of any kind that is made of the desk's calls, on n benches.
module _ {C : Type 0} (serve : Kind C) (asksOf : Made C) (n : ℕ) where
  -- Both counters of bench s at the end of a run since its opening.
  abbrev pub Numbering : Type 0
  Numbering =
      (s : ℕ) → s < n
      → (st : State) → Opened n s st
      → (calls : List (On C))
      → let asks = expand serve asksOf n st calls in
      let last = record_at s (ended serve n st calls) in
      Unopened n s st asks
      → (last.frame ≡ frames_ended (calls_in n s st asks) % 4294967296)
      × (last.heard ≡ length (frames_heard n s st asks) % 4294967296)
