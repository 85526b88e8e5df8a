-- Runs of calls of any kind on n benches of one store, and what one bench receives in a run. The desk's own calls are
-- one kind; other kinds are made of them.
use Rattle.std.specs.Prelude.{◌&&◌, ◌∷◌, ◌++◌, ◌≡◌}
use Rattle.rules.specs.Common.{ℕ, cond, List, [], map, eqb, Float}
use Rattle.frame.specs.Effect.{Effect}
use Rattle.frame.specs.Written.{Written}
use Rattle.desk.specs.Answer.{Answer}
use Rattle.desk.specs.declared.Record.{Record}
use Rattle.desk.specs.Desk.{Ask}
use Rattle.desk.specs.Surface.{record_in, reply_number, handed_back, hosted}

-- What a host receives of a call.
pub record Returned : Type 0 where
  -- The number returned.
  pub number : ℕ
  -- The bench's record, as twelve numbers.
  pub numbers : List ℕ
  -- What was written to each lent buffer.
  pub written : List Written

-- What a host receives of a call on this bench, which had these numbers as its record. A refused call leaves the record
-- unchanged.
abbrev pub returned : ℕ → List ℕ → Effect Answer → Returned
returned side ns o =
    record { number = reply_number o.answer.reply; numbers = handed_back side o.answer ns; written = o.written }

-- A kind of calls: what a call gives on one of n benches, with the bench's record and the store.
abbrev pub Kind : Type 0 → Type 0
Kind C = ℕ → ℕ → List ℕ → List Float → C → Effect Answer

-- A call on a bench.
pub record On (C : Type 0) : Type 0 where
  -- The bench.
  pub side : ℕ
  -- The call.
  pub call : C

-- A call on this bench.
abbrev pub on : {C : Type 0} → ℕ → C → On C
on side call = record { side = side; call = call }

-- The records and the store between two calls. Only calls change them.
pub record State : Type 0 where
  -- The record of each bench, as it was last received.
  pub numbers : ℕ → List ℕ
  -- The store of all benches.
  pub store : List Float

-- The record of bench s.
abbrev pub record_at : ℕ → State → Record
record_at s st = record_in s (st.numbers s)

module _ {C : Type 0} (serve : Kind C) (n : ℕ) where
  -- What a call gives in a state.
  abbrev pub given : State → On C → Effect Answer
  given st c = serve n c.side (st.numbers c.side) st.store c.call

  -- What a host receives of a call in a state.
  abbrev pub gets : State → On C → Returned
  gets st c = returned c.side (st.numbers c.side) (given st c)

  -- The state after a call: its bench has a new record, and the store is what the call left.
  abbrev pub after : State → On C → State
  after st c =
      record { numbers = λ s. cond (eqb c.side s) (gets st c).numbers (st.numbers s); store = (given st c).kept }

  -- The state at the end of a run.
  unfoldable pub ended : State → List (On C) → State
  ended st [] = st
  ended st (c ∷ cs) = ended (after st c) cs

  -- What bench s receives in a run, call by call.
  unfoldable pub received : ℕ → State → List (On C) → List Returned
  received s st [] = []
  received s st (c ∷ cs) = let rest = received s (after st c) cs in cond (eqb c.side s) (gets st c ∷ rest) rest

  -- The calls of bench s in a run that return 0, in order.
  unfoldable pub done : ℕ → State → List (On C) → List C
  done s st [] = []
  done s st (c ∷ cs) =
      let rest = done s (after st c) cs in cond (eqb c.side s && eqb (gets st c).number 0) (c.call ∷ rest) rest

-- ---- the desk's calls, and what is made of them

-- The desk's own calls are a kind.
abbrev pub desks : Kind Ask
desks = hosted

-- The calls of the desk that a call is made of. They are all on its bench.
abbrev pub Made : Type 0 → Type 0
Made C = ℕ → ℕ → Record → List Float → C → List Ask

module _ {C : Type 0} (serve : Kind C) (asksOf : Made C) (n : ℕ) where
  -- A run with each call replaced by the desk's calls that it is made of.
  unfoldable pub expand : State → List (On C) → List (On Ask)
  expand st [] = []
  expand st (c ∷ cs) =
      map (on c.side) (asksOf n c.side (record_at c.side st) st.store c.call)
      ++ expand (after serve n st c) cs

  -- A run ends in the same state as the run of the desk's calls that it is made of. So what holds for any run of the
  -- desk's calls holds for any run of this kind.
  abbrev pub Expands : Type 0
  Expands = (st : State) (calls : List (On C)) → ended serve n st calls ≡ ended desks n st (expand st calls)
