-- What a bench remembers: what is claimed. The proofs are in proofs/Memories.antt.
--
-- A bench remembers the gains last applied, the cepstra with their index, and the states of the three GRUs. After an
-- opening, this is what `hear` makes of the bench's heard frames, one after another: of their logarithms, normalised
-- band correlations, lags and models, and of nothing else (request 13). A silent frame, a refused call and another
-- bench's call leave it unchanged. No remembered gain is ever NaN, and after k heard frames each is at least its
-- earlier value multiplied k times by 0.6, rounded each time.
use Rattle.std.specs.Prelude.{◌*◌, ◌<◌, ◌∷◌, ◌≡◌}
use Rattle.rules.specs.Common.{ℕ, true, false, List, [], length, Float, le, is_nan}
use Rattle.rules.specs.F32.{◌⊗◌, at, f32}
use Rattle.rules.specs.Place.{get}
use Rattle.frame.specs.Reply.{Heard}
use Rattle.frame.specs.Share.{SHARE}
use Rattle.desk.specs.Gate.{share_of}
use Rattle.desk.specs.Desk.{Ask, call_of}
use Rattle.memory.specs.Hear.{Recalled, blank, heard_all, faded}
use Rattle.memory.specs.Brought.{recalled_in}
use Rattle.isolation.specs.Run.{Kind, On, State, record_at, after, ended, desks, Made, expand, Expands}
use Rattle.isolation.specs.Numbering.{replied, frames_heard, Unopened, Opened, Numbering}

-- What bench s remembers, in its share and in its record.
abbrev pub recalled : ℕ → State → Recalled
recalled s st = recalled_in (record_at s st).hearing.index (get (share_of s) st.store)

-- A call of the desk on bench s that does not hear anything leaves its memory unchanged, unless it is an opening.
abbrev pub SilentLeaves : ℕ → Type 0
SilentLeaves n =
    (s : ℕ) → s < n
    → (st : State) → length st.store ≡ n * SHARE
    → (c : On Ask) → c.side ≡ s → (call_of c.call ≡ 0 → ⊥)
    → ((voice energy : Float) → replied n st c ≡ Heard voice energy → ⊥)
    → recalled s (after desks n st c) ≡ recalled s st

-- For calls of any kind that is made of the desk's calls, on n benches.
module _ {C : Type 0} (serve : Kind C) (asksOf : Made C) (n : ℕ) where
  -- From an opening to the next, the memory of bench s is made of its heard frames alone.
  abbrev pub MadeOfHeard : Type 0
  MadeOfHeard =
      (s : ℕ) → s < n
      → (st : State) → Opened n s st
      → (calls : List (On C))
      → let asks = expand serve asksOf n st calls in
      Unopened n s st asks
      → recalled s (ended serve n st calls) ≡ heard_all blank (frames_heard n s st asks)

  -- A state that an opening of bench s and then any calls led to.
  pub record Since (s : ℕ) (st : State) : Type 0 where
    -- The state just after the opening.
    pub start : State
    -- It is one.
    pub opened : Opened n s start
    -- The calls since then.
    pub calls : List (On C)
    -- They led to this state.
    pub led : ended serve n start calls ≡ st

  -- After k more heard frames, from one call or from many, each gain is at least 0.6 times itself, k times. With no
  -- heard frame the memory is unchanged.
  abbrev pub Faded : Type 0
  Faded =
      (s : ℕ) → s < n → (st : State) → Since s st
      → (calls : List (On C))
      → let asks = expand serve asksOf n st calls in
      Unopened n s st asks
      → let k = length (frames_heard n s st asks) in
      let last = recalled s (ended serve n st calls) in
      ((i : ℕ) → i < 22 → le (faded k (at (recalled s st).gains i)) (at last.gains i) ≡ true)
      × (k ≡ 0 → last ≡ recalled s st)

  -- No remembered gain is ever NaN.
  abbrev pub NeverNan : Type 0
  NeverNan =
      (s : ℕ) → s < n → (st : State) → Since s st
      → (i : ℕ) → i < 22
      → is_nan (at (recalled s st).gains i) ≡ false

  -- One heard call of the desk: each gain is at least 0.6 times the one before. (0x3F19999A is 0.6.)
  abbrev pub HeardHolds : Type 0
  HeardHolds =
      (s : ℕ) → s < n → (st : State) → Since s st
      → (c : On Ask) → c.side ≡ s
      → (voice energy : Float) → replied n st c ≡ Heard voice energy
      → (i : ℕ) → i < 22
      → le (f32 0x3F19999A ⊗ at (recalled s st).gains i) (at (recalled s (after desks n st c)).gains i) ≡ true

  -- All of these together.
  abbrev pub Counts : Type 0
  Counts = Numbering serve asksOf n × MadeOfHeard × Faded × NeverNan × HeardHolds

-- A call of the desk is made of itself.
abbrev pub itself : Made Ask
itself n side rec store a = a ∷ []

-- All of these for runs of the desk's own calls.
abbrev pub DeskCounts : ℕ → Type 0
DeskCounts n = Counts desks itself n

-- All of these for every kind of calls that is made of the desk's, and for any number of benches.
abbrev pub ExpandedCounts : Type 1
ExpandedCounts = (C : Type 0) (serve : Kind C) (asksOf : Made C) (n : ℕ) → Expands serve asksOf n
    → Counts serve asksOf n
