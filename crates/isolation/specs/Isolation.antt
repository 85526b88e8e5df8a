-- No bench ever hears another: in any run of calls, a bench receives exactly what its own calls would have given it
-- alone. The proof is in proofs/Isolated.antt.
-- At the start every record is all zeros, and the store has the published length and any content. Then calls come on
-- any benches in any order, refused calls among them. Nothing else touches the records and the store. The law holds for
-- every kind of calls in which a call is the gate, followed by a function of the bench's side, its own record and its
-- own share (`Owned`).
use Rattle.std.specs.Prelude.{◌+◌, ◌*◌, ◌<◌, ◌∷◌, ◌++◌, ◌≡◌}
use Rattle.rules.specs.Common.{ℕ, cond, List, [], map, eqb, length, take, get_or, Float}
use Rattle.rules.specs.F32.{zeros}
use Rattle.frame.specs.Share.{SHARE}
use Rattle.desk.specs.Gate.{side_of}
use Rattle.desk.specs.Desk.{closed}
use Rattle.desk.specs.Surface.{numbers_of, record_in}
use Rattle.isolation.specs.Local.{Local, performed}
use Rattle.isolation.specs.Run.{Returned, Kind, On, on, State, received}

-- The state at the start: a closed record for each bench, and a store with any content.
abbrev pub all_zeros : List Float → State
all_zeros store = record { numbers = λ s. numbers_of s closed; store = store }

-- The calls on bench s, in order.
unfoldable pub own : {C : Type 0} → ℕ → List (On C) → List C
own s [] = []
own s (c ∷ cs) = cond (eqb c.side s) (c.call ∷ own s cs) (own s cs)

-- A record of another bench as the same record of bench s. The last of the twelve numbers is the bench plus 1, or 0 for
-- a closed record; the other eleven do not depend on the bench.
abbrev pub of_bench : ℕ → List ℕ → List ℕ
of_bench s ns = take 11 ns ++ (cond (eqb (get_or ns 11 0) 0) 0 (s + 1) ∷ [])

-- What bench 0 received, as bench s would receive it: only the bench in the record differs.
abbrev pub as_bench : ℕ → Returned → Returned
as_bench s r = record { number = r.number; numbers = of_bench s r.numbers; written = r.written }

module _ {C : Type 0} (serve : Kind C) where
  -- What these calls give bench s when it is alone. They are made on a desk of two benches, one left and one right,
  -- whose store starts as zeros: by the bench of the same side as s. The other bench makes no call. Each record gets
  -- the number of bench s.
  unfoldable pub alone : ℕ → List C → List Returned
  alone s calls =
      map (as_bench s) (received serve 2 (side_of s) (all_zeros (zeros (2 * SHARE))) (map (on (side_of s)) calls))

  -- The law, for n benches: whatever else is called, bench s receives what its own calls alone give it.
  abbrev pub Isolated : ℕ → Type 0
  Isolated n =
      (s : ℕ) → s < n → (store : List Float) → length store ≡ n * SHARE
      → (calls : List (On C)) → received serve n s (all_zeros store) calls ≡ alone s (own s calls)

  -- It follows that two runs with the same calls on bench s give it the same, whatever else differs between them.
  abbrev pub Undisturbed : ℕ → Type 0
  Undisturbed n =
      (s : ℕ) → s < n → (store store' : List Float) → length store ≡ n * SHARE → length store' ≡ n * SHARE
      → (calls calls' : List (On C)) → own s calls ≡ own s calls'
      → received serve n s (all_zeros store) calls ≡ received serve n s (all_zeros store') calls'

  -- A kind of calls in which each call sees nothing but its own bench.
  pub record Owned : Type 0 where
    -- What a call does to its own bench.
    pub local : C → Local
    -- To serve the call is to do that, and nothing more.
    pub does : (n side : ℕ) (ns : List ℕ) (store : List Float) (c : C)
        → serve n side ns store c ≡ performed n side (record_in side ns) store (local c)

-- The law holds for every kind of calls that is owned, and for any number of benches.
abbrev pub OwnedIsApart : Type 1
OwnedIsApart = (C : Type 0) (serve : Kind C) → Owned serve → (n : ℕ) → Isolated serve n × Undisturbed serve n
