-- A record belongs to its bench: what specs/Owner.antt claims.
--     Open, stays_open    in any run, the record of a bench that was opened has the bench's number
--     not-its-own         another bench reads it as out of range, and the gate says 2
-- Assumes nothing.
use Rattle.std.specs.Prelude.{◌+◌, ◌*◌, ◌<◌, ◌∷◌, ◌≡◌}
use Rattle.rules.proofs.Common.{ℕ, Bool, true, false, cond, not, List, [], refl, ap, ◌∙◌}
use Rattle.rules.proofs.Common.{eqb, length}
use native.Mathlib.Omega.{arith}
use borrow.Author.Tests.{ne_eqb, lt-ltb, eqb-true, eqb-false}
use Rattle.frame.specs.Reply.{passed}
use Rattle.frame.specs.Share.{SHARE}
use Rattle.desk.specs.declared.Record.{Record}
use Rattle.desk.specs.Gate.{in_range, gate}
use Rattle.desk.specs.Desk.{Ask, opening, record_of, no_hearing, desk}
use Rattle.desk.specs.Surface.{numbers_of, record_in, handed_back, handed, hosted}
use Rattle.desk.proofs.Ranged.{left_open}
use Rattle.isolation.specs.Local.{performed}
use Rattle.isolation.specs.Run.{On, on, State, after, ended, desks, expand}
use Rattle.isolation.proofs.Runs.{way_back}
use Rattle.surface.specs.Surface.{ask, surface, made_of}
use Rattle.surface.specs.Owner.{OnlyItsOwn}
use Rattle.surface.proofs.Surfaced.{owned}
use Rattle.surface.proofs.Expanded.{expands}

-- ---- the record of a bench that was opened

-- these are the numbers of an open record of the bench
record Open (bench : ℕ) (ns : List ℕ) : Type 0 where
  rec : Record
  numbers : ns ≡ numbers_of bench rec
  ajar : rec.due ≡ 0 → ⊥

module _ (n bench : ℕ) where
  -- behind a call of the bench that is done
  done_open : (st : State) (a : Ask) → passed (hosted n bench (st.numbers bench) st.store a).answer.reply ≡ true
      → Open bench (handed_back bench (hosted n bench (st.numbers bench) st.store a).answer (st.numbers bench))
  unfolding hosted
  done_open st a p =
      let rec = record_in bench (st.numbers bench) in
      record {
        rec = (desk n bench rec st.store a).answer.rec;
        numbers = rw p;
        ajar = left_open n bench rec st.store a p;
      }

  -- behind any call
  step : (st : State) (c : On Ask) → Open bench (st.numbers bench) → Open bench ((after desks n st c).numbers bench)
  unfolding hosted
  step st c o = go (eqb c.side bench) refl
    where
      own : c.side ≡ bench → (t : Bool)
          → passed (hosted n bench (st.numbers bench) st.store c.call).answer.reply ≡ t
          → Open bench (handed_back c.side (hosted n c.side (st.numbers c.side) st.store c.call).answer
          (st.numbers c.side))
      own e true p = rw e (done_open st c.call p)
      own e false p = rw (e, p) o

      go : (t : Bool) → eqb c.side bench ≡ t
          → Open bench
          (cond t (handed_back c.side (hosted n c.side (st.numbers c.side) st.store c.call).answer
          (st.numbers c.side)) (st.numbers bench))
      go true e =
          own (eqb-true c.side bench e)
          (passed (hosted n bench (st.numbers bench) st.store c.call).answer.reply) refl
      go false e = o

  stays_open : (cs : List (On Ask)) (st : State) → Open bench (st.numbers bench)
      → Open bench ((ended desks n st cs).numbers bench)
  unfolding ended
  stays_open [] st o = o
  stays_open (c ∷ cs) st o = stays_open cs (after desks n st c) (step st c o)

-- ---- on another bench

-- a record out of range, as such numbers are read
abbrev nobodys : Record
nobodys = record_of 5 no_hearing 0 0

not_its_own : (side bench : ℕ) (ns : List ℕ) → Open bench ns → (side ≡ bench → ⊥) → record_in side ns ≡ nobodys
unfolding record_in
not_its_own side bench ns o other =
    let b = o.rec in
    rw (
      o.numbers,
      (way_back b.hearing.way).0,
      ne_eqb b.due 0 o.ajar,
      ne_eqb (bench + 1) (side + 1) (λ e. other (omega arith)),
    )

shut : (n side len call : ℕ) → side < n → gate n side nobodys len call ≡ 2
unfolding gate in_range
shut n side len call inside = rw (lt-ltb side n inside) (go (eqb len (n * SHARE)))
  where
    go : (t : Bool) → ◌≡◌ {A = ℕ} (cond (not t) 2 2) 2
    go true = refl
    go false = refl

pub only_its_own : OnlyItsOwn
unfolding ended performed
only_its_own n bench st way model p calls side inside other store c =
    let first = on bench (ask (opening way model)) in
    let then = after surface n st first in
    let ns = (ended surface n then calls).numbers bench in
    let o : Open bench ns = rw (expands n then calls)
    (stays_open n bench (expand surface made_of n then calls) then (step_first (eqb bench bench) refl)) in
    let l = owned.local c in
    ap (handed side ns) (owned.does n side ns store c)
    ∙ ap (λ (b : Record). handed side ns (performed n side b store l)) (not_its_own side bench ns o other)
    ∙ rw (shut n side (length store) l.call inside)
  where
    step_first : (t : Bool) → eqb bench bench ≡ t
        → Open bench
        (cond t (handed_back bench (hosted n bench (st.numbers bench) st.store (opening way model)).answer
        (st.numbers bench)) (st.numbers bench))
    step_first true e = done_open n bench st (opening way model) p
    step_first false e = absurd (eqb-false bench bench e refl)
