-- Runs, of any kind of calls and of the desk's.
--     joined           one run after the other
--     reads            a record as numbers is read as itself, by its own bench
--     record-after     a side's record behind a call of the desk; store-after, the store
--     expanding        where each call is made of the desk's calls, any run is
-- Assumes nothing.
use Rattle.std.specs.Prelude.{◌∷◌, ◌++◌, ◌≡◌}
use Rattle.rules.proofs.Common.{ℕ, Bool, true, false, cond, List, [], map, refl, sym, ap, ◌∙◌, eqb, leb}
use borrow.Author.Tests.{eq-eqb, eqb-true}
use Rattle.frame.specs.Reply.{passed}
use Rattle.frame.specs.declared.Way.{Way}
use Rattle.frame.specs.declared.Way.TheVariants.{Own, Nnnoiseless}
use Rattle.desk.specs.Answer.{Answer}
use Rattle.desk.specs.declared.Record.{Record}
use Rattle.desk.specs.Desk.{Ask, desk}
use Rattle.desk.specs.Gate.{way_number}
use Rattle.desk.specs.Surface.{bench_number, numbers_of, way_in, record_in, handed_back, hosted}
use Rattle.desk.proofs.Kept.{refused_keeps}
use Rattle.isolation.specs.Run.{Kind, On, on, State, record_at, after, ended, desks, Made, expand, Expands}

pub joined : {C : Type 0} (serve : Kind C) (n : ℕ) (first rest : List (On C)) (st : State)
    → ended serve n st (first ++ rest) ≡ ended serve n (ended serve n st first) rest
unfolding ended
joined serve n [] rest st = refl
joined serve n (c ∷ first) rest st = joined serve n first rest (after serve n st c)

-- ---- the desk's calls

pub way_back : (w : Way) → (leb (way_number w) 1 ≡ true) × (way_in (way_number w) ≡ w)
way_back Own = (refl, refl)
way_back Nnnoiseless = (refl, refl)

pub reads : (s : ℕ) (b : Record) → record_in s (numbers_of s b) ≡ b
unfolding record_in
reads s b =
    let k = way_back b.hearing.way in
    let number = bench_number s b.due in
    rw (k.0, eq-eqb number number refl, k.1)

-- the record that is handed back, where a refusal leaves it
handed : (s : ℕ) (ns : List ℕ) (a : Answer) → (passed a.reply ≡ false → a.rec ≡ record_in s ns)
    → record_in s (handed_back s a ns) ≡ a.rec
unfolding record_in
handed s ns a keeps = go (passed a.reply) refl
  where
    go : (t : Bool) → passed a.reply ≡ t → record_in s (cond t (numbers_of s a.rec) ns) ≡ a.rec
    go true p = reads s a.rec
    go false p = sym (keeps p)

pub record_after : (n s : ℕ) (st : State) (c : On Ask)
    → record_at s (after desks n st c)
    ≡ cond (eqb c.side s) (desk n c.side (record_at c.side st) st.store c.call).answer.rec
    (record_at s st)
unfolding hosted
record_after n s st c = go (eqb c.side s) refl
  where
    ns : List ℕ
    ns = st.numbers c.side

    a : Answer
    a = (desk n c.side (record_in c.side ns) st.store c.call).answer

    own : record_in c.side (handed_back c.side a ns) ≡ a.rec
    own = handed c.side ns a (λ p. (refused_keeps n c.side (record_in c.side ns) st.store c.call p).0)

    go : (t : Bool) → eqb c.side s ≡ t
        → record_in s (cond t (handed_back c.side a ns) (st.numbers s)) ≡ cond t a.rec (record_at s st)
    go true e = ap (λ (k : ℕ). record_in k (handed_back c.side a ns)) (sym (eqb-true c.side s e)) ∙ own
    go false e = refl

pub store_after : (n : ℕ) (st : State) (c : On Ask)
    → (after desks n st c).store ≡ (desk n c.side (record_at c.side st) st.store c.call).kept
unfolding hosted
store_after n st c = refl

-- ---- calls that are made of them

module _ {C : Type 0} (serve : Kind C) (asksOf : Made C) (n : ℕ) where
  pub expanding : ((st : State) (side : ℕ) (c : C)
      → after serve n st (on side c)
      ≡ ended desks n st (map (on side) (asksOf n side (record_at side st) st.store c)))
      → Expands serve asksOf n
  unfolding ended expand
  expanding made st [] = refl
  expanding made st (c ∷ calls) =
      let first = map (on c.side) (asksOf n c.side (record_at c.side st) st.store c.call) in
      let rest = expand serve asksOf n (after serve n st c) calls in
      expanding made (after serve n st c) calls
      ∙ ap (λ (x : State). ended desks n x rest) (made st c.side c.call)
      ∙ sym (joined desks n first rest st)
