-- A record belongs to its bench: what is claimed. The proof is in proofs/Owner.antt.
--
-- A bench is opened, and then calls come on any benches in any order. If its record is handed in for another bench, the
-- call is refused with 2, whatever is asked and whatever the store holds: the record and the store stay as they are,
-- and nothing is written.
use Rattle.std.specs.Prelude.{◌<◌, ◌∷◌, ◌≡◌}
use Rattle.rules.specs.Common.{ℕ, true, List, Float}
use Rattle.frame.specs.declared.Way.{Way}
use Rattle.frame.specs.Effect.{refusal}
use Rattle.frame.specs.Reply.{passed}
use Rattle.desk.specs.Desk.{opening}
use Rattle.desk.specs.Surface.{handed, hosted}
use Rattle.isolation.specs.Run.{On, on, State, ended}
use Rattle.surface.specs.Surface.{Call, ask, surface}

abbrev pub OnlyItsOwn : Type 0
OnlyItsOwn =
    (n bench : ℕ) (st : State) (way : Way) (model : List ℕ)
    → passed (hosted n bench (st.numbers bench) st.store (opening way model)).answer.reply ≡ true
    → (calls : List (On Call))
    → let ns = (ended surface n st (on bench (ask (opening way model)) ∷ calls)).numbers bench in
    (side : ℕ) → side < n → (side ≡ bench → ⊥) → (store : List Float) (c : Call)
    → handed side ns (surface n side ns store c) ≡ refusal (2, ns) store
