-- `tuppence_take` meets its contract: it is a take of `whole`, and its answer is handed back as numbers.
-- Assumes nothing.
use Rattle.std.specs.Prelude.{◌∷◌, ◌≡◌, Result}
use Rattle.rules.proofs.Common.{ℕ, List, [], ap₂, length, Float}
use Rattle.frame.specs.Effect.{Worked}
use Rattle.frame.specs.declared.answer.Told.{Told}
use Rattle.frame.specs.declared.answer.Cause.{Cause}
use Rattle.desk.specs.Answer.{answer_of}
use Rattle.desk.specs.declared.Record.{Record}
use Rattle.desk.specs.Gate.{BENCHES}
use Rattle.desk.specs.Surface.{record_in}
use Rattle.desk.specs.Surface as surface
use Rattle.whole.specs.Whole.{take}
use Rattle.whole.specs.Surface.{hosted_take}
use Rattle.whole.proofs.Ranged.{take_range, take_seated}
use Rattle.export.specs.Private.{HandsBack}
use Rattle.export.proofs.Given.{Handed}
use Rattle.export.proofs.Given as any
use Rattle.export.proofs.of_whole.tuppence_take.Goals as goal

-- the record as the code has it, and what the take left
module _ (side : ℕ) (ns : List ℕ) (b : Record) (store samples : List Float) (model : List ℕ) (out answers : List Float)
    {store' : List Float} {left : List (List Float)} (given : Result (Told × Record) Cause)
    (read : b ≡ record_in side ns)
    (took : Worked (take BENCHES side b store samples model (length out) (length answers)) (answer_of b given) store'
    (out ∷ answers ∷ []) left) where
  hands_back : HandsBack side ns (answer_of (record_in side ns) given)
  hands_back =
      any.hands_back side ns b given read
      (record {
        ranged = take_range BENCHES side samples model b store (length out) (length answers);
        seated = take_seated BENCHES side samples model b store (length out) (length answers);
      })
      took.answers

  handed : {number : ℕ} {ns' : List ℕ}
      → Handed side ns (record_in side ns) given number ns'
      → Worked (surface.handed side ns (hosted_take BENCHES side ns store samples model (length out) (length answers)))
      (number, ns') store' (out ∷ answers ∷ []) left
  unfolding hosted_take
  handed back =
      let h : Handed side ns b given _ _ = rw (← read) at back in
      rw (← read)
      (record {
        answers = rw (← took.answers) (ap₂ (λ (n : ℕ) (ms : List ℕ). (n, ms)) h.0 h.1);
        keeps = took.keeps;
        writes = took.writes;
      })

pub hand_back-requires : goal.hand_back-requires
hand_back-requires c =
    let a = c.args in
    hands_back a.side _ _ a.store.now a.piece.now a.model.now a.out.now a.answers.now
    c.take-given.result c.record_in.ensures c.take-given.ensures

pub returns : goal.returns
returns c =
    let a = c.args in
    handed a.side _ _ a.store.now a.piece.now a.model.now a.out.now a.answers.now
    c.take-given.result c.record_in.ensures c.take-given.ensures
    c.hand_back.ensures
