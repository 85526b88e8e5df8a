-- `tuppence_feed` meets its contract: it is a feed, and its answer is handed back as numbers. Assumes nothing.
use Rattle.std.specs.Prelude.{◌∷◌, ◌≡◌, Result}
use Rattle.rules.proofs.Common.{ℕ, List, [], ap₂, length, Float}
use Rattle.frame.specs.Effect.{WorkedBoth}
use Rattle.frame.specs.declared.answer.Told.{Told}
use Rattle.frame.specs.declared.answer.Cause.{Cause}
use Rattle.desk.specs.Answer.{answer_of}
use Rattle.desk.specs.declared.Record.{Record}
use Rattle.desk.specs.Gate.{BENCHES}
use Rattle.desk.specs.Surface.{record_in}
use Rattle.desk.specs.Surface as surface
use Rattle.feed.specs.Feed.{Block, block_of, feed}
use Rattle.feed.specs.Surface.{hosted_feed}
use Rattle.feed.proofs.Ranged.{feed_range, feed_seated}
use Rattle.export.specs.Private.{HandsBack}
use Rattle.export.proofs.Given.{Handed}
use Rattle.export.proofs.Given as any
use Rattle.export.proofs.of_feed.tuppence_feed.Goals as goal

-- the record as the code has it, and what the feed left
module _ (side : ℕ) (ns : List ℕ) (b : Record) (store : List Float) (block : Block) (model cleaned records : List ℕ)
    (answers : List Float)
    {store' : List Float} {cleaned' records' : List ℕ} {answers' : List Float}
    (given : Result (Told × Record) Cause)
    (read : b ≡ record_in side ns)
    (fed : WorkedBoth (feed BENCHES side b store block model (length cleaned) (length records) (length answers))
    (answer_of b given) store'
    (answers ∷ []) (answers' ∷ []) (cleaned ∷ records ∷ []) (cleaned' ∷ records' ∷ [])) where
  hands_back : HandsBack side ns (answer_of (record_in side ns) given)
  hands_back =
      any.hands_back side ns b given read
      (record {
        ranged = feed_range BENCHES side b store block model (length cleaned) (length records) (length answers);
        seated = feed_seated BENCHES side b store block model (length cleaned) (length records) (length answers);
      })
      fed.floats.answers

  handed : {number : ℕ} {ns' : List ℕ}
      → Handed side ns (record_in side ns) given number ns'
      → WorkedBoth (surface.handed side ns
      (hosted_feed BENCHES side ns store block model (length cleaned) (length records) (length answers)))
      (number, ns') store'
      (answers ∷ []) (answers' ∷ []) (cleaned ∷ records ∷ []) (cleaned' ∷ records' ∷ [])
  unfolding hosted_feed
  handed back =
      let h : Handed side ns b given _ _ = rw (← read) at back in
      rw (← read)
      (record {
        floats =
            record {
              answers = rw (← fed.floats.answers) (ap₂ (λ (n : ℕ) (ms : List ℕ). (n, ms)) h.0 h.1);
              keeps = fed.floats.keeps;
              writes = fed.floats.writes;
            };
        notes = fed.notes;
      })

pub hand_back-requires : goal.hand_back-requires
hand_back-requires c =
    let a = c.args in
    hands_back a.side _ _ a.store.now (block_of a.bytes.now a.format a.channels a.channel)
    a.model.now a.out.now a.records.now a.answers.now
    c.feed-given.result c.record_in.ensures c.feed-given.ensures

pub returns : goal.returns
returns c =
    let a = c.args in
    handed a.side _ _ a.store.now (block_of a.bytes.now a.format a.channels a.channel)
    a.model.now a.out.now a.records.now a.answers.now
    c.feed-given.result c.record_in.ensures c.feed-given.ensures c.hand_back.ensures
