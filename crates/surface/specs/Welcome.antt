-- A bench that was opened is never turned away: what is claimed. The proofs are in proofs/Welcome.antt.
--
-- A bench is opened, and then calls come on any benches in any order, refused ones among them. Whatever the others did,
-- and however long the bench has dictated, a call that hands it good samples is accepted, as long as call 1 is due: no
-- frame and no piece is under way. For a bench that makes frames, takes and feeds alone, call 1 is always due, and the
-- model that it was opened with suits it.
use Rattle.std.specs.Prelude.{◌*◌, ◌≤◌, ◌∷◌, ◌≡◌}
use Rattle.rules.specs.Common.{ℕ, true, List, length, Float}
use Rattle.samples.specs.Samples.{good}
use Rattle.frame.specs.declared.Way.{Way}
use Rattle.frame.specs.Reply.{passed}
use Rattle.pieces.specs.Pieces.{completes}
use Rattle.desk.specs.declared.Record.{Record}
use Rattle.desk.specs.Desk.{opening}
use Rattle.desk.specs.Surface.{hosted}
use Rattle.isolation.specs.Isolation.{own}
use Rattle.isolation.specs.Run.{On, on, State, record_at, ended}
use Rattle.feed.specs.Feed.{Block, block_size, samples_of}
use Rattle.surface.specs.Surface.{Call, ask, frame, take, feed, surface}
use Rattle.surface.specs.Between.{All}
use Rattle.surface.specs.Acceptance.{suits}

-- for a bench with this record: 1 to 4,096 good samples, and a model that suits it
pub record Fine (rec : Record) (x : List Float) (m : List ℕ) : Type 0 where
  pub some : 1 ≤ length x
  pub few : length x ≤ 4096
  pub sound : good x ≡ true
  pub suited : suits rec m ≡ true

-- a call that hands it such samples, with room for all that the frames give that they complete. Of a frame they are
-- 480, and none wait before them
pub data Fair (rec : Record) : Call → Type 0 where
  fair_frame : (x : List Float) (m : List ℕ) → Fine rec x m → length x ≡ 480 → rec.waiting ≡ 0
      → Fair rec (frame x m 480)
  fair_take : (x : List Float) (m : List ℕ) (o a : ℕ) → Fine rec x m
      → 480 * completes rec.waiting (length x) ≤ o → 3 * completes rec.waiting (length x) ≤ a
      → Fair rec (take x m o a)
  fair_feed : (b : Block) (m : List ℕ) (c e a : ℕ) → Fine rec (samples_of b) m
      → 960 * completes rec.waiting (block_size b) ≤ c
      → 8 * completes rec.waiting (block_size b) ≤ e → 3 * completes rec.waiting (block_size b) ≤ a
      → Fair rec (feed b m c e a)

-- so it is accepted, behind any run
abbrev pub NeverTurnedAway : Type 0
NeverTurnedAway =
    (n bench : ℕ) (st : State) (way : Way) (model : List ℕ)
    → passed (hosted n bench (st.numbers bench) st.store (opening way model)).answer.reply ≡ true
    → (calls : List (On Call))
    → let end = ended surface n st (on bench (ask (opening way model)) ∷ calls) in
    let rec = record_at bench end in
    rec.due ≡ 1 → (c : Call) → Fair rec c
    → passed (surface n bench (end.numbers bench) end.store c).answer.reply ≡ true

-- frames, takes and feeds
abbrev pub Entire : Call → Type 0
Entire (ask a) = ⊥
Entire (frame x m o) = Unit
Entire (take x m o a) = Unit
Entire (feed b m c e a) = Unit

-- a bench that makes no others, done or refused, is always ready for the next, with the model that it was opened with
abbrev pub AlwaysReady : Type 0
AlwaysReady =
    (n bench : ℕ) (st : State) (way : Way) (model : List ℕ)
    → passed (hosted n bench (st.numbers bench) st.store (opening way model)).answer.reply ≡ true
    → (calls : List (On Call)) → All Entire (own bench calls)
    → let rec = record_at bench (ended surface n st (on bench (ask (opening way model)) ∷ calls)) in (rec.due ≡ 1)
    × (suits rec model ≡ true)
