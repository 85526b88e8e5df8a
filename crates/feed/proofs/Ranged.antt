-- What a feed gives a host that hands its record back as numbers.
--     feed_small, feed_range    a refused model's number and layer are small; where it is done, both records are in
--                               range
--     feed_leaves, entry_small  refused, it changes nothing; what specs/Laws.antt claims
-- Assumes nothing.
use Rattle.std.specs.Prelude.{◌+◌, ◌%◌, ◌<◌, ◌≡◌}
use Rattle.rules.proofs.Common.{ℕ, Bool, true, false, cond, true≢false, false≢true, List, refl}
use Rattle.rules.proofs.Common.{length, Float}
use native.Mathlib.Omega.{arith}
use lib.Ieee.{eq}
use Rattle.rules.specs.F32.{f32}
use Rattle.rules.proofs.Refusals.{by_rows}
use Rattle.frame.specs.Effect.{Effect, refusal}
use Rattle.frame.specs.Reply.{Refused}
use Rattle.desk.specs.Answer.{Answer}
use Rattle.frame.specs.Reply.{passed}
use Rattle.desk.specs.declared.Record.{Record}
use Rattle.desk.specs.Gate.{PIECE, side_of, in_range, gate}
use Rattle.desk.proofs.Replies.{SmallSeven}
use Rattle.whole.specs.Whole.{take}
use Rattle.whole.proofs.Ranged.{take_small, take_range, take_seated, take_by}
use Rattle.feed.specs.Feed.{Block, ROOM, block_size, samples_of, feed_rows, fed_by, feed}
use Rattle.feed.specs.Laws.{EntrySmall}

module _ (n side : ℕ) (rec : Record) (store : List Float) (b : Block) (model : List ℕ)
    (cleaned records answers : ℕ) where
  -- what holds of a refusal, and of what comes of the take, holds of a feed
  pub feed_by : (P : Effect Answer → Type 0) → ((r : ℕ) → P (refusal (record { reply = Refused r; rec = rec }) store))
      → P (fed_by (side_of side) rec.frame (take n side rec store (samples_of b) model ROOM answers))
      → P (feed n side rec store b model cleaned records answers)
  unfolding feed
  feed_by P bad good =
      by_rows (λ r. refusal (record { reply = Refused r; rec = rec }) store) _ P
      (feed_rows (gate n side rec (length store) PIECE) rec.waiting (block_size b) cleaned records answers) bad
      (λ _. good)

  pub feed_small : SmallSeven (feed n side rec store b model cleaned records answers).answer.reply
  feed_small =
      feed_by (λ o. SmallSeven o.answer.reply) (λ _. tt)
      (take_small n side (samples_of b) model rec store ROOM answers)

  pub feed_range : passed (feed n side rec store b model cleaned records answers).answer.reply ≡ true
      → (in_range rec ≡ true) × (in_range (feed n side rec store b model cleaned records answers).answer.rec ≡ true)
  feed_range =
      feed_by (λ o. passed o.answer.reply ≡ true → (in_range rec ≡ true) × (in_range o.answer.rec ≡ true))
      (λ _ q. absurd (false≢true q))
      (take_range n side (samples_of b) model rec store ROOM answers)

  pub feed_seated : passed (feed n side rec store b model cleaned records answers).answer.reply ≡ true → side < n
  feed_seated =
      feed_by (λ o. passed o.answer.reply ≡ true → side < n) (λ _ q. absurd (false≢true q))
      (take_seated n side (samples_of b) model rec store ROOM answers)

pub feed_leaves : (n side : ℕ) (rec : Record) (store : List Float) (b : Block) (model : List ℕ)
    (cleaned records answers : ℕ)
    → let o = feed n side rec store b model cleaned records answers in passed o.answer.reply ≡ false
    → o ≡ refusal (record { reply = o.answer.reply; rec = rec }) store
feed_leaves n side rec store b model cleaned records answers =
    feed_by n side rec store b model cleaned records answers
    (λ o. passed o.answer.reply ≡ false → o ≡ refusal (record { reply = o.answer.reply; rec = rec }) store)
    (λ _ _. refl)
    (take_by n side (samples_of b) model rec store ROOM answers
    (λ t. passed t.answer.reply ≡ false
    → fed_by (side_of side) rec.frame t ≡ refusal (record { reply = t.answer.reply; rec = rec }) store)
    (λ _ e. absurd (true≢false e))
    (λ _ _. refl))

pub entry_small : EntrySmall
entry_small frame j heard = go (eq heard (f32 0))
  where
    go : (t : Bool) → (frame + j) % 4294967296 + cond t 0 4294967296 < 8589934592
    go true = omega arith
    go false = omega arith
