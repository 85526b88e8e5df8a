-- A feed, and any call: what specs/Acceptance.antt claims. Assumes nothing.
use Rattle.std.specs.Prelude.{◌*◌, ◌&&◌, ◌∷◌, ◌++◌, ◌≡◌}
use Rattle.rules.proofs.Common.{ℕ, Bool, true, false, not, List, [], refl, sym, ap, ◌∙◌, eqb}
use Rattle.rules.proofs.Common.{leb, length, Float}
use Rattle.rules.specs.Place.{get}
use Rattle.rules.specs.Refusals.{◌when◌, refusing}
use Rattle.samples.specs.Samples.{good}
use Rattle.frame.specs.Reply.{Refused, passed}
use Rattle.frame.specs.Effect.{Effect, refusal}
use Rattle.pieces.specs.Pieces.{waiting_in, completes, piece_fits}
use Rattle.desk.specs.Answer.{Answer}
use Rattle.desk.specs.declared.Record.{Record}
use Rattle.desk.specs.Gate.{PIECE, side_of, gate, share_of}
use Rattle.desk.specs.Desk.{piece}
use Rattle.desk.specs.Surface.{record_in, hosted}
use Rattle.whole.specs.Surface.{hosted_frame, hosted_take}
use Rattle.whole.specs.Whole as whole
use Rattle.whole.proofs.Accepted.{good_bad, good_rest}
use Rattle.feed.specs.Feed.{Block, ROOM, block_size, samples_of, fed_by}
use Rattle.feed.specs.Feed as feeding
use Rattle.feed.specs.Surface.{hosted_feed}
use Rattle.surface.specs.Surface.{ask, frame, take, feed}
use Rattle.surface.specs.Acceptance.{in_order, may_ask, suits, take_asks, wants, Acceptance, TakeAsItsPiece}
use Rattle.surface.specs.Acceptance.{FeedAsItsTake}
use Rattle.surface.proofs.Acceptance.{gate_opens, desk_asks, frame_asks, take_asks_lem}
use Rattle.surface.proofs.Rows.{size_is}

module _ (n side : ℕ) (rec : Record) (store : List Float) where
  -- of a feed the take's conditions come twice
  joined : (k m f c e l z : Bool)
      → ((k && m) && (f && (c && (e && (l && (k && (m && (f && (l && z)))))))))
      ≡ (k && (c && (e && (m && (f && (l && z))))))
  joined false m f c e l z = refl
  joined true false f false e l z = refl
  joined true false f true false l z = refl
  joined true false f true true l z = refl
  joined true true false false e l z = refl
  joined true true false true false l z = refl
  joined true true false true true l z = refl
  joined true true true false e l z = refl
  joined true true true true false l z = refl
  joined true true true true true false z = refl
  joined true true true true true true z = refl

  feed_asks : (b : Block) (m : List ℕ) (c e a : ℕ)
      → passed (feeding.feed n side rec store b m c e a).answer.reply
      ≡ (in_order n side rec (length store) && wants rec (get (share_of side) store) (feed b m c e a))
  unfolding feeding.feed
  feed_asks b m c e a =
      let x = samples_of b in
      let w = rec.waiting in
      let z = suits rec m && good (waiting_in w (get (share_of side) store) ++ x) in
      go (gate n side rec (length store) PIECE) (eqb (gate n side rec (length store) PIECE) 0)
      (piece_fits w (block_size b) ROOM 22) (leb (960 * completes w (block_size b)) c)
      (leb (8 * completes w (block_size b)) e) (leb (3 * completes w (block_size b)) a)
      (whole.take n side rec store x m ROOM a)
      ∙ ap (λ (t : Bool).
      t && (piece_fits w (block_size b) ROOM 22
      && (leb (960 * completes w (block_size b)) c && (leb (8 * completes w (block_size b)) e
      && (leb (3 * completes w (block_size b)) a && passed (whole.take n side rec store x m ROOM a).answer.reply)))))
      (gate_opens n side rec (length store) PIECE)
      ∙ rw (take_asks_lem n side rec store x m ROOM a, size_is b)
      (joined (in_order n side rec (length store)) (may_ask rec PIECE) (piece_fits w (block_size b) ROOM 22)
      (leb (960 * completes w (block_size b)) c)
      (leb (8 * completes w (block_size b)) e) (leb (3 * completes w (block_size b)) a) z)
    where
      go : (number : ℕ) (t f c e l : Bool) (o : Effect Answer)
          → passed (refusing (number when not t ∷ 5 when not f ∷ 5 when not c ∷ 5 when not e ∷ 5 when not l ∷ [])
          (λ r. refusal (record { reply = Refused r; rec = rec }) store)
          (fed_by (side_of side) rec.frame o)).answer.reply
          ≡ (t && (f && (c && (e && (l && passed o.answer.reply)))))
      go number false f c e l o = refl
      go number true false c e l o = refl
      go number true true false e l o = refl
      go number true true true false l o = refl
      go number true true true true false o = refl
      go number true true true true true o = refl

pub accepted : Acceptance
unfolding hosted hosted_frame hosted_take hosted_feed
accepted n side ns store (ask a) = desk_asks n side (record_in side ns) store a
accepted n side ns store (frame x m o) = frame_asks n side (record_in side ns) store x m o
accepted n side ns store (take x m o a) = take_asks_lem n side (record_in side ns) store x m o a
accepted n side ns store (feed b m c e a) = feed_asks n side (record_in side ns) store b m c e a

-- ---- a take beside its piece, and a feed beside its take

good_each : (xs ys : List Float) → good (xs ++ ys) ≡ (good xs && good ys)
good_each xs ys = go (good xs) refl
  where
    go : (t : Bool) → good xs ≡ t → good (xs ++ ys) ≡ (t && good ys)
    go true e = good_rest xs ys e
    go false e = good_bad xs ys e

pub take_as_its_piece : TakeAsItsPiece
take_as_its_piece n side ns store x m o a =
    let rec = record_in side ns in
    let share = get (share_of side) store in
    accepted n side ns store (take x m o a)
    ∙ rw (good_each (waiting_in rec.waiting share) x)
    (go (in_order n side rec (length store)) (may_ask rec PIECE) (piece_fits rec.waiting (length x) o 22)
    (leb (3 * completes rec.waiting (length x)) a) (suits rec m)
    (good (waiting_in rec.waiting share)) (good x))
    ∙ ap (λ (t : Bool). t && (leb (3 * completes rec.waiting (length x)) a && suits rec m))
    (sym (accepted n side ns store (ask (piece x o 22))))
  where
    go : (k m f l s g h : Bool)
        → (k && (m && (f && (l && (s && (g && h)))))) ≡ ((k && (m && (f && (g && h)))) && (l && s))
    go false m f l s g h = refl
    go true false f l s g h = refl
    go true true false l s g h = refl
    go true true true false s false h = refl
    go true true true false s true false = refl
    go true true true false s true true = refl
    go true true true true false false h = refl
    go true true true true false true false = refl
    go true true true true false true true = refl
    go true true true true true false h = refl
    go true true true true true true false = refl
    go true true true true true true true = refl

pub feed_as_its_take : FeedAsItsTake
feed_as_its_take n side ns store b m c e a =
    let rec = record_in side ns in
    let frames = completes rec.waiting (block_size b) in
    accepted n side ns store (feed b m c e a)
    ∙ go (in_order n side rec (length store)) (leb (960 * frames) c) (leb (8 * frames) e)
    (take_asks rec (get (share_of side) store) (samples_of b) m ROOM a)
    ∙ ap (λ (t : Bool). t && (leb (960 * frames) c && leb (8 * frames) e))
    (sym (accepted n side ns store (take (samples_of b) m ROOM a)))
  where
    go : (k c e t : Bool) → (k && (c && (e && t))) ≡ ((k && t) && (c && e))
    go false c e t = refl
    go true false e true = refl
    go true false e false = refl
    go true true false true = refl
    go true true false false = refl
    go true true true true = refl
    go true true true false = refl
