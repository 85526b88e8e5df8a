-- What a bench has of any run, by its calls that are done.
--     gave-nothing, gave-said     a refused call, and a feed that is done
--     Comes, lone-run             a bench's calls that are done, one after the other, and that any run comes to these
-- Assumes nothing.
use Rattle.std.specs.Prelude.{◌*◌, ◌≤◌, ◌<◌, ◌∷◌, ◌++◌, ◌≡◌}
use Rattle.rules.proofs.Common.{ℕ, Bool, true, false, cond, false≢true, List, [], refl}
use Rattle.rules.proofs.Common.{sym, ap, ap₂, subst, ◌∙◌}
use Rattle.rules.proofs.Common.{eqb, length, get_or, Float}
use native.Mathlib.Omega.{arith}
use borrow.Author.Tests.{eqb-true, eqb-false, eq-eqb}
use Rattle.rules.specs.Place.{get, put}
use Rattle.frame.specs.Written.{nothing, first_in, wholes_in}
use Rattle.rules.proofs.Places.{length_get, get_put}
use Rattle.rules.proofs.Refusals.{by_rows}
use Rattle.desk.specs.Answer.{Answer}
use Rattle.frame.specs.Effect.{Effect, refusal}
use Rattle.frame.specs.Reply.{Reply, Refused, passed}
use Rattle.frame.specs.Share.{SHARE}
use Rattle.pieces.specs.Pieces.{waiting_in}
use Rattle.desk.specs.declared.Record.{Record}
use Rattle.desk.specs.Gate.{PIECE, side_of, gate, share_of}
use Rattle.desk.specs.Laws.{placed}
use Rattle.desk.specs.Surface.{record_in}
use Rattle.dictation.proofs.Joins.{share_size}
use Rattle.whole.specs.Whole.{take_reply, lent_to_each, taken_on}
use Rattle.whole.specs.Whole as whole
use Rattle.whole.proofs.Accepted.{take_accepted, fits_sizes}
use Rattle.whole.proofs.Ranged.{take_by}
use Rattle.isolation.specs.Run.{returned, On, on, State, record_at, after, ended, received, done}
use Rattle.isolation.proofs.Isolated.{beside}
use Rattle.isolation.proofs.Runs.{reads}
use Rattle.feed.specs.Feed.{Block, ROOM, block_size, samples_of, feed_rows, fed_by}
use Rattle.feed.specs.Feed as feeding
use Rattle.feed.specs.Surface.{hosted_feed}
use Rattle.surface.specs.Surface.{Call, ask, frame, take, feed, surface}
use Rattle.surface.specs.Cutting.{Has, has_of, dictation_of, has_said}
use Rattle.surface.proofs.Numbers.{zero_is_done}
use Rattle.surface.proofs.Refusing.{refused_leaves}
use Rattle.surface.proofs.Surfaced.{owned}

-- ---- one call

-- what side s has of what a call gave, with this record
abbrev gave_of : ℕ → List ℕ → Effect Answer → Has
gave_of s ns g =
    record {
      rec = record_in s (returned s ns g).numbers;
      share = get (share_of s) g.kept;
      cleaned = wholes_in (get_or g.written 1 nothing);
      records = wholes_in (get_or g.written 2 nothing);
      answers = first_in g.written;
    }

-- and of none
abbrev pub bare : Record → List Float → Has
bare b xs = record { rec = b; share = xs; cleaned = []; records = []; answers = [] }

-- what a call is answered
abbrev reply_to : ℕ → ℕ → List ℕ → List Float → Call → Reply
reply_to n side ns store c = (surface n side ns store c).answer.reply

gave_nothing : (n s : ℕ) (ns : List ℕ) (store : List Float) (c : Call) → passed (reply_to n s ns store c) ≡ false
    → gave_of s ns (surface n s ns store c) ≡ bare (record_in s ns) (get (share_of s) store)
gave_nothing n s ns store c p = let k = refused_leaves n s ns store c p in rw (p, k.1, k.2)

-- samples that a bench's feed says, behind those that wait
pub record Says (b : Record) (samples : List Float) : Type 0 where
  pub waits : b.waiting ≤ 479
  pub some : 1 ≤ length samples

module _ (n s : ℕ) (inside : s < n) (ns : List ℕ) (store : List Float) (l : length store ≡ n * SHARE) (b : Block)
    (model : List ℕ) (cleaned records answers : ℕ) where
  abbrev rec : Record
  rec = record_in s ns

  abbrev share : List Float
  share = get (share_of s) store

  abbrev taken : Effect Answer
  taken = whole.take n s rec store (samples_of b) model ROOM answers

  -- where it is done, it is what comes of its take
  fed_is : passed (feeding.feed n s rec store b model cleaned records answers).answer.reply ≡ true
      → (feeding.feed n s rec store b model cleaned records answers ≡ fed_by (side_of s) rec.frame taken)
      × (passed (take_reply n s rec store (samples_of b) model ROOM answers) ≡ true)
  unfolding feeding.feed
  fed_is =
      by_rows (λ r. refusal (record { reply = Refused r; rec = rec }) store) (fed_by (side_of s) rec.frame taken)
      (λ (o : Effect Answer). passed o.answer.reply ≡ true
      → (o ≡ fed_by (side_of s) rec.frame taken)
      × (passed (take_reply n s rec store (samples_of b) model ROOM answers) ≡ true))
      (feed_rows (gate n s rec (length store) PIECE) rec.waiting (block_size b) cleaned records answers)
      (λ _ p. absurd (false≢true p))
      (λ _ p. (
        refl,
        take_by n s (samples_of b) model rec store ROOM answers
            (λ (o : Effect Answer). passed o.answer.reply ≡ true
            → passed (take_reply n s rec store (samples_of b) model ROOM answers) ≡ true) (λ q _. q) (λ _ q. q) p,
      ))

  taken_is : passed (take_reply n s rec store (samples_of b) model ROOM answers) ≡ true
      → taken ≡ placed s store (taken_on rec share (samples_of b) model)
  unfolding whole.take
  taken_is p = rw p

  gave_said : passed (feeding.feed n s rec store b model cleaned records answers).answer.reply ≡ true
      → Says rec (samples_of b)
      × (gave_of s ns (feeding.feed n s rec store b model cleaned records answers)
      ≡ has_said (side_of s) rec share (samples_of b) model)
  gave_said p =
      let f = fed_is p in
      let d = dictation_of rec share (samples_of b) model in
      let sizes = fits_sizes rec.waiting (length (samples_of b)) ROOM 22
      (take_accepted n s rec store (samples_of b) model ROOM answers f.1).fits in
      let full : length share ≡ SHARE = length_get (share_of s) store (omega arith) in
      let back : get (share_of s) (put (share_of s) store d.kept) ≡ d.kept =
      get_put (share_of s) store d.kept (omega arith)
      (share_size rec share (waiting_in rec.waiting share ++ samples_of b)
      (lent_to_each rec (samples_of b) model) full) in (
        record { waits = sizes.0; some = sizes.1 },
        ap (gave_of s ns) f.0 ∙ ap (λ (g : Effect Answer). gave_of s ns (fed_by (side_of s) rec.frame g))
            (taken_is f.1) ∙ rw (back, reads s d.rec),
      )

-- ---- calls that are done, one after the other

-- what a bench has of one call and of those that follow
abbrev pub ahead : Has → Has → Has
ahead h k =
    record {
      rec = k.rec;
      share = k.share;
      cleaned = h.cleaned ++ k.cleaned;
      records = h.records ++ k.records;
      answers = h.answers ++ k.answers;
    }

-- on a side, from a record and a share, it has this of feeds; of other calls nothing is said
unfoldable pub Comes : ℕ → List Call → Record → List Float → Has → Type 0
Comes side [] b xs h = h ≡ bare b xs
Comes side (ask a ∷ more) b xs h = Unit
Comes side (frame x m o ∷ more) b xs h = Unit
Comes side (take x m o a ∷ more) b xs h = Unit
Comes side (feed k model c e a ∷ more) b xs h =
    (rest : Has) × Says b (samples_of k)
    × (let d = dictation_of b xs (samples_of k) model in Comes side more d.rec d.kept rest)
    × (h ≡ ahead (has_said side b xs (samples_of k) model) rest)

module _ (n s : ℕ) (inside : s < n) where
  abbrev Runs : List (On Call) → State → Type 0
  Runs cs st = (b : Record) (xs : List Float) → record_at s st ≡ b → get (share_of s) st.store ≡ xs
      → Comes (side_of s) (done surface n s st cs) b xs (has_of n s st cs)

  -- a call of its own, and those that follow
  module _ (c : Call) (cs : List (On Call)) (st : State) where
    abbrev next : State
    next = after surface n st (on s c)

    abbrev reply : Reply
    reply = reply_to n s (st.numbers s) st.store c

    abbrev gave : Effect Answer
    gave = surface n s (st.numbers s) st.store c

    numbers_are : (after surface n st (on s c)).numbers s
        ≡ (returned s (st.numbers s) (surface n s (st.numbers s) st.store c)).numbers
    numbers_are = rw (eq-eqb s s refl)

    done_are : done surface n s st (on s c ∷ cs)
        ≡ cond (passed (reply_to n s (st.numbers s) st.store c)) (c ∷ done surface n s next cs)
        (done surface n s next cs)
    unfolding done
    done_are = rw (eq-eqb s s refl, ← (zero_is_done n s (st.numbers s) st.store c).0)

    has_are : has_of n s st (on s c ∷ cs) ≡ ahead (gave_of s (st.numbers s) gave) (has_of n s next cs)
    unfolding received ended
    has_are = rw (eq-eqb s s refl)

  own_done : (c : Call) (rest : List Call) (h : Has) (ns : List ℕ) (store : List Float) → length store ≡ n * SHARE
      → passed (reply_to n s ns store c) ≡ true
      → ((b : Record) (xs : List Float) → (gave_of s ns (surface n s ns store c)).rec ≡ b
      → (gave_of s ns (surface n s ns store c)).share ≡ xs → Comes (side_of s) rest b xs h)
      → Comes (side_of s) (c ∷ rest) (record_in s ns) (get (share_of s) store)
      (ahead (gave_of s ns (surface n s ns store c)) h)
  unfolding Comes hosted_feed
  own_done (ask a) rest h ns store l p ih = tt
  own_done (frame x m o) rest h ns store l p ih = tt
  own_done (take x m o a) rest h ns store l p ih = tt
  own_done (feed k model cleaned records answers) rest h ns store l p ih =
      let t = gave_said n s inside ns store l k model cleaned records answers p in (
        h,
        t.0,
        ih _ _ (ap (λ (x : Has). x.rec) t.1) (ap (λ (x : Has). x.share) t.1),
        ap (λ (x : Has). ahead x h) t.1,
      )

  own_call : (c : Call) (cs : List (On Call)) (st : State) → length st.store ≡ n * SHARE
      → Runs cs (after surface n st (on s c)) → Runs (on s c ∷ cs) st
  own_call c cs st l ih b xs e f = rw (← e, ← f, done_are c cs st, has_are c cs st) (go (passed (reply c cs st)) refl)
    where
      rest : List Call
      rest = done surface n s (next c cs st) cs

      h : Has
      h = has_of n s (next c cs st) cs

      mine : record_in s ((next c cs st).numbers s) ≡ record_in s (returned s (st.numbers s) (gave c cs st)).numbers
      mine = ap (record_in s) (numbers_are c cs st)

      go : (t : Bool) → passed (reply c cs st) ≡ t
          → Comes (side_of s) (cond t (c ∷ rest) rest) (record_in s (st.numbers s)) (get (share_of s) st.store)
          (ahead (gave_of s (st.numbers s) (gave c cs st)) h)
      go true p = own_done c rest h (st.numbers s) st.store l p (λ b' xs' e' f'. ih b' xs' (mine ∙ e') f')
      go false p =
          let k = gave_nothing n s (st.numbers s) st.store c p in
          subst (λ (x : Has).
          Comes (side_of s) rest (record_in s (st.numbers s)) (get (share_of s) st.store) (ahead x h)) (sym k)
          (ih (record_in s (st.numbers s)) (get (share_of s) st.store) (mine ∙ ap (λ (x : Has). x.rec) k)
          (ap (λ (x : Has). x.share) k))

  other_call : (side : ℕ) → eqb side s ≡ false → (c : Call) (cs : List (On Call)) (st : State)
      → length st.store ≡ n * SHARE
      → Runs cs (after surface n st (on side c)) → Runs (on side c ∷ cs) st
  unfolding done received ended
  other_call side t c cs st l ih b xs e f =
      rw t
      (ih b xs (rw t e) ((beside surface owned n side (st.numbers side) st.store c l).1 s (eqb-false side s t) ∙ f))

  pub lone_run : (cs : List (On Call)) (st : State) → length st.store ≡ n * SHARE → Runs cs st
  unfolding done received ended Comes
  lone_run [] st l = λ b xs e f. ap₂ bare e f
  lone_run (c ∷ cs) st l =
      go (eqb c.side s) refl
      (lone_run cs (after surface n st c)
      (beside surface owned n c.side (st.numbers c.side) st.store c.call l).0)
    where
      go : (t : Bool) → eqb c.side s ≡ t → Runs cs (after surface n st (on c.side c.call))
          → Runs (on c.side c.call ∷ cs) st
      go true t =
          subst (λ (k : ℕ). Runs cs (after surface n st (on k c.call)) → Runs (on k c.call ∷ cs) st)
          (sym (eqb-true c.side s t)) (own_call c.call cs st l)
      go false t = other_call c.side t c.call cs st l
