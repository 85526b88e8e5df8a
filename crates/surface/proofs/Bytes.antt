-- What a bench receives is made of its own channel's bytes (`bytes_to_bytes`). Assumes nothing.
use Rattle.std.specs.Prelude.{◌*◌, ◌∷◌, ◌≡◌}
use Rattle.rules.proofs.Common.{ℕ, cond, List, [], map, refl, sym, ap, ap₂, ◌∙◌, eqb, length, Float}
use borrow.Author.Tests.{eq-eqb}
use Rattle.rules.specs.F32.{zeros}
use Rattle.rules.specs.Refusals.{refusing}
use Rattle.frame.specs.Effect.{Effect, refusal}
use Rattle.frame.specs.Share.{SHARE}
use Rattle.frame.specs.Reply.{Refused}
use Rattle.desk.specs.Answer.{Answer}
use Rattle.desk.specs.declared.Record.{Record}
use Rattle.desk.specs.Gate.{BENCHES, PIECE, side_of, gate}
use Rattle.desk.specs.Surface.{record_in}
use Rattle.whole.specs.Whole.{take}
use Rattle.isolation.specs.Run.{Returned, returned, on, State, after, received}
use Rattle.isolation.specs.Isolation.{as_bench, all_zeros, own, alone}
use Rattle.isolation.proofs.Isolated.{isolated}
use Rattle.pcm.specs.Laws.{sample_of}
use Rattle.feed.specs.Feed.{Block, ROOM, block_size, samples_of, feed_rows, fed_by}
use Rattle.feed.specs.Feed as feeding
use Rattle.feed.proofs.Own.{own_samples}
use Rattle.feed.specs.Surface.{hosted_feed}
use Rattle.surface.specs.Surface.{Call, surface}
use Rattle.surface.specs.Bytes.{SameChannel, Alike, same, fed, AllAlike, BytesToBytes, OurBytes}
use Rattle.surface.proofs.Rows.{size_is}
use Rattle.surface.proofs.Surfaced.{owned}

-- a feed by the samples that it sees
abbrev seen : ℕ → ℕ → Record → List Float → ℕ → List Float → List ℕ → ℕ → ℕ → ℕ → Effect Answer
seen n side rec store size samples model cleaned records answers =
    refusing (feed_rows (gate n side rec (length store) PIECE) rec.waiting size cleaned records answers)
    (λ r. refusal (record { reply = Refused r; rec = rec }) store)
    (fed_by (side_of side) rec.frame (take n side rec store samples model ROOM answers))

seen_is : (n side : ℕ) (rec : Record) (store : List Float) (b : Block) (model : List ℕ) (cleaned records answers : ℕ)
    → feeding.feed n side rec store b model cleaned records answers
    ≡ seen n side rec store (block_size b) (samples_of b) model cleaned records answers
unfolding feeding.feed
seen_is n side rec store b model cleaned records answers = refl

-- the samples of two such blocks
pub samples_alike : (b b' : Block) → SameChannel b b' → samples_of b ≡ samples_of b'
samples_alike b b' h =
    own_samples b h.own h.here ∙ ap (λ (f : ℕ). map (sample_of f) h.own) h.format
    ∙ sym (own_samples b' h.own h.there)

-- of a block a feed sees its samples alone
feed_alike : (n side : ℕ) (rec : Record) (store : List Float) (b b' : Block) (model : List ℕ)
    (cleaned records answers : ℕ) → SameChannel b b'
    → feeding.feed n side rec store b model cleaned records answers
    ≡ feeding.feed n side rec store b' model cleaned records answers
feed_alike n side rec store b b' model cleaned records answers h =
    let samples = samples_alike b b' h in
    let sizes : block_size b ≡ block_size b' = sym (size_is b) ∙ ap length samples ∙ size_is b' in
    seen_is n side rec store b model cleaned records answers
    ∙ ap₂ (λ (size : ℕ) (xs : List Float). seen n side rec store size xs model cleaned records answers) sizes samples
    ∙ sym (seen_is n side rec store b' model cleaned records answers)

-- ---- one call, and any run

-- the state behind a call of bench s
abbrev next : ℕ → State → Effect Answer → State
next s st g =
    record { numbers = λ k. cond (eqb s k) (returned s (st.numbers s) g).numbers (st.numbers k); store = g.kept }

call_alike : (n side : ℕ) (ns : List ℕ) (store : List Float) {c c' : Call} → Alike c c'
    → surface n side ns store c ≡ surface n side ns store c'
unfolding hosted_feed
call_alike n side ns store (same c) = refl
call_alike n side ns store (fed {b} {b'} h m k e a) = feed_alike n side (record_in side ns) store b b' m k e a h

runs_alike : (n s : ℕ) (cs cs' : List Call) → AllAlike cs cs' → (st : State)
    → received surface n s st (map (on s) cs) ≡ received surface n s st (map (on s) cs')
unfolding received
runs_alike n s [] [] h st = refl
runs_alike n s (c ∷ cs) (c' ∷ cs') h st =
    let here = call_alike n s (st.numbers s) st.store h.0 in
    rw (eq-eqb s s refl)
    (ap₂ {C = List Returned} (λ (x : Returned) (xs : List Returned). x ∷ xs) (ap (returned s (st.numbers s)) here)
    (runs_alike n s cs cs' h.1 (after surface n st (on s c))
    ∙ ap (λ (g : Effect Answer). received surface n s (next s st g) (map (on s) cs')) here))
runs_alike n s [] (c' ∷ cs') h st = absurd h
runs_alike n s (c ∷ cs) [] h st = absurd h

pub bytes_to_bytes : (n : ℕ) → BytesToBytes n
unfolding alone
bytes_to_bytes n s inside store store' l l' calls calls' alike =
    isolated surface owned n s inside store l calls
    ∙ ap (map (as_bench s)) (runs_alike 2 (side_of s) (own s calls) (own s calls') alike
    (all_zeros (zeros (2 * SHARE))))
    ∙ sym (isolated surface owned n s inside store' l' calls')

pub our_bytes : OurBytes
our_bytes = bytes_to_bytes BENCHES
