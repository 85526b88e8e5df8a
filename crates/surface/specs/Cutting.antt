-- A stream of recorded bytes, cut into blocks: what is claimed. The proofs are in proofs/Fed.antt, proofs/Cuts.antt and
-- proofs/Entries.antt.
--
-- A feed is a take of its channel's samples. Where a bench's stream is cut makes no difference: its cleaned bytes, the
-- records of its frames and its answers in a row, and its own record and share at the end, are those of one dictation
-- of its channel, whatever other benches do in between, and however often a call of its own is refused. And each
-- frame's record carries the frame's number, whether it was heard, and the bench's own side.
use Rattle.std.specs.Prelude.{◌+◌, ◌*◌, ◌%◌, ◌<◌, ◌∷◌, ◌++◌, ◌≡◌}
use Rattle.rules.specs.Common.{ℕ, Bool, false, cond, List, [], map, length, get_or}
use Rattle.rules.specs.Common.{drop, Float}
use Rattle.rules.specs.Place.{get}
use Rattle.frame.specs.Written.{nothing, first_in, wholes_in}
use Rattle.frame.specs.Share.{SHARE}
use Rattle.frame.specs.Reply.{is_heard}
use Rattle.desk.specs.declared.Record.{Record}
use Rattle.desk.specs.Gate.{side_of, share_of}
use Rattle.whole.specs.Whole.{lent_to_each, answers_of}
use Rattle.dictation.specs.Dictation.{Told, Dictated, dictated_on}
use Rattle.isolation.specs.Run.{Returned, On, State, record_at, ended, received, done}
use Rattle.pcm.specs.Pcm.{packed}
use Rattle.sheet.specs.End.{from_four}
use Rattle.feed.specs.Feed.{block_of, samples_of, noted_of}
use Rattle.surface.specs.Surface.{Call, feed, surface}
use Rattle.surface.specs.Bytes.{SameChannel}

-- ---- what a bench has of a run

-- its record and its share at the end, and in a row what its feeds gave it
pub record Has : Type 0 where
  pub rec : Record
  pub share : List Float
  pub cleaned : List ℕ
  pub records : List ℕ
  pub answers : List Float

-- what was written to each of a feed's three buffers, call after call
abbrev pub cleaned_in : List Returned → List ℕ
cleaned_in [] = []
cleaned_in (r ∷ rs) = wholes_in (get_or r.written 1 nothing) ++ cleaned_in rs

abbrev pub noted_in : List Returned → List ℕ
noted_in [] = []
noted_in (r ∷ rs) = wholes_in (get_or r.written 2 nothing) ++ noted_in rs

abbrev pub answers_in : List Returned → List Float
answers_in [] = []
answers_in (r ∷ rs) = first_in r.written ++ answers_in rs

abbrev pub has_of : ℕ → ℕ → State → List (On Call) → Has
has_of n s st calls =
    let end = ended surface n st calls in
    let got = received surface n s st calls in
    record {
      rec = record_at s end;
      share = get (share_of s) end.store;
      cleaned = cleaned_in got;
      records = noted_in got;
      answers = answers_in got;
    }

-- ---- and what a dictation gives

-- each frame is lent our logarithms of its sums, and the one model
abbrev pub dictation_of : Record → List Float → List Float → List ℕ → Dictated
dictation_of rec share samples model = dictated_on rec share samples (lent_to_each rec samples model)

abbrev pub has_said : ℕ → Record → List Float → List Float → List ℕ → Has
has_said side rec share samples model =
    let d = dictation_of rec share samples model in
    record {
      rec = d.rec;
      share = d.kept;
      cleaned = packed d.out;
      records = noted_of side rec.frame (answers_of d.told);
      answers = answers_of d.told;
    }

-- ---- the law of cutting, for bytes

-- feeds with one model, of blocks of one shape that have these bytes in a row
pub data Feeds (format channels channel : ℕ) (model : List ℕ) : List Call → List ℕ → Type 0 where
  last_block : (bytes : List ℕ) (c e a : ℕ)
      → Feeds format channels channel model (feed (block_of bytes format channels channel) model c e a ∷ []) bytes
  more_blocks : (bytes : List ℕ) (c e a : ℕ) {calls : List Call} {rest : List ℕ}
      → Feeds format channels channel model calls rest
      → Feeds format channels channel model (feed (block_of bytes format channels channel) model c e a ∷ calls)
      (bytes ++ rest)

-- in this run of n benches the calls of bench s that are done are such; at the start its frame number has 32 bits
pub record Streams (n s : ℕ) (st : State) (calls : List (On Call)) (format channels channel : ℕ)
    (model bytes : List ℕ) : Type 0 where
  pub inside : s < n
  pub sized : length st.store ≡ n * SHARE
  pub numbered : (record_at s st).frame < 4294967296
  pub fed : Feeds format channels channel model (done surface n s st calls) bytes

-- then it has what one dictation of all its samples gives, in as many frames as they complete; the records count on
-- from its frame number, and carry its side
abbrev pub BytesInARow : Type 0
BytesInARow =
    (n s : ℕ) (st : State) (calls : List (On Call)) (format channels channel : ℕ) (model bytes : List ℕ)
    → Streams n s st calls format channels channel model bytes
    → has_of n s st calls ≡ has_said (side_of s) (record_at s st) (get (share_of s) st.store)
    (samples_of (block_of bytes format channels channel)) model

-- what the 8 bytes of a frame's record say: the frame's number, little end first; 1 if it was heard, else 0; the
-- bench's side; and two zeros
pub record Tells (bytes : List ℕ) (number : ℕ) (heard : Bool) (side : ℕ) : Type 0 where
  pub numbered : from_four bytes ≡ number
  pub marked : get_or bytes 4 0 ≡ cond heard 1 0
  pub sided : get_or bytes 5 0 ≡ side
  pub ended : (get_or bytes 6 0 ≡ 0) × (get_or bytes 7 0 ≡ 0)

-- and a dictation of a bench has a record for each frame. Record j has the frame's number, counted on from the bench's
-- own; it says heard exactly if the frame's reply does; and its side is the bench's own, by the bench's parity
abbrev pub frames_heard_in : List Told → List Bool
frames_heard_in told = map (λ (f : Told). is_heard f.1) told

abbrev pub RecordsTell : Type 0
RecordsTell =
    (bench frame : ℕ) (told : List Told)
    → let records = noted_of (side_of bench) frame (answers_of told) in
    (length records ≡ 8 * length told)
    × ((j : ℕ) → j < length told
    → Tells (drop (8 * j) records) ((frame + j) % 4294967296) (get_or (frames_heard_in told) j false) (side_of bench))

-- so two runs in which a bench begins with the same record and share, and is fed streams with the same samples in its
-- channel, each cut in its own way, give it the same
abbrev pub HoweverCut : Type 0
HoweverCut =
    (n s : ℕ) (st st' : State) (calls calls' : List (On Call)) (format channels channel channels' channel' : ℕ)
    (model bytes bytes' : List ℕ)
    → Streams n s st calls format channels channel model bytes
    → Streams n s st' calls' format channels' channel' model bytes'
    → SameChannel (block_of bytes format channels channel) (block_of bytes' format channels' channel')
    → st.numbers s ≡ st'.numbers s → get (share_of s) st.store ≡ get (share_of s) st'.store
    → has_of n s st calls ≡ has_of n s st' calls'
