-- Claims about a frame and a take in one call, and about the three numbers of an outcome. Proofs: proofs/Halves.antt,
-- proofs/Dictations.antt, proofs/Outcomes.antt.
use Rattle.std.specs.Prelude.{◌≡◌, Result}
use Rattle.rules.specs.Common.{ℕ, true, false, List, length, Float}
use Rattle.frame.specs.Effect.{Effect}
use Rattle.frame.specs.Reply.{Reply, passed}
use Rattle.frame.specs.Answer.{as_reply}
use Rattle.frame.specs.declared.answer.Told.{Told}
use Rattle.frame.specs.declared.answer.Cause.{Cause}
use Rattle.frame.specs.Written.{first_in}
use Rattle.logs.specs.Log10.{logs_of}
use Rattle.desk.specs.Answer.{Answer, reply_by}
use Rattle.desk.specs.declared.Record.{Record}
use Rattle.desk.specs.Desk.{first_half, second_half, desk}
use Rattle.desk.specs.Surface.{heard_of}
use Rattle.dictation.specs.Dictation.{Dictated}
use Rattle.dictation.specs.Cutting.{handed_in, Led}
use Rattle.whole.specs.Whole.{frame_reply, frame, take_reply, lent_to_each}
use Rattle.whole.specs.Surface.{heard_told}

-- The desk's two halves. The second gets our logarithms of the first one's sums.
abbrev pub frame_begins : ℕ → ℕ → Record → List Float → List Float → Effect Answer
frame_begins n side rec store samples = desk n side rec store (first_half samples 22)

abbrev pub frame_ends : ℕ → ℕ → Record → List Float → List Float → List ℕ → ℕ → Effect Answer
frame_ends n side rec store samples model out =
    let one = frame_begins n side rec store samples in
    desk n side one.answer.rec one.kept (second_half (logs_of (first_in one.written)) model out)

-- A frame that is accepted is these two halves: neither is refused, and what the second gives is what the
-- frame gives.
abbrev pub TwoHalves : Type 0
TwoHalves =
    (n side : ℕ) (rec : Record) (store samples : List Float) (model : List ℕ) (out : ℕ)
    → passed (frame_reply n side rec (length store) samples model out) ≡ true
    → (passed (frame_begins n side rec store samples).answer.reply ≡ true)
    × (passed (frame_ends n side rec store samples model out).answer.reply ≡ true)
    × (frame n side rec store samples model out ≡ frame_ends n side rec store samples model out)

-- Every desk call of an accepted take is done: its piece, and a resume with our logarithms for each frame. So
-- by the law of cutting they give the take's dictation.
abbrev pub Dictates : Type 0
Dictates =
    (n side : ℕ) (rec : Record) (store samples : List Float) (model : List ℕ) (held : List Float) (answers : ℕ)
    → passed (take_reply n side rec store samples model (length held) answers) ≡ true
    → (d : Dictated) × Led n side samples (handed_in n side rec store samples held) held
    (lent_to_each rec samples model) d

-- The three numbers of an outcome are those of its reply, whatever the reason for a refusal is and however it is read
-- as a reply that does not pass. So also where it is a number, read by `Refused`.
abbrev pub HeardTold : Type 1
HeardTold =
    (E : Type 0) (reads : E → Reply) → ((why : E) → passed (reads why) ≡ false)
    → (outcome : Result Told E) → heard_told outcome ≡ heard_of (reply_by reads outcome)

-- And where it is one of the desk's own.
abbrev pub HeardAnswered : Type 0
HeardAnswered = (outcome : Result Told Cause) → heard_told outcome ≡ heard_of (as_reply outcome)
