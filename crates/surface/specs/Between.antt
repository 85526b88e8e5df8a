-- Cutting, with others in between: however a bench's samples are cut, into takes or pieces, whatever other benches do
-- in between, and however often a call of its own is refused, it is one dictation of its samples. What is claimed; the
-- proof is in proofs/Between.antt.
use Rattle.std.specs.Prelude.{◌*◌, ◌<◌, ◌∷◌, ◌++◌, ◌≡◌}
use Rattle.rules.specs.Common.{ℕ, cond, List, [], map, eqb, length, get_or, Float}
use Rattle.rules.specs.Place.{get}
use Rattle.frame.specs.Written.{nothing, numbers_in}
use Rattle.frame.specs.Share.{SHARE}
use Rattle.desk.specs.Gate.{share_of}
use Rattle.desk.specs.Desk.{Ask, piece, resume}
use Rattle.dictation.specs.Dictation.{Lent, Told, dictated_on}
use Rattle.whole.specs.Whole.{answers_of}
use Rattle.isolation.specs.Isolation.{own}
use Rattle.isolation.specs.Run.{Kind, On, State, record_at, given, after, ended, done, desks, expand}
use Rattle.surface.specs.Surface.{Call, ask, frame, take, feed, surface, made_of}

-- a resume is given logarithms and a model: these are lent to its frame, whatever its sums are
abbrev pub as_given : List Float × List ℕ → Lent
as_given g = record { logs = λ _. g.0; model = g.1 }

-- calls that hand samples in, piece by piece, each resumed with its samples and its output, for as many frames as are
-- given
abbrev pub resumes : List Float → ℕ → List (List Float × List ℕ) → List Ask
resumes x o gs = map (λ g. resume x g.0 g.1 o 22) gs

pub data InARow : List Ask → List Float → List Lent → Type 0 where
  last_piece : (x : List Float) (o : ℕ) (gs : List (List Float × List ℕ))
      → InARow (piece x o 22 ∷ resumes x o gs) x (map as_given gs)
  more_pieces : (x : List Float) (o : ℕ) (gs : List (List Float × List ℕ)) {asks : List Ask} {ys : List Float}
      {ms : List Lent}
      → InARow asks ys ms → InARow (piece x o 22 ∷ resumes x o gs ++ asks) (x ++ ys) (map as_given gs ++ ms)

-- the numbers that side s receives in a run, in order: of each call, those in one of its buffers
unfoldable pub in_buffer : {C : Type 0} → Kind C → (C → ℕ) → ℕ → ℕ → State → List (On C) → List Float
in_buffer serve which n s st [] = []
in_buffer serve which n s st (c ∷ cs) =
    cond (eqb c.side s) (numbers_in (get_or (given serve n st c).written (which c.call) nothing)) []
    ++ in_buffer serve which n s (after serve n st c) cs

-- the first is the output, but of a feed, which gives bytes. Answers stand in the second of a frame and a take, in the
-- first of a feed, and in the third of a resume, behind its sums
abbrev pub answers_at : Call → ℕ
answers_at (ask a) = 2
answers_at (frame x m o) = 1
answers_at (take x m o a) = 1
answers_at (feed b m c e a) = 0

-- no feed is among these calls
abbrev pub NoFeed : Call → Type 0
NoFeed (ask a) = Unit
NoFeed (frame x m o) = Unit
NoFeed (take x m o a) = Unit
NoFeed (feed b m c e a) = ⊥

abbrev pub All : (Call → Type 0) → List Call → Type 0
All P [] = Unit
All P (c ∷ cs) = P c × All P cs

abbrev pub sums_told : List Told → List Float
sums_told [] = []
sums_told (f ∷ fs) = f.0 ++ sums_told fs

-- where side s's calls that are done are such, and no piece is unfinished at the end: its record, its share, and the
-- answers that it received are those of one dictation; and so the samples, where it is not fed. So are the sums that
-- its pieces and resumes tell; a take keeps its own, and a side that makes no whole calls receives them all
abbrev pub Between : ℕ → Type 0
Between n =
    (s : ℕ) → s < n → (st : State) → length st.store ≡ n * SHARE
    → (calls : List (On Call)) (samples : List Float) (lent : List Lent)
    → let asks = expand surface made_of n st calls in let end = ended surface n st calls in
    InARow (done desks n s st asks) samples lent → (record_at s end).piece ≡ 0
    → let d = dictated_on (record_at s st) (get (share_of s) st.store) samples lent in
    (record_at s end ≡ d.rec) × (get (share_of s) end.store ≡ d.kept)
    × (All NoFeed (own s calls) → in_buffer surface (λ _. 0) n s st calls ≡ d.out)
    × (in_buffer surface answers_at n s st calls ≡ answers_of d.told)
    × (in_buffer desks (λ _. 1) n s st asks ≡ sums_told d.told)
    × ((mine : List Ask) → own s calls ≡ map ask mine → in_buffer surface (λ _. 1) n s st calls ≡ sums_told d.told)
