-- The law of cutting (request 12), for any side of any desk. Proofs: proofs/Cuts.antt.
use Rattle.std.specs.Prelude.{◌*◌, ◌∷◌, ◌++◌, ◌≡◌}
use Rattle.rules.specs.Common.{ℕ, true, List, [], length, get_or, take, Float}
use Rattle.frame.specs.Written.{nothing, numbers_in, over}
use Rattle.frame.specs.Effect.{Effect}
use Rattle.frame.specs.Reply.{passed}
use Rattle.desk.specs.Answer.{Answer}
use Rattle.desk.specs.declared.Record.{Record}
use Rattle.desk.specs.Desk.{holding, piece, resume, desk}
use Rattle.dictation.specs.Dictation.{Lent, Dictated, dictated}

-- A piece of these samples is handed in. `held` is what its output held.
abbrev pub handed_in : ℕ → ℕ → Record → List Float → List Float → List Float → Effect Answer
handed_in n side rec store samples held = desk n side rec store (piece samples (length held) 22)

-- A piece and a resume write to two buffers: the output, and the sums of the frame that is under way
-- afterwards.
abbrev pub output_of : Effect Answer → List Float → List Float
output_of o held = over (get_or o.written 0 nothing) held

abbrev pub sums_in : Effect Answer → List Float
sums_in o = numbers_in (get_or o.written 1 nothing)

-- A call on a piece gave o, and one resume followed for each frame that something is lent to. None was
-- refused, and the last one ended the piece. Of each frame is reported: the sums at the pause before it, and
-- the reply and the record of its resume, without the pause after it.
pub data Led (n side : ℕ) (samples : List Float) : Effect Answer → List Float → List Lent → Dictated → Type 0 where
  ended : {o : Effect Answer} {held : List Float} → passed o.answer.reply ≡ true → o.answer.rec.piece ≡ 0
      → Led n side samples o held [] (record { rec = o.answer.rec; kept = o.kept; told = []; out = output_of o held })
  paused : {o next : Effect Answer} {held : List Float} {l : Lent} {more : List Lent} {d : Dictated}
      → passed o.answer.reply ≡ true
      → next ≡ desk n side o.answer.rec o.kept
      (resume samples (l.logs (sums_in o)) l.model (length (output_of o held)) 22)
      → Led n side samples next (output_of o held) more d
      → Led n side samples o held (l ∷ more)
      (record {
        rec = d.rec;
        kept = d.kept;
        told = (sums_in o, next.answer.reply, holding 1 next.answer.rec 0 0 0) ∷ d.told;
        out = d.out;
      })

-- Samples cut into pieces. Each piece is accepted and resumed to its end, on the record and the store that
-- the one before left. Of an output only what frames filled counts.
pub data Cut (n side : ℕ) : Record → List Float → List Float → List Lent → Dictated → Type 0 where
  last : {rec : Record} {store xs held : List Float} {ls : List Lent} {d : Dictated}
      → Led n side xs (handed_in n side rec store xs held) held ls d
      → Cut n side rec store xs ls
      (record { rec = d.rec; kept = d.kept; told = d.told; out = take (480 * length ls) d.out })
  more : {rec : Record} {store xs ys held : List Float} {ls ms : List Lent} {d e : Dictated}
      → Led n side xs (handed_in n side rec store xs held) held ls d → Cut n side d.rec d.kept ys ms e
      → Cut n side rec store (xs ++ ys) (ls ++ ms)
      (record {
        rec = e.rec;
        kept = e.kept;
        told = d.told ++ e.told;
        out = take (480 * length ls) d.out ++ e.out;
      })

-- However the samples are cut, with the same lent to each frame, the result is their dictation; so it is the
-- same for any two ways of cutting.
abbrev pub Cutting : Type 0
Cutting =
    (n side : ℕ) (rec : Record) (store samples : List Float) (lent : List Lent) (d d' : Dictated)
    → Cut n side rec store samples lent d → Cut n side rec store samples lent d'
    → (d ≡ dictated side rec store samples lent) × (d ≡ d')
