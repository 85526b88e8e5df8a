-- A frame and a take for a host that has only numbers: what the functions of the C surface return and leave.
use Rattle.std.specs.Prelude.{Result, Ok, Err}
use Rattle.rules.specs.Common.{ℕ, List, Float}
use Rattle.rules.specs.F32.{zeros}
use Rattle.frame.specs.Effect.{Effect}
use Rattle.frame.specs.Answer.{reply_told}
use Rattle.frame.specs.declared.answer.Told.{Told}
use Rattle.desk.specs.Answer.{Answer}
use Rattle.desk.specs.Surface.{heard_of, record_in, telling}
use Rattle.whole.specs.Whole.{frame, take}

-- A frame, with the record given as numbers. It also writes its answer as three numbers.
unfoldable pub hosted_frame : ℕ → ℕ → List ℕ → List Float → List Float → List ℕ → ℕ → Effect Answer
hosted_frame benches side ns store samples model out =
    telling (frame benches side (record_in side ns) store samples model out)

-- A take, with the record given as numbers.
unfoldable pub hosted_take : ℕ → ℕ → List ℕ → List Float → List Float → List ℕ → ℕ → ℕ → Effect Answer
hosted_take benches side ns store samples model out answers =
    take benches side (record_in side ns) store samples model out answers

-- An outcome as three numbers: heard (1 or 0), voice, energy. Whatever the reason for a refusal is, it gives zeros. By
-- the law `HeardTold` they are the numbers of the reply, however a reason is read.
abbrev pub heard_told : {E : Type 0} → Result Told E → List Float
heard_told (Ok told) = heard_of (reply_told told)
heard_told (Err why) = zeros 3
