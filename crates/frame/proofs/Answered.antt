-- What an answer is that a call passes on, and what an unwrapped leaf gives. Assumes nothing.
use Rattle.std.specs.Prelude.{◌≡◌, Result, Ok, Err, IsOk, IsErrAnd}
use Rattle.rules.proofs.Common.{Bool, true, false, false≢true, refl, sym, ap, ◌∙◌}
use Rattle.rules.specs.Leaf.{◌leaving◌}
use Rattle.model.specs.Reading.{Reading, Good, Refused as Unread}
use Rattle.model.specs.declared.Model.{Model}
use Rattle.network.specs.Computed.{computed_of}
use Rattle.network.specs.Computed as computed
use Rattle.network.specs.declared.Unfit.{Unfit}
use Rattle.network.specs.declared.Unfit.TheVariants.{BadLength, BadModel}
use Rattle.frame.specs.Frame.{checked}
use Rattle.frame.specs.Private.{IsModel}
use Rattle.frame.specs.Reply.{passed, Done}
use Rattle.frame.specs.Answer.{reply_told, reply_refused, as_reply, test_as_reply}
use Rattle.frame.specs.declared.answer.Told.{Told}
use Rattle.frame.specs.declared.answer.Told.TheVariants as told
use Rattle.frame.specs.declared.answer.Cause.{Cause}
use Rattle.frame.specs.declared.answer.Cause.TheVariants as cause

-- the `?` behind a call that is refused
pub passed_on : (r : Result Told Cause) (e : Cause) → IsErrAnd r (λ x. x ≡ e) → as_reply r ≡ reply_refused e
passed_on (Ok told) e h = absurd h
passed_on (Err why) e h = ap reply_refused h

-- the same of a test
pub tested_on : (r : Result Unit Cause) (e : Cause) → IsErrAnd r (λ x. x ≡ e) → test_as_reply r ≡ reply_refused e
tested_on (Ok done) e h = absurd h
tested_on (Err why) e h = ap reply_refused h

pub refused_lem : (why : Cause) → passed (reply_refused why) ≡ false
refused_lem (cause.Plain refusal) = refl
refused_lem (cause.Model misread) = refl

pub told_lem : (told : Told) → passed (reply_told told) ≡ true
told_lem told.Done = refl
told_lem told.Silent = refl
told_lem (told.Heard voice energy) = refl
told_lem (told.Numbered frames heard) = refl

-- a call that is no refusal may be unwrapped
pub done_lem : (r : Result Told Cause) → passed (as_reply r) ≡ true → IsOk r
done_lem (Ok told) e = refl
done_lem (Err why) e = absurd (false≢true (sym (refused_lem why) ∙ e))

pub ok_of : {A E : Type 0} {r : Result A E} {x : A} → r ≡ Ok x → IsOk r
ok_of e = rw e refl

pub same_ok : {A E : Type 0} {r : Result A E} {x y : A} → r ≡ Ok x → r ≡ Ok y → x ≡ y
same_ok e f = cc

-- what a leaf gives to a caller that unwraps it
pub unwrapped : {A B E : Type 0} {r : Result A E} {x y : A} {b c : B} → r ≡ Ok x → (r leaving b) ≡ (Ok y leaving c)
    → x ≡ y
unwrapped {A} {B} {E} e f = same_ok e (ap (λ (p : Result A E × B). p.0) f)

-- ---- a file that reads as a model

pub model_in : (r : Reading) → IsModel r → (m : Model) × (r ≡ Good m)
model_in (Good m) h = (m, refl)
model_in (Unread n l) h = absurd h

pub tested_good : (same : Model → Bool) (r : Reading) → Done ≡ checked same r → IsModel r
unfolding checked
tested_good same (Good m) e = tt
tested_good same (Unread n l) e = cc

-- the network is done
pub computed_ok : (r : Result Unit Unfit) → computed_of r ≡ computed.Done → IsOk r
computed_ok (Ok done) e = refl
computed_ok (Err BadLength) e = cc
computed_ok (Err (BadModel misread)) e = cc
