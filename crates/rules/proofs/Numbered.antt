-- No refusal has the number 0, so what a host is told as 0 is done. Assumes nothing.
use Rattle.std.specs.Prelude.{◌≡◌, Result, Ok, Err, IsOk}
use Rattle.rules.proofs.Common.{refl}
use native.Mathlib.Omega.{arith}
use Rattle.rules.specs.Refusal.{refusal_number, told}
use Rattle.rules.specs.declared.refusal.Refusal.{Refusal}
use Rattle.rules.specs.declared.refusal.Refusal.TheVariants as refusal

pub never_0 : (refusal : Refusal) → refusal_number refusal ≡ 0 → ⊥
never_0 refusal.NoSuchSide e = omega arith
never_0 refusal.OutOfRange e = omega arith
never_0 refusal.Closed e = omega arith
never_0 refusal.NotDue e = omega arith
never_0 refusal.WrongLength e = omega arith
never_0 refusal.LagTooLarge e = omega arith
never_0 refusal.OtherCounts e = omega arith
never_0 refusal.BadSample e = omega arith
never_0 refusal.ModelNoHeader e = omega arith
never_0 refusal.ModelInputs e = omega arith
never_0 refusal.ModelNeurons e = omega arith
never_0 refusal.ModelActivation e = omega arith
never_0 refusal.ModelNoNeurons e = omega arith
never_0 refusal.ModelArray e = omega arith
never_0 refusal.ModelBytesLeft e = omega arith
never_0 refusal.ModelEnds e = omega arith
never_0 refusal.ModelVadGru e = omega arith
never_0 refusal.ModelNoiseGru e = omega arith
never_0 refusal.ModelDenoiseGru e = omega arith
never_0 refusal.ModelDenoiseOutput e = omega arith
never_0 refusal.ModelNoRoom e = omega arith
never_0 refusal.SheetShort e = omega arith
never_0 refusal.SheetDistance e = omega arith
never_0 refusal.SheetSide e = omega arith
never_0 refusal.SheetRecord e = omega arith
never_0 refusal.SheetSum e = omega arith
never_0 refusal.SheetNoRoom e = omega arith
never_0 refusal.MendPlace e = omega arith
never_0 refusal.MendNothing e = omega arith
never_0 refusal.WavNoRiff e = omega arith
never_0 refusal.WavEnds e = omega arith
never_0 refusal.WavNoFormat e = omega arith
never_0 refusal.WavShortFormat e = omega arith
never_0 refusal.WavFormat e = omega arith
never_0 refusal.WavChannels e = omega arith
never_0 refusal.WavBlock e = omega arith
never_0 refusal.SealNone e = omega arith
never_0 refusal.SealChecksum e = omega arith
never_0 refusal.SealSide e = omega arith
never_0 refusal.RecordingHead e = omega arith
never_0 refusal.RecordingAudio e = omega arith
never_0 refusal.RecordingSeal e = omega arith
never_0 refusal.RecordingRecords e = omega arith
never_0 refusal.RecordingTrailer e = omega arith
never_0 refusal.RecordingLonger e = omega arith
never_0 refusal.RecorderTooLong e = omega arith
never_0 refusal.RecorderRecords e = omega arith
never_0 refusal.RecorderSize e = omega arith
never_0 refusal.RecorderFrames e = omega arith
never_0 refusal.RecorderNoCut e = omega arith

pub told_done : {T : Type 0} (outcome : Result T Refusal) → told outcome ≡ 0 → IsOk outcome
told_done (Ok x) e = refl
told_done (Err why) e = absurd (never_0 why e)
