-- Of the numbers of refusals: none is 0, and none is above 71. Assumes nothing.
use Rattle.std.specs.Prelude.{◌≤◌, ◌≡◌}
use native.Mathlib.Omega.{arith}
use Rattle.rules.specs.Refusal.{refusal_number}
use Rattle.rules.specs.declared.refusal.Refusal.{Refusal}
use Rattle.model.specs.declared.Misread.{Misread}
use Rattle.model.specs.Summary.{layer_number}
use Rattle.rules.specs.declared.refusal.Refusal.TheVariants.{NoSuchSide, OutOfRange, Closed, NotDue, WrongLength}
use Rattle.rules.specs.declared.refusal.Refusal.TheVariants.{LagTooLarge, OtherCounts, BadSample, ModelNoHeader}
use Rattle.rules.specs.declared.refusal.Refusal.TheVariants.{ModelInputs, ModelNeurons, ModelActivation}
use Rattle.rules.specs.declared.refusal.Refusal.TheVariants.{ModelNoNeurons, ModelArray, ModelBytesLeft, ModelEnds}
use Rattle.rules.specs.declared.refusal.Refusal.TheVariants.{ModelVadGru, ModelNoiseGru, ModelDenoiseGru}
use Rattle.rules.specs.declared.refusal.Refusal.TheVariants.{ModelDenoiseOutput, ModelNoRoom, SheetShort}
use Rattle.rules.specs.declared.refusal.Refusal.TheVariants.{SheetDistance, SheetSide, SheetRecord, SheetSum}
use Rattle.rules.specs.declared.refusal.Refusal.TheVariants.{SheetNoRoom, MendPlace, MendNothing, WavNoRiff, WavEnds}
use Rattle.rules.specs.declared.refusal.Refusal.TheVariants.{WavNoFormat, WavShortFormat, WavFormat, WavChannels}
use Rattle.rules.specs.declared.refusal.Refusal.TheVariants.{WavBlock, SealNone, SealChecksum, SealSide}
use Rattle.rules.specs.declared.refusal.Refusal.TheVariants.{RecordingHead, RecordingAudio, RecordingSeal}
use Rattle.rules.specs.declared.refusal.Refusal.TheVariants.{RecordingRecords, RecordingTrailer, RecordingLonger}
use Rattle.rules.specs.declared.refusal.Refusal.TheVariants.{RecorderTooLong, RecorderRecords, RecorderSize}
use Rattle.rules.specs.declared.refusal.Refusal.TheVariants.{RecorderFrames, RecorderNoCut}

pub number_in_range : (r : Refusal) → (1 ≤ refusal_number r) × (refusal_number r ≤ 71)
number_in_range NoSuchSide = omega arith
number_in_range OutOfRange = omega arith
number_in_range Closed = omega arith
number_in_range NotDue = omega arith
number_in_range WrongLength = omega arith
number_in_range LagTooLarge = omega arith
number_in_range OtherCounts = omega arith
number_in_range BadSample = omega arith
number_in_range ModelNoHeader = omega arith
number_in_range ModelInputs = omega arith
number_in_range ModelNeurons = omega arith
number_in_range ModelActivation = omega arith
number_in_range ModelNoNeurons = omega arith
number_in_range ModelArray = omega arith
number_in_range ModelBytesLeft = omega arith
number_in_range ModelEnds = omega arith
number_in_range ModelVadGru = omega arith
number_in_range ModelNoiseGru = omega arith
number_in_range ModelDenoiseGru = omega arith
number_in_range ModelDenoiseOutput = omega arith
number_in_range ModelNoRoom = omega arith
number_in_range SheetShort = omega arith
number_in_range SheetDistance = omega arith
number_in_range SheetSide = omega arith
number_in_range SheetRecord = omega arith
number_in_range SheetSum = omega arith
number_in_range SheetNoRoom = omega arith
number_in_range MendPlace = omega arith
number_in_range MendNothing = omega arith
number_in_range WavNoRiff = omega arith
number_in_range WavEnds = omega arith
number_in_range WavNoFormat = omega arith
number_in_range WavShortFormat = omega arith
number_in_range WavFormat = omega arith
number_in_range WavChannels = omega arith
number_in_range WavBlock = omega arith
number_in_range SealNone = omega arith
number_in_range SealChecksum = omega arith
number_in_range SealSide = omega arith
number_in_range RecordingHead = omega arith
number_in_range RecordingAudio = omega arith
number_in_range RecordingSeal = omega arith
number_in_range RecordingRecords = omega arith
number_in_range RecordingTrailer = omega arith
number_in_range RecordingLonger = omega arith
number_in_range RecorderTooLong = omega arith
number_in_range RecorderRecords = omega arith
number_in_range RecorderSize = omega arith
number_in_range RecorderFrames = omega arith
number_in_range RecorderNoCut = omega arith

pub misread_some : (e : Misread) → layer_number e ≡ 0 → ⊥
misread_some e none = omega (arith, (number_in_range e.refusal).0)
