-- Refusals, and the numbers of docs/REFUSALS.md.
use Rattle.std.specs.Prelude.{Result, Ok, Err}
use Rattle.rules.specs.Common.{ℕ}
use Rattle.rules.specs.declared.refusal.Refusal.{Refusal}
use Rattle.rules.specs.declared.refusal.Refusal.TheVariants.{NoSuchSide, OutOfRange, Closed, NotDue, WrongLength}
use Rattle.rules.specs.declared.refusal.Refusal.TheVariants.{LagTooLarge, OtherCounts, BadSample, ModelNoHeader}
use Rattle.rules.specs.declared.refusal.Refusal.TheVariants.{ModelInputs, ModelNeurons, ModelActivation}
use Rattle.rules.specs.declared.refusal.Refusal.TheVariants.{ModelNoNeurons, ModelArray, ModelBytesLeft, ModelEnds}
use Rattle.rules.specs.declared.refusal.Refusal.TheVariants.{ModelVadGru, ModelNoiseGru, ModelDenoiseGru}
use Rattle.rules.specs.declared.refusal.Refusal.TheVariants.{ModelDenoiseOutput, ModelNoRoom, SheetShort}
use Rattle.rules.specs.declared.refusal.Refusal.TheVariants.{SheetDistance, SheetSide, SheetRecord, SheetSum}
use Rattle.rules.specs.declared.refusal.Refusal.TheVariants.{SheetNoRoom, MendPlace, MendNothing, WavNoRiff, WavEnds}
use Rattle.rules.specs.declared.refusal.Refusal.TheVariants.{WavNoFormat, WavShortFormat, WavFormat, WavChannels}
use Rattle.rules.specs.declared.refusal.Refusal.TheVariants.{WavBlock, SealNone, SealChecksum, SealSide}
use Rattle.rules.specs.declared.refusal.Refusal.TheVariants.{RecordingHead, RecordingAudio, RecordingSeal}
use Rattle.rules.specs.declared.refusal.Refusal.TheVariants.{RecordingRecords, RecordingTrailer, RecordingLonger}
use Rattle.rules.specs.declared.refusal.Refusal.TheVariants.{RecorderTooLong, RecorderRecords, RecorderSize}
use Rattle.rules.specs.declared.refusal.Refusal.TheVariants.{RecorderFrames, RecorderNoCut}

abbrev pub refusal_number : Refusal → ℕ
refusal_number NoSuchSide = 1
refusal_number OutOfRange = 2
refusal_number Closed = 3
refusal_number NotDue = 4
refusal_number WrongLength = 5
refusal_number LagTooLarge = 6
refusal_number OtherCounts = 8
refusal_number BadSample = 9
refusal_number ModelNoHeader = 11
refusal_number ModelInputs = 12
refusal_number ModelNeurons = 13
refusal_number ModelActivation = 14
refusal_number ModelNoNeurons = 15
refusal_number ModelArray = 16
refusal_number ModelBytesLeft = 17
refusal_number ModelEnds = 18
refusal_number ModelVadGru = 19
refusal_number ModelNoiseGru = 20
refusal_number ModelDenoiseGru = 21
refusal_number ModelDenoiseOutput = 22
refusal_number ModelNoRoom = 24
refusal_number SheetShort = 31
refusal_number SheetDistance = 32
refusal_number SheetSide = 33
refusal_number SheetRecord = 34
refusal_number SheetSum = 35
refusal_number SheetNoRoom = 36
refusal_number MendPlace = 37
refusal_number MendNothing = 38
refusal_number WavNoRiff = 41
refusal_number WavEnds = 42
refusal_number WavNoFormat = 43
refusal_number WavShortFormat = 44
refusal_number WavFormat = 45
refusal_number WavChannels = 46
refusal_number WavBlock = 47
refusal_number SealNone = 51
refusal_number SealChecksum = 52
refusal_number SealSide = 53
refusal_number RecordingHead = 61
refusal_number RecordingAudio = 62
refusal_number RecordingSeal = 63
refusal_number RecordingRecords = 64
refusal_number RecordingTrailer = 65
refusal_number RecordingLonger = 66
refusal_number RecorderTooLong = 67
refusal_number RecorderRecords = 68
refusal_number RecorderSize = 69
refusal_number RecorderFrames = 70
refusal_number RecorderNoCut = 71

-- What a host is told of an outcome: 0 if it is done, and else the number of its refusal.
abbrev pub told : {A : Type 0} → Result A Refusal → ℕ
told (Ok _) = 0
told (Err refusal) = refusal_number refusal
