-- A share: the 6,144 numbers that one bench remembers. The first 3,778 belong to a frame, and only these are
-- lent to its calls. The fields of this part are below, place by place.
use Rattle.rules.specs.Common.{ℕ}
use Rattle.rules.specs.Place.{Place}

abbrev pub SHARE : ℕ
SHARE = 6144

abbrev pub PART : ℕ
PART = 3778

-- `DenoiseFeatures::input_mem`: the last 1,728 filtered samples
abbrev pub input_mem : Place
input_mem = record { at = 0; size = 1728 }

-- `DenoiseFeatures::synthesis_mem`: the second half of the last inverse transform
abbrev pub synthesis_mem : Place
synthesis_mem = record { at = 1728; size = 480 }

-- What call 2 keeps for call 3: `DenoiseFeatures::x`, `ex`, and `pitch_idx` as an f32
abbrev pub kept_x : Place
kept_x = record { at = 2208; size = 961 }

abbrev pub kept_ex : Place
kept_ex = record { at = 3169; size = 22 }

abbrev pub kept_lag : Place
kept_lag = record { at = 3191; size = 1 }

-- `DenoiseFeatures::mem_hp_x`: the two memories of the high-pass filter
abbrev pub mem_hp_x : Place
mem_hp_x = record { at = 3192; size = 2 }

-- `DenoiseState::lastg`: the gains that were last applied
abbrev pub lastg : Place
lastg = record { at = 3194; size = 22 }

-- `DenoiseFeatures::cepstral_mem`: 8 rows of 22
abbrev pub cepstral_mem : Place
cepstral_mem = record { at = 3216; size = 176 }

-- `RnnState::vad_gru_state`, `noise_gru_state` and `denoise_gru_state`
abbrev pub vad_state : Place
vad_state = record { at = 3392; size = 128 }

abbrev pub noise_state : Place
noise_state = record { at = 3520; size = 128 }

abbrev pub denoise_state : Place
denoise_state = record { at = 3648; size = 128 }

-- `PitchFinder::last_period` as an f32, and `last_gain`
abbrev pub finder_mem : Place
finder_mem = record { at = 3776; size = 2 }
