-- What the calls of a frame bring to the memory of their bench: call 2 brings the first spectrum and the lag, and a
-- heard call 3 the second spectrum, the logarithms and the model. Nothing else does.
use Rattle.std.specs.Prelude.{◌∷◌}
use Rattle.rules.specs.Common.{ℕ, cond, List, [], pos, Float, binary32, of_int}
use Rattle.rules.specs.F32.{f32, zeros}
use Rattle.rules.specs.Place.{get}
use Rattle.features.specs.Features.{normalised_corr}
use Rattle.frame.specs.Share.{lastg, cepstral_mem, vad_state, noise_state, denoise_state}
use Rattle.frame.specs.Heard.{scaled, energies}
use Rattle.memory.specs.Hear.{Recalled, HeardFrame}
use Rattle.memory.specs.Calls.{FrameCall, one, two, three, four}

-- What is remembered in a share. (The index of the cepstra is in the record.)
abbrev pub recalled_in : ℕ → List Float → Recalled
recalled_in index share =
    record {
      gains = get lastg share;
      cepstra = get cepstral_mem share;
      index = index;
      vad = get vad_state share;
      noise = get noise_state share;
      denoise = get denoise_state share;
    }

-- What call 2 notes for call 3.
pub record Noted : Type 0 where
  -- The first spectrum, scaled.
  pub x : List Float
  -- Its band energies.
  pub ex : List Float
  -- The lag.
  pub lag : Float

-- What is noted at an opening: zeros.
abbrev pub unnoted : Noted
unnoted = record { x = zeros 961; ex = zeros 22; lag = f32 0 }

-- What call 2 notes of this spectrum and this lag.
abbrev pub noting : List Float → ℕ → Noted
noting spectrum lag = record { x = scaled spectrum; ex = energies spectrum; lag = of_int binary32 (pos lag) }

-- The heard frame that call 3 makes of what was noted and of the second spectrum: their band correlations, normalised
-- by the energies of both.
abbrev pub heard_frame : Noted → List Float → List Float → List ℕ → HeardFrame
heard_frame k p logs model =
    record {
      logs = logs;
      correlations = normalised_corr k.x (scaled p) k.ex (energies p);
      lag = k.lag;
      model = model;
    }

-- The heard frames that calls bring, in order, if the last call 2 before them noted k.
unfoldable pub brought : Noted → List FrameCall → List HeardFrame
brought k [] = []
brought k (one ∷ cs) = brought k cs
brought k (two x lag ∷ cs) = brought (noting x lag) cs
brought k (three heard x logs m ∷ cs) = cond heard (heard_frame k x logs m ∷ brought k cs) (brought k cs)
brought k (four ∷ cs) = brought k cs
