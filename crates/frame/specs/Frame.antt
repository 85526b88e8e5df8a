-- The four calls of a frame on one share. The contracts of `frame` cite these definitions. A share does not
-- know to which bench it belongs.
use Rattle.std.specs.Prelude.{◌+◌, ◌-◌, ◌&&◌, ◌∷◌, ◌++◌}
use Rattle.rules.specs.Common.{ℕ, Bool, cond, not, List, [], eqb, ltb, length, pos, Float}
use Rattle.rules.specs.Common.{binary32, of_int}
use Rattle.rules.specs.F32.{◌⊕◌, ◌⊘◌, at, f32}
use Rattle.rules.specs.Place.{Place, get, put}
pub use Rattle.rules.specs.Refusals.{wrong}
use Rattle.rules.specs.Tab.{tab}
use Rattle.frame.specs.Written.{all}
use Rattle.samples.specs.Samples.{good}
use Rattle.numbers.specs.Filter.{high_pass, memory_of, memory_list, memory_after, outputs}
use Rattle.bands.specs.Windowed.{windowed}
use Rattle.model.specs.Model.{read_of}
use Rattle.model.specs.declared.Model.{Model}
use Rattle.model.specs.Reading.{Reading, Good, Refused as Unread}
use Rattle.features.specs.Silence.{energy, is_silent}
use Rattle.frame.specs.Effect.{Effect, refusal, unless}
use Rattle.frame.specs.Reply.{◌refusedIf◌, Reply, Done, Silent, Heard, Refused, Misread}
pub use Rattle.frame.specs.Share.{PART}
use Rattle.frame.specs.Share.{input_mem, synthesis_mem, kept_x, kept_ex, kept_lag, mem_hp_x}
use Rattle.frame.specs.Heard.{scaled, energies, Spoken, spoken}
use Rattle.frame.specs.declared.Hearing.{Hearing}

-- ---- call 1, from `shift_and_filter_input` and `transform_input` of features.rs

-- Rust: self.input_mem[i] = self.input_mem[i + FRAME_SIZE]; then the filtered samples are appended.
unfoldable pub shifted : List Float → List Float → List Float
shifted mem samples = tab 1248 (λ i. at mem (i + 480)) ++ samples

-- The 960 numbers of the input memory that end `lag` samples before its end.
abbrev pub recent : ℕ → Place
recent lag = record { at = 768 - lag; size = 960 }

-- What call 1 does if it is not refused. done2, done3 and done4 are the same for the other calls.
abbrev pub done1 : List Float → List Float → Effect Reply
done1 share samples =
    let memory = memory_of (get mem_hp_x share) in
    let mem = shifted (get input_mem share) (outputs high_pass memory samples) in
    record {
      answer = Done;
      kept = put mem_hp_x (put input_mem share mem) (memory_list (memory_after high_pass memory samples));
      written = all (windowed (get (recent 0) mem)) ∷ [];
    }

-- Call 1. Of an answer buffer, such as `window`, a call is given only the length.
unfoldable pub call1 : List Float → List Float → ℕ → Effect Reply
call1 share samples window =
    unless
    (5 refusedIf wrong ((length share, PART) ∷ (length samples, 480) ∷ (window, 960) ∷ [])
    ∷ 9 refusedIf not (good samples) ∷ []) share
    (done1 share samples)

-- ---- call 2, from `transform_input` and `compute_frame_features`

-- Rust: 1e-2 + self.ex[i]
unfoldable pub plus_hundredth : List Float → List Float
plus_hundredth ex = tab 22 (λ i. f32 0x3C23D70A ⊕ at ex i)

-- x, ex and the lag are kept in the share, for call 3.
unfoldable pub put_kept : List Float → List Float → ℕ → List Float
put_kept share spectrum lag =
    put kept_lag (put kept_ex (put kept_x share (scaled spectrum)) (energies spectrum)) (of_int binary32 (pos lag) ∷ [])

abbrev pub done2 : List Float → List Float → ℕ → Effect Reply
done2 share spectrum lag =
    record {
      answer = Done;
      kept = put_kept share spectrum lag;
      written = all (windowed (get (recent lag) (get input_mem share))) ∷ all (plus_hundredth (energies spectrum)) ∷ [];
    }

unfoldable pub call2 : List Float → List Float → ℕ → ℕ → ℕ → Effect Reply
call2 share spectrum lag window sums =
    unless
    (5 refusedIf wrong ((length share, PART) ∷ (length spectrum, 961) ∷ (window, 960) ∷ (sums, 22) ∷ [])
    ∷ 6 refusedIf ltb 768 lag ∷ []) share
    (done2 share spectrum lag)

-- ---- call 3, from `compute_frame_features` and `process_frame` of denoise.rs

-- A silent frame writes the first spectrum and changes nothing.
abbrev pub silent : List Float → Effect Reply
silent share = record { answer = Silent; kept = share; written = all (get kept_x share) ∷ [] }

abbrev pub heard : Float → Spoken → Effect Reply
heard e s = record { answer = Heard s.voice e; kept = s.share; written = all s.spectrum ∷ [] }

-- The sum of the band energies decides whether a frame is silent.
unfoldable pub done3 : List Float → ℕ → List Float → List Float → List ℕ → Model → Effect Reply
done3 share index spectrum logs bytes m =
    let e = energy (get kept_ex share) in
    cond (is_silent e) (silent share) (heard e (spoken share index spectrum logs bytes m))

-- Whether the model has the GRU sizes that the opening noted.
abbrev pub counted : Hearing → Model → Bool
counted hearing m =
    eqb m.vad_gru.neurons hearing.vad
    && (eqb m.noise_gru.neurons hearing.noise && eqb m.denoise_gru.neurons hearing.denoise)

-- The reply of the model's test: 7 with the model's own refusal and layer if it does not read, 8 if it has
-- other GRU sizes.
unfoldable pub checked : (Model → Bool) → Reading → Reply
checked same (Unread n l) = Misread n l
checked same (Good m) = cond (same m) Done (Refused 8)

-- Continue with the model. Refuse with 7 if it does not read (with its own refusal and layer), and with 8 if
-- its GRU sizes differ from those that the opening noted.
abbrev pub modelled : (Model → Bool) → Reading → List Float → (Model → Effect Reply) → Effect Reply
modelled same (Unread n l) share f = refusal (Misread n l) share
modelled same (Good m) share f = cond (same m) (f m) (refusal (Refused 8) share)

unfoldable pub call3 : List Float → Hearing → List Float → List Float → List ℕ → ℕ → Effect Reply
call3 share hearing spectrum logs model out =
    unless
    (5 refusedIf wrong ((length share, PART) ∷ (length spectrum, 961) ∷ (length logs, 22) ∷ (out, 961) ∷ [])
    ∷ 5 refusedIf ltb 7 hearing.index ∷ []) share
    (modelled (counted hearing) (read_of model) share (done3 share hearing.index spectrum logs model))

-- ---- call 4, from `frame_synthesis` of features.rs

-- Rust: *x /= 2.0; then `apply_window_in_place`
unfoldable pub window_buf : List Float → List Float
window_buf inverse = windowed (tab 960 (λ i. at inverse i ⊘ f32 0x40000000))

-- Rust: out[i] = self.window_buf[i] + self.synthesis_mem[i]
unfoldable pub overlapped : List Float → List Float → List Float
overlapped buf mem = tab 480 (λ i. at buf i ⊕ at mem i)

-- Rust: self.synthesis_mem[i] = self.window_buf[FRAME_SIZE + i]
unfoldable pub later_half : List Float → List Float
later_half buf = tab 480 (λ i. at buf (480 + i))

abbrev pub done4 : List Float → List Float → Effect Reply
done4 share inverse =
    let buf = window_buf inverse in
    record {
      answer = Done;
      kept = put synthesis_mem share (later_half buf);
      written = all (overlapped buf (get synthesis_mem share)) ∷ [];
    }

unfoldable pub call4 : List Float → List Float → ℕ → Effect Reply
call4 share inverse out =
    unless (5 refusedIf wrong ((length share, PART) ∷ (length inverse, 960) ∷ (out, 480) ∷ []) ∷ []) share
    (done4 share inverse)
