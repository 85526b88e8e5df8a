-- What a half can give: what holds of every refusal, and of what its two calls give one after the other, holds of the
-- half. Assumes nothing.
use Rattle.std.specs.Prelude.{◌≤◌, ◌∷◌, ◌≡◌}
use Rattle.rules.proofs.Common.{ℕ, List, [], refl, sym, subst, ltb, length, drop, Float}
use native.Mathlib.Omega.{arith}
use mathlib.Core.Logic.{inl}
use Rattle.rules.specs.Place.{get}
use Rattle.frame.specs.Written.{first_in}
use Rattle.model.specs.Model.{read_of}
use Rattle.model.specs.declared.Model.{Model}
use Rattle.model.specs.Reading.{Good, Refused as Unread}
use Rattle.frame.specs.declared.Hearing.{Hearing}
use Rattle.frame.specs.Reply.{Reply, Silent, Heard, Refused, Misread, ◌refusedIf◌}
use Rattle.frame.specs.declared.Way.{Way}
use Rattle.frame.specs.Share.{PART, kept_x}
use Rattle.frame.specs.Heard.{spoken}
use Rattle.frame.specs.Effect.{Effect, refusal}
use Rattle.frame.specs.Frame.{done1, call1, done2, call3, done4}
use Rattle.frame.proofs.Beside.{done1_beside, done3_beside}
use Rattle.frame.proofs.Cases.{by_its_number, by_table, call1_by, call3_by}
use Rattle.frame.proofs.Done.{call2_done, call4_done}
use Rattle.frame.proofs.Keeps.{end}
use Rattle.halves.specs.Ways.{lag_by, remembered, forward_by, inverse_by}
use Rattle.halves.specs.Halves.{onward, analysed, first_half, looked_back, synthesised, second_half}
use Rattle.halves.proofs.EitherWay.{lag_fits, length_forward, length_inverse, whole_remembered}

-- ---- what the two calls of a half give, where nothing is refused

abbrev pub done_first : List Float → Way → List Float → Effect Reply
done_first share way samples =
    let a = done1 share samples in
    let b = done2 (remembered way a.kept) (forward_by way (first_in a.written)) (lag_by way a.kept) in
    record { answer = b.answer; kept = b.kept; written = drop 1 b.written }

-- from call 3's reply, its share and its spectrum on
abbrev pub done_second : Reply → List Float → Way → List Float → Effect Reply
done_second reply share way spectrum =
    let b = done4 share (inverse_by way spectrum) in
    record { answer = reply; kept = b.kept; written = b.written }

module _ (share samples : List Float) (whole : length share ≡ PART) (l : length samples ≡ 480) where
  -- call 1 keeps the share's length
  pub whole_after_1 : length (done1 share samples).kept ≡ PART
  whole_after_1 = (done1_beside end share samples (inl (omega arith), (inl (omega arith), tt)) whole l).size

  analysed_done : (way : Way) (sums : ℕ) → sums ≡ 22 → let a = done1 share samples in
      analysed a.kept way (first_in a.written) sums ≡ done_first share way samples
  analysed_done way sums e =
      let a = done1 share samples in
      rw (call2_done (remembered way a.kept) (whole_remembered a.kept way whole_after_1)
      (forward_by way (first_in a.written)) (lag_by way a.kept) 960 sums
      (length_forward way (first_in a.written)) refl e (lag_fits way a.kept))

synthesised_done : (reply : Reply) (share : List Float) (way : Way) (spectrum : List Float) (out : ℕ)
    → length share ≡ PART → out ≡ 480
    → synthesised reply share way spectrum out ≡ done_second reply share way spectrum
synthesised_done reply share way spectrum out whole e =
    rw (call4_done share whole (inverse_by way spectrum) out (length_inverse way spectrum) e)

-- ---- the halves, for a claim P that every refusal meets

module _ (share : List Float) (P : Effect Reply → Type 0) (bad : (n : ℕ) → P (refusal (Refused n) share)) where
  pub first_half_by : (way : Way) (samples : List Float) (sums : ℕ)
      → (length share ≡ PART → length samples ≡ 480 → P (done_first share way samples))
      → P (first_half share way samples sums)
  unfolding first_half
  first_half_by way samples sums h =
      by_table share P bad ((length share, PART) ∷ (length samples, 480) ∷ (sums, 22) ∷ []) []
      (onward (call1 share samples 960) second) tt
      (λ r _. call1_by share (λ f. P (onward f second)) bad samples 960
      (λ whole l. subst P (sym (analysed_done share samples whole l way sums r.1.1.0)) (h whole l)))
    where
      second : Effect Reply → Effect Reply
      second a = analysed a.kept way (first_in a.written) sums

  -- a model that is refused comes with what the reader says of it
  pub second_half_by : (hearing : Hearing) (logs : List Float) (model : List ℕ) (out : ℕ)
      → ((n l : ℕ) → Unread n l ≡ read_of model → P (refusal (Misread n l) share))
      → (length share ≡ PART → P (done_second Silent share hearing.way (get kept_x share)))
      → ((e : Float) (m : Model) → read_of model ≡ Good m → length share ≡ PART → hearing.index ≤ 7
      → let s = spoken share hearing.index (forward_by hearing.way (looked_back share)) logs model m in
      P (done_second (Heard s.voice e) s.share hearing.way s.spectrum))
      → P (second_half share hearing logs model out)
  unfolding second_half
  second_half_by hearing logs model out misread still h =
      by_table share P bad ((length share, PART) ∷ (length logs, 22) ∷ (out, 480) ∷ [])
      (5 refusedIf ltb 7 hearing.index ∷ []) (onward (call3 share hearing spectrum logs model 961) second)
      (by_its_number share P bad 5 (ltb 7 hearing.index), tt)
      (λ r c.
      call3_by share (λ f. P (onward f second)) bad hearing spectrum logs model 961 misread
      (subst P (sym (synthesised_done Silent share hearing.way (get kept_x share) out r.0 r.1.1.0))
      (still r.0))
      (λ e m good whole inside.
      let s = spoken share hearing.index spectrum logs model m in
      subst P
      (sym (synthesised_done (Heard s.voice e) s.share hearing.way s.spectrum out
      (whole_after_3 m good whole inside) r.1.1.0)) (h e m good whole inside)))
    where
      spectrum : List Float
      spectrum = forward_by hearing.way (looked_back share)

      second : Effect Reply → Effect Reply
      second a = synthesised a.answer a.kept hearing.way (first_in a.written) out

      whole_after_3 : (m : Model) → read_of model ≡ Good m → length share ≡ PART → hearing.index ≤ 7
          → length (spoken share hearing.index spectrum logs model m).share ≡ PART
      whole_after_3 m good whole inside =
          (done3_beside end share hearing.index spectrum logs model m
          (inl (omega arith), (inl (omega arith), (inl (omega arith), (inl (omega arith), (inl (omega arith), tt)))))
          good whole inside).size
