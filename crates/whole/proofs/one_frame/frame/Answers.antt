-- `whole::one_frame::frame` meets its contract: it is refused, or said over the side's share. Assumes nothing.
use Rattle.std.specs.Prelude.{◌*◌, ◌<◌, ◌≡◌}
use native.Mathlib.Omega.{arith}
use Rattle.rules.proofs.Common.{ℕ, List, Float, length, refl}
use Rattle.rules.specs.Place.{get, put}
use Rattle.frame.specs.Share.{SHARE}
use Rattle.frame.specs.Reply.{Done}
use Rattle.desk.specs.declared.Record.{Record}
use Rattle.desk.specs.Gate.{BENCHES}
use Rattle.desk.proofs.Results.{refused_fails, same_error}
use Rattle.desk.proofs.Turned.{through}
use Rattle.dictation.specs.Dictation.{frame_on}
use Rattle.whole.specs.Whole.{our_lent, frame_reply, frame}
use Rattle.whole.proofs.Accepted.{Frame, frame_known}
use Rattle.whole.proofs.Behind.{frame_ready, refused, done_there}
use Rattle.whole.proofs.one_frame.frame.Goals as goal

-- past the tests
known : (side : ℕ) (rec : Record) (store samples : List Float) (model : List ℕ) (out : ℕ)
    → Done ≡ frame_reply BENCHES side rec (length store) samples model out
    → Frame BENCHES side rec store samples model out
known side rec store samples model out e = frame_known BENCHES side rec store samples model out e refl

inside : {side : ℕ} {rec : Record} {store samples : List Float} {model : List ℕ} {out : ℕ}
    → Frame BENCHES side rec store samples model out → (side < BENCHES) × (length store ≡ BENCHES * SHARE)
inside {side = side} {rec = rec} {store = store} f = through BENCHES side rec (length store) 1 f.gated

pub returns-in_err-frame_reply : goal.returns-in_err-frame_reply
unfolding frame
returns-in_err-frame_reply c =
    let a = c.args in
    rw (same_error _ _ c.from_residual.ensures.1)
    (refused _ a.side.0 a.rec a.store.now
    (λ share. frame_on a.rec share a.samples.now (our_lent a.model.now)) c.in_err-frame_reply.ensures
    (refused_fails c.in_err-frame_reply.field-0.0))

pub overflow_mul-start : goal.overflow_mul-start
overflow_mul-start c =
    let k = known _ _ _ _ _ _ c.in_ok-frame_reply.ensures in
    omega (arith, inside k)

pub overflow_add-end : goal.overflow_add-end
overflow_add-end c =
    let k = known _ _ _ _ _ _ c.in_ok-frame_reply.ensures in
    omega (arith, inside k)

pub offset_bounds-store-start : goal.offset_bounds-store-start
offset_bounds-store-start c =
    let k = known _ _ _ _ _ _ c.in_ok-frame_reply.ensures in
    omega (arith, inside k)

pub slice_bounds-process_frame-count : goal.slice_bounds-process_frame-count
slice_bounds-process_frame-count c =
    let k = known _ _ _ _ _ _ c.in_ok-frame_reply.ensures in
    omega (arith, inside k)

pub slice_bounds-process_frame-start : goal.slice_bounds-process_frame-start
slice_bounds-process_frame-start c =
    let k = known _ _ _ _ _ _ c.in_ok-frame_reply.ensures in
    omega (arith, inside k)

pub slice_bounds-process_frame-end : goal.slice_bounds-process_frame-end
slice_bounds-process_frame-end c =
    let k = known _ _ _ _ _ _ c.in_ok-frame_reply.ensures in
    omega (arith, inside k)

pub process_frame-requires : goal.process_frame-requires
unfolding get
process_frame-requires c =
    let a = c.args in
    let r = frame_ready BENCHES a.side.0 a.rec a.store.now a.samples.now a.model.now
    (known _ _ _ _ _ _ c.in_ok-frame_reply.ensures) in
    record { fit = r.0; samples_len = r.1 }

pub returns : goal.returns
unfolding frame get put
returns c =
    let a = c.args in
    done_there _ a.side.0 a.rec a.store.now
    (λ share. frame_on a.rec share a.samples.now (our_lent a.model.now)) c.in_ok-frame_reply.ensures refl
    c.process_frame.ensures
