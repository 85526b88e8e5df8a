-- `whole::one_piece::take` meets its contract: it is refused, or its samples are dictated over the side's share.
-- Assumes nothing.
use Rattle.std.specs.Prelude.{◌*◌, ◌<◌, ◌≡◌}
use Rattle.rules.proofs.Common.{ℕ, List, Float, length, refl}
use native.Mathlib.Omega.{arith}
use Rattle.rules.specs.Place.{get, put}
use Rattle.frame.specs.Share.{SHARE}
use Rattle.frame.specs.Reply.{Done}
use Rattle.desk.specs.declared.Record.{Record}
use Rattle.desk.specs.Gate.{BENCHES}
use Rattle.desk.proofs.Results.{refused_fails, same_error}
use Rattle.desk.proofs.Turned.{through}
use Rattle.whole.specs.Whole.{taken_on, take_reply, take}
use Rattle.whole.proofs.Accepted.{Take, take_known}
use Rattle.whole.proofs.Behind.{take_ready, refused, done_there}
use Rattle.whole.proofs.one_piece.take.Goals as goal

-- past the tests
known : (side : ℕ) (rec : Record) (store piece : List Float) (model : List ℕ) (out answers : ℕ)
    → Done ≡ take_reply BENCHES side rec store piece model out answers
    → Take BENCHES side rec store piece model out answers
known side rec store piece model out answers e = take_known BENCHES side rec store piece model out answers e refl

inside : {side : ℕ} {rec : Record} {store piece : List Float} {model : List ℕ} {out answers : ℕ}
    → Take BENCHES side rec store piece model out answers → (side < BENCHES) × (length store ≡ BENCHES * SHARE)
inside {side = side} {rec = rec} {store = store} f = through BENCHES side rec (length store) 5 f.gated

pub returns-in_err-take_reply : goal.returns-in_err-take_reply
unfolding take
returns-in_err-take_reply c =
    let a = c.args in
    rw (same_error _ _ c.from_residual.ensures.1)
    (refused _ a.side.0 a.rec a.store.now (λ share. taken_on a.rec share a.piece.now a.model.now)
    c.in_err-take_reply.ensures (refused_fails c.in_err-take_reply.field-0.0))

pub overflow_mul-start : goal.overflow_mul-start
overflow_mul-start c =
    let k = known _ _ _ _ _ _ _ c.in_ok-take_reply.ensures in
    omega (arith, inside k)

pub overflow_add-end : goal.overflow_add-end
overflow_add-end c =
    let k = known _ _ _ _ _ _ _ c.in_ok-take_reply.ensures in
    omega (arith, inside k)

pub offset_bounds-store-start : goal.offset_bounds-store-start
offset_bounds-store-start c =
    let k = known _ _ _ _ _ _ _ c.in_ok-take_reply.ensures in
    omega (arith, inside k)

pub slice_bounds-dictate-count : goal.slice_bounds-dictate-count
slice_bounds-dictate-count c =
    let k = known _ _ _ _ _ _ _ c.in_ok-take_reply.ensures in
    omega (arith, inside k)

pub slice_bounds-dictate-start : goal.slice_bounds-dictate-start
slice_bounds-dictate-start c =
    let k = known _ _ _ _ _ _ _ c.in_ok-take_reply.ensures in
    omega (arith, inside k)

pub slice_bounds-dictate-end : goal.slice_bounds-dictate-end
slice_bounds-dictate-end c =
    let k = known _ _ _ _ _ _ _ c.in_ok-take_reply.ensures in
    omega (arith, inside k)

pub dictate-last-requires : goal.dictate-last-requires
unfolding get
dictate-last-requires c =
    let a = c.args in
    let r = take_ready BENCHES a.side.0 a.rec a.store.now a.piece.now a.model.now
    (known _ _ _ _ _ _ _ c.in_ok-take_reply.ensures) in
    record { fit = r.0; ready = r.1 }

pub returns : goal.returns
unfolding take get put
returns c =
    let a = c.args in
    done_there _ a.side.0 a.rec a.store.now
    (λ share. taken_on a.rec share a.piece.now a.model.now) c.in_ok-take_reply.ensures refl
    c.dictate-last.ensures
