-- `whole::spoken::step` meets its contract: its samples, the frame, and three answers. Assumes nothing.
use Rattle.std.specs.Prelude.{◌*◌, ◌++◌}
use native.Mathlib.Nat.{add-sub_cancel_left}
use native.Mathlib.Omega.{arith}
use Rattle.rules.proofs.Common.{◌∙◌}
use Rattle.rules.specs.Place.{get, put}
use Rattle.rules.proofs.Places.{length_get}
use Rattle.pieces.specs.Pieces.{waiting_in}
use Rattle.whole.proofs.Said.{samples_length, gathered, gathered_length, gathered_good, stepped, lent_from}
use Rattle.whole.proofs.spoken.step.Goals as goal

pub gather-requires : goal.gather-requires
gather-requires c =
    let r = c.requires in
    (r.fit.whole, r.ready.few, r.ready.short, omega (arith, r.ready.enough))

pub process_frame-told-requires : goal.process_frame-told-requires
unfolding get
process_frame-told-requires c =
    let a = c.args in
    let r = c.requires.ready in
    let long = samples_length a.j c.requires.fit.whole r in record {
      fit = c.requires.fit;
      samples_len = (
        gathered_length _ a.j long c.gather.ensures,
        gathered_good _ a.j long c.gather.ensures r.fine,
        length_get (lent_from a.j) a.out.now (omega (arith, r.room)) ∙ add-sub_cancel_left (480 * a.j) 480,
      );
    }

pub tell-requires : goal.tell-requires
tell-requires c =
    let r =
    c.requires.ready in omega (arith, r.places)

pub returns : goal.returns
unfolding get put
returns c =
    let a = c.args in
    let r = c.requires.ready in
    let long = samples_length a.j c.requires.fit.whole r in
    let s = stepped a.rec a.share.now a.model.now a.out.now a.j c.requires.fit
    (waiting_in a.waiting a.share.now ++ a.piece.now) a.answers.now
    (gathered _ a.j long c.gather.ensures) c.process_frame-told.ensures c.tell.ensures in
    record { value = s.0; share_after = s.1.0; out_after = s.1.1.0; answers_after = s.1.1.1 }
