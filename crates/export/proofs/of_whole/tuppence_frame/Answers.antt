-- `tuppence_frame` meets its contract: it is a frame of `whole`, and its answer is handed back as numbers.
-- Assumes nothing.
use Rattle.rules.proofs.Common.{ℕ, List, [], length, Float}
use native.Mathlib.Omega.{arith}
use Rattle.rules.specs.Place.{get, put}
use Rattle.desk.specs.declared.Record.{Record}
use Rattle.desk.specs.Gate.{BENCHES}
use Rattle.whole.specs.Whole.{frame}
use Rattle.whole.specs.Surface.{hosted_frame}
use Rattle.whole.proofs.Ranged.{frame_range, frame_seated, frame_buffers, frame_no_out}
use Rattle.export.proofs.Given.{Sound, Telling, hands_back, no_more, three, told_three}
use Rattle.export.proofs.of_whole.tuppence_frame.Goals as goal

module _ (side : ℕ) (b : Record) (store samples : List Float) (model : List ℕ) where
  sound : (out : ℕ) → Sound side b (frame BENCHES side b store samples model out).answer
  sound out =
      record {
        ranged = frame_range BENCHES side b store samples model out;
        seated = frame_seated BENCHES side b store samples model out;
      }

  known : Telling 1 (frame BENCHES side b store samples model)
  known =
      record {
        no_place = frame_no_out BENCHES side b store samples model;
        writes = frame_buffers BENCHES side b store samples model;
      }

pub slice_bounds-frame-end : goal.slice_bounds-frame-end
slice_bounds-frame-end c =
    let a = c.args in
    omega (arith, c.places-end.ensures, no_more (length a.answer.now) (length a.out.now))

pub tell-requires : goal.tell-requires
unfolding get
tell-requires c =
    let a = c.args in
    three a.side _ _ (frame BENCHES a.side c.record_in.result a.store.now a.samples.now
    a.model.now) a.out.now a.answer.now _ [] [] _ c.frame-given.result c.places-end.result
    c.record_in.ensures (known a.side c.record_in.result a.store.now a.samples.now a.model.now) c.places-end.ensures
    c.frame-given.ensures

pub hand_back-requires : goal.hand_back-requires
hand_back-requires c =
    let a = c.args in
    hands_back a.side _ _ c.frame-given.result c.record_in.ensures
    (sound a.side c.record_in.result a.store.now a.samples.now a.model.now _)
    c.frame-given.ensures.answers

pub returns : goal.returns
unfolding get put hosted_frame
returns c =
    let a = c.args in
    rw (← c.record_in.ensures)
    (told_three a.side _ _ (frame BENCHES a.side c.record_in.result a.store.now a.samples.now
    a.model.now) a.out.now a.answer.now _ [] [] _ c.frame-given.result c.places-end.result
    c.record_in.ensures (known a.side c.record_in.result a.store.now a.samples.now a.model.now) c.places-end.ensures
    c.frame-given.ensures
    (omega (arith, c.frame-given.auto)) c.tell.ensures c.hand_back.ensures)
