-- A refusal changes nothing, whichever call it is. Assumes nothing.
use Rattle.std.specs.Prelude.{◌++◌, ◌≡◌}
use Rattle.rules.proofs.Common.{ℕ, Bool, false, cond, List, [], refl, ap, ◌∙◌}
use Rattle.frame.specs.Written.{Written}
use Rattle.frame.proofs.Buffers.{to_none}
use Rattle.frame.specs.Effect.{Effect}
use Rattle.frame.specs.Reply.{Reply, passed}
use Rattle.desk.specs.Answer.{Answer}
use Rattle.desk.specs.Desk.{Ask, opening, call1, call2, call2_own, call3, call4, first_half, second_half, piece, resume}
use Rattle.desk.specs.Desk.{desk}
use Rattle.desk.specs.Surface.{numbers_of, record_in, told_besides, besides, hosted, handed_back}
use Rattle.desk.proofs.Buffers.{buffers_of, buffers}
use Rattle.desk.proofs.Kept.{refused_keeps}
use Rattle.whole.specs.Whole as whole
use Rattle.whole.specs.Surface.{hosted_frame, hosted_take}
use Rattle.whole.proofs.Halves.{frame_leaves, take_leaves}
use Rattle.feed.specs.Feed as feeding
use Rattle.feed.specs.Surface.{hosted_feed}
use Rattle.feed.proofs.Ranged.{feed_leaves}
use Rattle.surface.specs.Surface.{ask, frame, take, feed, RefusedLeaves}

-- the record that is handed back is the one that came
handed : (side : ℕ) (a : Answer) (ns : List ℕ) → passed a.reply ≡ false → handed_back side a ns ≡ ns
handed side a ns e = ap (λ (t : Bool). cond t (numbers_of side a.rec) ns) e

-- nothing is told besides
untold : (r : Reply) → passed r ≡ false → told_besides r ≡ []
untold r e = rw e

pub nor_besides : (a : Ask) (r : Reply) → passed r ≡ false → besides a r ≡ []
nor_besides (opening w m) r e = refl
nor_besides (call1 x w) r e = refl
nor_besides (call2 x l w s) r e = refl
nor_besides (call2_own x w s) r e = refl
nor_besides (call3 x l m o) r e = untold r e
nor_besides (call4 x o) r e = refl
nor_besides (first_half x s) r e = refl
nor_besides (second_half l m o) r e = untold r e
nor_besides (piece x o s) r e = refl
nor_besides (resume x l m o s) r e = untold r e

neither : {ws vs : List Written} → ws ≡ [] → vs ≡ [] → ws ++ vs ≡ []
neither e d = rw (e, d)

pub refused_leaves : RefusedLeaves
unfolding hosted hosted_frame hosted_take hosted_feed
refused_leaves n side ns store (ask a) e =
    let o = desk n side (record_in side ns) store a in
    let unwritten : o.written
    ≡ [] = to_none o.written
    (buffers n side (record_in side ns) store a ∙ ap (λ (t : Bool). cond t (buffers_of a) 0) e) in (
      handed side o.answer ns e,
      (refused_keeps n side (record_in side ns) store a e).1,
      neither unwritten (nor_besides a o.answer.reply e),
    )
refused_leaves n side ns store (frame x m out) e =
    let o = whole.frame n side (record_in side ns) store x m out in
    let same = frame_leaves n side (record_in side ns) store x m out e in (
      handed side o.answer ns e,
      ap (λ (g : Effect Answer). g.kept) same,
      neither (ap (λ (g : Effect Answer). g.written) same) (untold o.answer.reply e),
    )
refused_leaves n side ns store (take x m out answers) e =
    let o = whole.take n side (record_in side ns) store x m out answers in
    let same = take_leaves n side (record_in side ns) store x m out answers e in (
      handed side o.answer ns e,
      ap (λ (g : Effect Answer). g.kept) same,
      ap (λ (g : Effect Answer). g.written) same,
    )
refused_leaves n side ns store (feed b m cleaned records answers) e =
    let o = feeding.feed n side (record_in side ns) store b m cleaned records answers in
    let same = feed_leaves n side (record_in side ns) store b m cleaned records answers e in (
      handed side o.answer ns e,
      ap (λ (g : Effect Answer). g.kept) same,
      ap (λ (g : Effect Answer). g.written) same,
    )
