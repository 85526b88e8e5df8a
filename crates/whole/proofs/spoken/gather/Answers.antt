-- `whole::spoken::gather` meets its contract. Assumes nothing.
use Rattle.std.specs.Prelude.{◌+◌, ◌-◌, ◌*◌, ◌++◌, ◌≡◌}
use native.Mathlib.Nat.{add-sub_cancel_left}
use native.Mathlib.Omega.{arith}
use Rattle.rules.proofs.Common.{ℕ, sym, ap, ◌∙◌, length, drop, length-drop}
use lib.Seq.{take_all, drop-append-add}
use Rattle.rules.specs.Place.{get}
use Rattle.frame.specs.Share.{PART}
use Rattle.pieces.specs.Pieces.{waiting_in}
use Rattle.pieces.proofs.Shares.{waiting_length}
use Rattle.whole.proofs.spoken.gather.Goals as goal

pub returns-then-j-eq0 : goal.returns-then-j-eq0
unfolding get
returns-then-j-eq0 c =
    let a = c.args in
    c.join.ensures ∙ rw (c.if-j-eq0.true, add-sub_cancel_left PART a.waiting)

pub returns : goal.returns
unfolding get
returns c =
    let a = c.args in
    let piece = a.piece.now in
    let start = 480 * a.j - a.waiting in
    let sum : a.waiting + start ≡ 480 * a.j = omega (arith, c.if-j-eq0.false, c.requires) in
    let all = take_all (length piece - start) (drop start piece) (simp length-drop (omega arith)) in
    let ws = waiting_in a.waiting a.share.now in
    let long = waiting_length a.share.now c.requires.0 a.waiting c.requires.1 in
    let rest : drop (480 * a.j) (ws ++ piece) ≡ drop start piece =
    ap (λ (m : ℕ). drop m (ws ++ piece)) (sym (ap (λ (m : ℕ). m + start) long ∙ sum))
    ∙ drop-append-add ws piece start in
    c.join-2.ensures ∙ rw (all, rest)
