-- `whole::refusals::both_good` meets its contract. Assumes nothing.
use Rattle.std.specs.Prelude.{◌+◌, ◌-◌, ◌*◌, ◌≤◌, ◌<◌, ◌≡◌}
use Rattle.rules.proofs.Common.{ℕ, List, sym, ◌∙◌, length, Float}
use native.Mathlib.Nat.{add-sub_cancel_left}
use native.Mathlib.Omega.{arith}
use Rattle.rules.specs.Place.{get}
use Rattle.rules.proofs.Places.{get_get}
use Rattle.frame.specs.Share.{SHARE, PART}
use Rattle.pieces.specs.Pieces.{waiting_place, waiting_in}
use Rattle.desk.specs.Gate.{BENCHES, share_of}
use Rattle.whole.proofs.Accepted.{good_bad, good_rest}
use Rattle.whole.proofs.refusals.both_good.Goals as goal

-- the samples that wait on a side, as a part of the store
lent : (side waiting : ℕ) (store : List Float) → side < BENCHES → length store ≡ BENCHES * SHARE → waiting ≤ 479
    → let start = side * SHARE + PART in
    get (record { at = start; size = start + waiting - start }) store ≡ waiting_in waiting (get (share_of side) store)
lent side waiting store h l w =
    rw (add-sub_cancel_left (side * SHARE + PART) waiting)
    (sym (get_get (share_of side) (waiting_place waiting) store (omega arith) (omega arith)))

pub returns-then-all_good : goal.returns-then-all_good
unfolding get
returns-then-all_good c =
    let a = c.args in
    let part = lent a.side a.waiting a.store.now c.requires.0 c.requires.1 c.requires.2 in
    c.all_good-then-all_good.ensures
    ∙ sym (good_rest _ a.samples.now (rw part at (sym c.all_good.ensures ∙ c.if-all_good.true)))

pub returns-else-all_good : goal.returns-else-all_good
unfolding get
returns-else-all_good c =
    let a = c.args in
    let part = lent a.side a.waiting a.store.now c.requires.0 c.requires.1 c.requires.2 in
    c.if-all_good.false ∙ sym (good_bad _ a.samples.now (rw part at (sym c.all_good.ensures ∙ c.if-all_good.false)))
