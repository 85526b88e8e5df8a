-- What an opening noted stays until the next (`noted_stays`). Assumes nothing.
use Rattle.std.specs.Prelude.{◌≡◌}
use Rattle.rules.proofs.Common.{Bool, true, false, cond, refl, length}
use Rattle.rules.specs.Place.{get}
use Rattle.frame.specs.Reply.{passed}
use Rattle.frame.specs.Reply.{Reply}
use Rattle.desk.specs.declared.Record.{Record}
use Rattle.desk.specs.Gate.{gate, share_of}
use Rattle.desk.specs.Desk.{Ask, opening, call1, call2, call2_own, call3, call4, first_half, second_half, piece}
use Rattle.desk.specs.Desk.{resume, call_of, advanced, numbered, recorded, admitted, desk}
use Rattle.desk.specs.Laws.{noted, NotedStays}
use Rattle.desk.proofs.Leaves.{carried_leaves}

moved : (b : Record) (ask : Ask) (reply : Reply) → (call_of ask ≡ 0 → ⊥)
    → noted (recorded b ask reply).hearing ≡ noted b.hearing
moved b (opening w m) reply other = absurd (other refl)
moved b (call1 x w) reply other = refl
moved b (call2 x l w s) reply other = refl
moved b (call2_own x w s) reply other = refl
moved b (call3 x l m o) reply other = refl
moved b (call4 x o) reply other = refl
moved b (first_half x s) reply other = refl
moved b (second_half l m o) reply other = refl
moved b (piece x o s) reply other = carried_leaves (λ (r : Record). noted r.hearing) b (λ _ _ _ _. refl) _ _ _
moved b (resume x l m o s) reply other =
    carried_leaves (λ (r : Record). noted r.hearing) (numbered (advanced b reply)) (λ _ _ _ _. refl) _ _ _

pub noted_stays : NotedStays
unfolding desk
noted_stays n side b store ask other = go (passed reply)
  where
    reply : Reply
    reply = (admitted b (get (share_of side) store) ask (gate n side b (length store) (call_of ask))).answer

    go : (t : Bool) → noted (cond t (recorded b ask reply) b).hearing ≡ noted b.hearing
    go true = moved b ask reply other
    go false = refl
