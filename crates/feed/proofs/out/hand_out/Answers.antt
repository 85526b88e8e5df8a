-- `feed::out::hand_out` meets its contract: each part that is lent comes back filled. Assumes nothing.
use Rattle.std.specs.Prelude.{◌-◌, ◌*◌, ◌≡◌}
use Rattle.rules.proofs.Common.{ℕ, List, ap, ◌∙◌, length, length-take, Float}
use native.Mathlib.Nat.{sub-zero}
use native.Mathlib.Omega.{arith}
use Rattle.rules.specs.F32.{part}
use Rattle.rules.specs.Place.{put}
use Rattle.rules.proofs.Refusals.{left}
use Rattle.rules.proofs.Lists.{length_tab}
use Rattle.pcm.specs.Pcm.{packed}
use Rattle.frame.specs.Written.{at_front}
use Rattle.feed.proofs.out.hand_out.Goals as goal

-- what fills a front part of a list
filled : (n : ℕ) (new held : List ℕ) → length new ≡ n
    → put (record { at = 0; size = n - 0 }) held new ≡ at_front new held
unfolding put
filled n new held e = rw (sub-zero n, ← e)

packed_length : (xs : List Float) → length (packed xs) ≡ 2 * length xs
unfolding packed
packed_length xs = length_tab (2 * length xs) _

pub returns : goal.returns
unfolding put
returns c =
    let a = c.args in
    let some = part 0 (480 * a.frames) a.out.now in
    let size : length some ≡ 480 * a.frames = simp length-take (omega arith) in (
      ap (λ (x : List ℕ). put (record { at = 0; size = 960 * a.frames - 0 }) a.cleaned.now x)
          (left c.pack.ensures (record { size = simp length-take (omega arith) }))
          ∙ filled (960 * a.frames) (packed some) a.cleaned.now (omega (arith, packed_length some, size)),
      c.note_each.ensures,
    )
