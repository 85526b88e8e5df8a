-- `frame::input::shift` meets its contract. Assumes nothing.
use Rattle.std.specs.Prelude.{◌+◌, ◌≡◌}
use Rattle.rules.proofs.Common.{List, sym, ap, ◌∙◌, length, take, drop, length-take, length-drop, nan, Float}
use native.Mathlib.Omega.{arith}
use lib.Seq.{take_at}
use Rattle.rules.specs.F32.{at}
use Rattle.rules.specs.Tab.{tab}
use Rattle.rules.proofs.Lists.{tab_same, tab_get_d}
use Rattle.frame.proofs.input.shift.Goals as goal

further_on : (mem : List Float) → length mem ≡ 1728 → tab 1248 (λ i. at mem (i + 480)) ≡ take 1248 (drop 480 mem)
further_on mem size =
    tab_same 1248 _ _ (λ i h. ap (at mem) (let e : i + 480 ≡ 480 + i = omega arith in e))
    ∙ tab_get_d mem 480 1248 nan (omega arith)

pub returns : goal.returns
returns c =
    let mem = c.args.mem.now in
    let front : length (take 1248 (drop 480 mem)) ≡ 1248 = simp (length-take, length-drop) (omega arith) in
    ap (take 1248) c.copy_within.ensures.after ∙ take_at _ _ 1248 front ∙ sym (further_on mem c.requires)
