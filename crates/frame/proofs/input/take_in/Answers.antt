-- `frame::input::take_in` meets its contract: what each call leaves, in a row. Assumes nothing.
use Rattle.std.specs.Prelude.{◌+◌, ◌++◌, ◌≡◌}
use Rattle.rules.proofs.Common.{List, [], ap, ◌∙◌, length, take, drop, length-take, length-drop}
use Rattle.rules.proofs.Common.{length-append, Float}
use mathlib.Core.List.{append-nil}
use native.Mathlib.Omega.{arith}
use lib.ListN.{drop_of_length-le}
use Rattle.rules.specs.F32.{at}
use Rattle.rules.specs.Place.{get}
use Rattle.rules.specs.Tab.{tab}
use Rattle.rules.proofs.Refusals.{left as fitted, fitting}
use Rattle.numbers.specs.Filter.{high_pass, outputs}
use Rattle.bands.specs.Windowed.{windowed}
use Rattle.frame.proofs.Answered.{unwrapped}
use Rattle.frame.specs.Frame.{shifted}
use Rattle.frame.proofs.input.take_in.Goals as goal

-- what is written behind the moved numbers makes the input memory
placed : (mem new m : List Float) {out : List Float} → length m ≡ 1728 → take 1248 m ≡ tab 1248 (λ i. at mem (i + 480))
    → out ≡ new
    → take 1248 m ++ (out ++ drop 480 (drop 1248 m)) ≡ shifted mem new
unfolding shifted
placed mem new m size moved filtered =
    let none : drop 480 (drop 1248 m) ≡ [] =
    drop_of_length-le (drop 1248 m) {i = 480} (simp length-drop (omega arith)) in
    rw (none, moved, filtered, append-nil new)

pub returns : goal.returns
unfolding get
returns c =
    let a = c.args in
    let m = c.shift.new.mem in
    let size : length m ≡ 1728 = omega arith in
    let part : length (take 480 (drop 1248 m)) ≡ length a.samples.now =
    simp (length-take, length-drop) (omega arith) in
    let mem = placed a.mem.now (outputs high_pass a.memory a.samples.now) m size c.shift.ensures
    (fitted c.filter.ensures part) in
    let window = fitted c.apply_window.ensures
    (record { into = omega arith; from = simp (length-take, length-drop, length-append) (omega arith) }) in record {
      value = unwrapped c.unwrap-next.ensures (fitting c.filter.ensures part);
      mem_after = mem;
      window_after = window ∙ ap (λ (l : List Float). windowed (take 960 (drop 768 l))) mem;
    }
