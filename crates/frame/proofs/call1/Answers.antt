-- `frame::call1` meets its contract. Assumes nothing.
use Rattle.std.specs.Prelude.{◌∷◌}
use Rattle.rules.proofs.Common.{List, [], refl, sym, ap, ap₂, ◌∙◌, length, length-set, length-drop, length-append}
use Rattle.rules.proofs.Common.{Float}
use native.Mathlib.Omega.{arith}
use Rattle.rules.specs.Place.{get, put}
use Rattle.rules.proofs.Places.{put_sets}
use Rattle.numbers.specs.declared.filter.Memory.{Memory}
use Rattle.frame.specs.Share.{input_mem, mem_hp_x}
use Rattle.numbers.specs.Filter.{memory_list}
use Rattle.frame.proofs.Done.{call1_done}
use Rattle.frame.proofs.Sizes.{at_get}
use Rattle.frame.proofs.call1.Goals as goal

pub bounds-share-3193-2 : goal.bounds-share-3193-2
bounds-share-3193-2 c = simp length-set (omega arith)

pub returns : goal.returns
unfolding put get
returns c =
    let w = c.take_in-next in
    let taken = (rw c.unwrap.ensures at c.as_array.ensures.cases).same in
    let done = rw taken at w.ensures in
    let a = c.args in
    let share = a.share.now in
    let fine = sym c.all_good.ensures ∙ c.if-not-all_good.false in
    rw (
      call1_done share (omega arith) a.samples.now (length a.window.now) (omega arith) (omega arith) fine,
      at_get mem_hp_x share 0 (omega arith),
      at_get mem_hp_x share 1 (omega arith),
    )
    (record {
      answers = refl;
      keeps =
          put_sets (put input_mem share w.new.mem) (memory_list w.result) 3192
          (simp (length-append, length-drop) (omega arith))
          ∙ ap₂ (λ (mem : List Float) (m : Memory). put mem_hp_x (put input_mem share mem) (memory_list m))
          done.mem_after done.value;
      writes = ap (λ (l : List Float). l ∷ []) done.window_after;
    })
