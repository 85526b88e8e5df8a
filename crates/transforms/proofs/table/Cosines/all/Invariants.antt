-- `transforms::table::Cosines::all` meets its contract. Assumes nothing.
use Rattle.std.specs.Prelude.{◌%◌, ◌≡◌}
use Rattle.rules.proofs.Common.{length, get_or, nan}
use Rattle.rules.proofs.Lists.{Filling}
use Rattle.transforms.proofs.table.Cosines.all.Given as goal

abbrev pub invariant-loop-i : goal.invariant-loop-i
invariant-loop-i l = (length l.initial.c-items ≡ 1200)
    × Filling (λ j. get_or l.cosine (j % 960) nan) l.initial.c-items l.i l.c-items
