-- A piece leaves of the record all but the call that is due, the samples that wait and the piece under way: one law
-- over the field. Assumes nothing.
use Rattle.std.specs.Prelude.{◌≡◌}
use Rattle.rules.proofs.Common.{ℕ, Bool, true, false, cond, ltb}
use Rattle.desk.specs.declared.Record.{Record}
use Rattle.desk.specs.Desk.{holding, carried}

pub carried_leaves : {A : Type 0} (field : Record → A) (b : Record)
    → ((due waiting size progress : ℕ) → field (holding due b waiting size progress) ≡ field b)
    → (rest size progress : ℕ) → field (carried b rest size progress) ≡ field b
unfolding carried
carried_leaves field b same rest size progress = go (ltb rest 480)
  where
    go : (t : Bool) → field (cond t (holding 1 b rest 0 0) (holding 3 b 0 size progress)) ≡ field b
    go true = same 1 rest 0 0
    go false = same 3 0 size progress
