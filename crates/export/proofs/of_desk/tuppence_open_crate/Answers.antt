-- `tuppence_open_crate` meets its contract: it is the call of the desk, and its answer is handed back as numbers.
-- Assumes nothing.
use mathlib.Core.Path.{refl}
use Rattle.export.proofs.Handed.{hands_back, handed}
use Rattle.export.proofs.of_desk.tuppence_open_crate.Goals as goal

pub hand_back-requires : goal.hand_back-requires
hand_back-requires c = hands_back _ _ _ _ _ _ _ _ c.open-given.result c.record_in.ensures c.open-given.ensures

pub returns : goal.returns
returns c =
    handed _ _ _ _ _ _ _ _ c.open-given.result c.record_in.ensures c.open-given.ensures
    c.hand_back.ensures (λ _. refl)
