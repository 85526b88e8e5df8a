-- The floats that a sum may be which starts from +0. Laws: proofs/Plain.antt.
use Rattle.rules.specs.Common.{zero, suc, Bool, true, false, Float, nan, inf, fin}

-- anything but -0
abbrev pub plain : Float → Bool
plain nan = true
plain (inf s) = true
plain (fin false m e) = true
plain (fin true zero e) = false
plain (fin true (suc m) e) = true
