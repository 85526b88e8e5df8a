-- Without rounding, the fast transforms are the plain sums. Assumes nothing.
use Rattle.fft.specs.Laws.{ForwardIsPlain, InverseIsPlain}
use Rattle.fft.proofs.ForwardExact.{forward_exact}
use Rattle.fft.proofs.InverseExact.{inverse_exact}

pub forward_is_plain : ForwardIsPlain
forward_is_plain A o R c K x = forward_exact o R c K x

pub inverse_is_plain : InverseIsPlain
inverse_is_plain A o R c K x = inverse_exact o R c K x
