-- `transforms::cosine::all` gives the definition's list, by computing. Assumes nothing.
use mathlib.Core.Path.{refl}
use Rattle.transforms.specs.Cosine.{cosine}
use Rattle.transforms.proofs.cosine.all.Goals as goal

pub returns : goal.returns
unfolding cosine
returns c = refl
