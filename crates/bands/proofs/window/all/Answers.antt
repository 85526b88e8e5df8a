-- `bands::window::all` gives the definition's list, by computing. Assumes nothing.
use mathlib.Core.Path.{refl}
use Rattle.bands.specs.Window.{window}
use Rattle.bands.proofs.window.all.Goals as goal

pub returns : goal.returns
unfolding window
returns c = refl
