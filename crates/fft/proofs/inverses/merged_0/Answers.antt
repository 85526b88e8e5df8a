-- `fft::inverses::merged_0` meets its contract. Assumes nothing.
use mathlib.Core.Path.{refl}
use Rattle.fft.proofs.Ends.{bin_in_0, bin_in_480}
use Rattle.fft.proofs.inverses.merged_0.Goals as goal

pub returns : goal.returns
returns c =
    let x = c.args.x.now in
    rw (bin_in_0 x 0 refl, bin_in_480 x 480 refl) c.merge.ensures
