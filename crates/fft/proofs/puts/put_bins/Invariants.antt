-- `fft::puts::put_bins` meets its contract. Assumes nothing.
use Rattle.std.specs.Prelude.{◌≡◌}
use Rattle.fft.specs.Private.{put_bins}
use Rattle.fft.proofs.puts.put_bins.Given as goal

abbrev pub invariant-loop-k : goal.invariant-loop-k
invariant-loop-k g l = l.out ≡ put_bins l.k l.initial.out l.n l.i l.w l.x l.y l.v
