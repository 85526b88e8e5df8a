-- A feed for a host that has numbers alone: what the function of the C surface returns and leaves.
use Rattle.rules.specs.Common.{ℕ, List, Float}
use Rattle.frame.specs.Effect.{Effect}
use Rattle.desk.specs.Answer.{Answer}
use Rattle.desk.specs.Surface.{record_in}
use Rattle.feed.specs.Feed.{Block, feed}

unfoldable pub hosted_feed : ℕ → ℕ → List ℕ → List Float → Block → List ℕ → ℕ → ℕ → ℕ → Effect Answer
hosted_feed benches bench ns store b model cleaned records answers =
    feed benches bench (record_in bench ns) store b model cleaned records answers
