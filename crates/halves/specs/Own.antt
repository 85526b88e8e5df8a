-- The sister of call 2 (request 04): call 2 with our own lag, found in the share's own `input_mem`.
use Rattle.rules.specs.Common.{ℕ, List, Float}
use Rattle.rules.specs.Place.{get}
use Rattle.lag.specs.Lag.{own_lag}
use Rattle.frame.specs.Share.{input_mem}
use Rattle.frame.specs.Reply.{Reply}
use Rattle.frame.specs.Effect.{Effect}
use Rattle.frame.specs.Frame.{call2}

unfoldable pub call2_own : List Float → List Float → ℕ → ℕ → Effect Reply
call2_own share spectrum window sums = call2 share spectrum (own_lag (get input_mem share)) window sums
