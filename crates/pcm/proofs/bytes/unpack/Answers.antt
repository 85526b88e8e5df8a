-- `pcm::bytes::unpack` meets its contract: a refusal by the tests, else what the core ensures. Assumes nothing.
use Rattle.rules.proofs.Common.{refl, ap, ◌∙◌}
use Rattle.std.proofs.Common.{mul-pos, arith}
use Rattle.rules.specs.Leaf.{refused}
use Rattle.pcm.specs.Pcm.{width}
use Rattle.pcm.proofs.Patterns.{uneven, otherwise}
use Rattle.pcm.proofs.bytes.unpack.Goals.{then-bytes-block-ne0-via-then-bytes-block-ne0}
use Rattle.pcm.proofs.bytes.unpack.Goals.{then-bytes-block-ne0-via-else-bytes-block-ne0+then-bytes-block}
use Rattle.pcm.proofs.bytes.unpack.Goals as goal

pub returns-then-bytes-block-ne0 : goal.returns-then-bytes-block-ne0
returns-then-bytes-block-ne0 c =
    let wide = c.width.ensures.0 ∙ ap width c.in-Ok.ensures in
    refused (elim c.then-bytes-block-ne0.branch [
      | then-bytes-block-ne0-via-then-bytes-block-ne0 w ↦ uneven _ _ _ _ _ _ wide w.if-bytes-block-ne0.true
      | then-bytes-block-ne0-via-else-bytes-block-ne0+then-bytes-block w ↦
          otherwise _ _ _ _ _ _ wide (mul-pos (omega arith) c.width.ensures.1) w.if-bytes-block.true
    ]) refl
