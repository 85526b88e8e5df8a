-- `pieces::begin::piece` meets its contract: the tests turn it away, or what its parts leave makes it what the
-- definition says. Assumes nothing.
use Rattle.std.specs.Prelude.{◌++◌, ◌≡◌}
use Rattle.rules.proofs.Common.{ℕ, true, List, [], refl, ap, ◌∙◌, length, Float}
use native.Mathlib.Omega.{arith}
use Rattle.samples.specs.Samples.{good}
use Rattle.frame.specs.Reply.{Reply, passed}
use Rattle.frame.proofs.Answered.{passed_on, refused_lem}
use Rattle.pieces.specs.Pieces.{waiting_in, padded_to}
use Rattle.pieces.specs.Private.{piece_reply}
use Rattle.pieces.proofs.Accepted.{Piece, piece_accepted}
use Rattle.pieces.proofs.Goods.{good_append, good_padded}
use Rattle.pieces.proofs.Padding.{length_padded}
use Rattle.pieces.proofs.Serve.{piece_refused, piece_ends, piece_pauses}
use Rattle.pieces.proofs.Shares.{waits_length}
use Rattle.pieces.proofs.begin.piece.Goals as goal

-- past the tests, with the samples that wait and those of the piece
module _ (share : List Float) (waiting : ℕ) (samples : List Float) (out sums : ℕ) {r : Reply}
    (e : r ≡ piece_reply share waiting samples out sums) (z : passed r ≡ true) where
  took : Piece share waiting samples out sums
  took = piece_accepted share waiting samples out sums (rw e at z)

  module _ (first : List Float) (f : first ≡ padded_to 480 (waiting_in waiting share ++ samples)) where
    first_length : length first ≡ 480
    first_length = ap length f ∙ length_padded 480 _

    first_good : good first ≡ true
    first_good = ap good f ∙ good_padded 480 _ (good_append _ _ took.waited took.fine)

-- ---- the three ways to end

pub returns-in_err-piece_tests : goal.returns-in_err-piece_tests
returns-in_err-piece_tests c =
    let e = c.in_err-piece_tests in
    rw (passed_on _ _ c.from_residual.ensures.1)
    (piece_refused _ _ _ _ _ _ _ e.ensures (refused_lem e.field-0.0))

pub returns-then-waiting-samples-lt480 : goal.returns-then-waiting-samples-lt480
returns-then-waiting-samples-lt480 c =
    piece_ends _ _ _ _ _ _ _ c.in_ok-piece_tests.ensures refl _
    c.gather.ensures c.if-waiting-samples-lt480.true c.settle.ensures

pub returns : goal.returns
returns c =
    piece_pauses _ _ _ _ _ _ _ c.in_ok-piece_tests.ensures refl _
    c.gather.ensures c.if-waiting-samples-lt480.false c.empty.ensures c.enter.ensures.share_after
    c.enter.ensures.sums_after

-- ---- what the parts ask for

pub gather-requires : goal.gather-requires
gather-requires c =
    let k = took _ _ _ _ _ c.in_ok-piece_tests.ensures refl in
    (k.size, k.waits)

pub overflow_add-waiting : goal.overflow_add-waiting
overflow_add-waiting c =
    let k = took _ _ _ _ _ c.in_ok-piece_tests.ensures refl in
    omega (arith, k.waits, k.few)

pub settle-requires : goal.settle-requires
settle-requires c =
    let e = c.in_ok-piece_tests.ensures in
    ((took _ _ _ _ _ e refl).size, first_length _ _ _ _ _ e refl _ c.gather.ensures)

pub empty-requires : goal.empty-requires
empty-requires c = (took _ _ _ _ _ c.in_ok-piece_tests.ensures refl).size

pub enter-requires : goal.enter-requires
enter-requires c =
    let e = c.in_ok-piece_tests.ensures in
    let k = took _ _ _ _ _ e refl in (
      ap length c.empty.ensures ∙ waits_length _ k.size [],
      first_length _ _ _ _ _ e refl _ c.gather.ensures,
      first_good _ _ _ _ _ e refl _ c.gather.ensures,
      k.places,
    )
