-- Laws of the gate.
--     none          where it gives 0, no test of the table holds
--     through       where it gives 0, the side and the store are right
--     gate_own      of a side and a store that are right, the side's own record decides alone
--     closed_opens  a closed side lets nothing through but an opening
-- Assumes nothing.
use Rattle.std.specs.Prelude.{◌*◌, ◌<◌, ◌≡◌}
use Rattle.rules.proofs.Common.{ℕ, Bool, true, false, true≢false, refl, eqb, ltb}
use borrow.Author.Tests.{lt-ltb, eq-eqb, ltb-true, eqb-true, not-false}
use Rattle.rules.proofs.Refusals.{cleared, Clear}
use Rattle.frame.specs.Share.{SHARE}
use Rattle.desk.specs.declared.Record.{Record}
use Rattle.desk.specs.Gate.{refusals, gate}

module _ (benches side : ℕ) (b : Record) (len call : ℕ) where
  -- no test of the table holds
  pub none : gate benches side b len call ≡ 0 → Clear (refusals benches side b len call)
  unfolding gate
  none e = cleared (refusals benches side b len call) tt e

  pub through : gate benches side b len call ≡ 0 → (side < benches) × (len ≡ benches * SHARE)
  through e =
      let c = none e in (
        ltb-true side benches (not-false (ltb side benches) c.0),
        eqb-true len (benches * SHARE) (not-false (eqb len (benches * SHARE)) c.1.0),
      )

  pub gate_own : side < benches → len ≡ benches * SHARE → gate benches side b len call ≡ gate 1 0 b SHARE call
  unfolding gate
  gate_own h l = simp (lt-ltb side benches h, eq-eqb len (benches * SHARE) l)

  pub closed_opens : b.due ≡ 0 → gate benches side b len call ≡ 0 → call ≡ 0
  closed_opens z e = go (eqb call 0) refl
    where
      go : (t : Bool) → eqb call 0 ≡ t → call ≡ 0
      go true h = eqb-true call 0 h
      go false h =
          let wrong : true ≡ false = rw (h, eq-eqb b.due 0 z) at (none e).1.1.1.0 in absurd (true≢false wrong)
