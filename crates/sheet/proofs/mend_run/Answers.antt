use Rattle.std.specs.Prelude.{◌-◌, ◌+◌, ◌*◌, ◌≤◌, ◌++◌, ◌≡◌}
use Rattle.rules.proofs.Common.{ℕ, List, sym, ap, ◌∙◌, length, take, drop}
use Rattle.rules.proofs.Common.{length-take}
use native.Mathlib.Omega.{arith}
use borrow.Author.Tests.{lt-ltb, le-ltb, eq-eqb, ne_eqb}
use lib.Seq.{get_or-drop}
use Rattle.rules.proofs.Refusals.{leave_both}
use Rattle.sheet.specs.Sheet.{sheet_bytes}
use Rattle.sheet.specs.Mended.{kept, torn}
use Rattle.sheet.proofs.Kept.{kept_known}
use Rattle.sheet.proofs.Sided.{named, known}
use Rattle.sheet.proofs.Mending.{by_run, part_kept, size_anew, run_within, part_size, lay_anew}
use Rattle.sheet.proofs.mend_run.Goals as goal

-- what is kept behind the place
module _ (s : List ℕ) (at n : ℕ) (before : at ≤ length s) (told : n ≡ kept (take (length s - at) (drop at s))) where
  kept_there : n ≡ kept (drop at s)
  kept_there = told ∙ ap kept (part_kept s at)

  some_kept : (n ≡ 0 → ⊥) → kept (drop at s) ≡ 0 → ⊥
  some_kept h e = h (kept_there ∙ e)

  within : at + 8 * n ≤ length s
  within = run_within s at before kept_there

  size : length (take at s ++ sheet_bytes (torn (drop at s))) ≡ at + 8 * n + 16
  size = size_anew s at before kept_there

pub returns-then-records-eq0 : goal.returns-then-records-eq0
returns-then-records-eq0 c = rw (
  ← by_run c.args.file.now c.args.at c.args.numbers.now c.args.out.now c.requires.0
      c.requires.1 c.requires.2,
  eq-eqb _ 0 (sym (kept_there c.args.file.now c.args.at _ c.requires.1
      c.kept_of-records.ensures) ∙ c.if-records-eq0.true),
)

pub returns-then-records-gt536870911 : goal.returns-then-records-gt536870911
returns-then-records-gt536870911 c = rw (
  ← by_run c.args.file.now c.args.at c.args.numbers.now c.args.out.now
      c.requires.0 c.requires.1 c.requires.2,
  ← kept_there c.args.file.now c.args.at _ c.requires.1
      c.kept_of-records.ensures,
  ne_eqb _ 0 c.if-records-eq0.false,
  lt-ltb _ _ c.if-records-gt536870911.true,
)

pub returns-then-out-size : goal.returns-then-out-size
returns-then-out-size c =
    rw (
      ← by_run c.args.file.now c.args.at c.args.numbers.now c.args.out.now c.requires.0 c.requires.1 c.requires.2,
      size c.args.file.now c.args.at _ c.requires.1 c.kept_of-records.ensures,
      ← kept_there c.args.file.now c.args.at _ c.requires.1 c.kept_of-records.ensures,
      ne_eqb _ 0 c.if-records-eq0.false,
      le-ltb _ _ c.if-records-gt536870911.false,
      lt-ltb _ _ c.if-out-size.true,
    )

pub bounds-file-at : goal.bounds-file-at
bounds-file-at c = omega (
  arith,
  within c.args.file.now c.args.at _ c.requires.1 c.kept_of-records.ensures,
  c.if-records-eq0.false,
)

pub unwrap-side-requires : goal.unwrap-side-requires
unwrap-side-requires c =
    let s = c.args.file.now in
    known _ c.of_number.ensures
    (rw (get_or-drop c.args.at s 5 0) at
    (kept_known (drop c.args.at s)
    (some_kept s c.args.at _ c.requires.1 c.kept_of-records.ensures c.if-records-eq0.false)))

pub slice_bounds-copy_from_slice-end-2 : goal.slice_bounds-copy_from_slice-end-2
slice_bounds-copy_from_slice-end-2 c = simp length-take (omega arith)

pub slice_bounds-copy_from_slice-end-3 : goal.slice_bounds-copy_from_slice-end-3
slice_bounds-copy_from_slice-end-3 c =
    simp length-take
    (omega (arith, within c.args.file.now c.args.at _ c.requires.1 c.kept_of-records.ensures))

pub copy_from_slice-requires : goal.copy_from_slice-requires
copy_from_slice-requires c =
    simp length-take
    (omega (
      arith,
      within c.args.file.now c.args.at _ c.requires.1 c.kept_of-records.ensures,
      c.if-out-size.false,
    ))

pub close-requires : goal.close-requires
close-requires c =
    let s = c.args.file.now in (
      part_size s c.args.at c.requires.1 (kept_there c.args.file.now c.args.at _ c.requires.1 c.kept_of-records.ensures)
          c.args.out.now
          c.copy_from_slice.ensures.after
          c.if-out-size.false,
      omega (arith, c.if-records-gt536870911.false),
    )

pub returns : goal.returns
returns c =
    let s = c.args.file.now in
    let at = c.args.at in
    let out = c.args.out.now in
    let bytes = take at s ++ sheet_bytes (torn (drop at s)) in
    let some =
    some_kept c.args.file.now c.args.at _ c.requires.1 c.kept_of-records.ensures
    c.if-records-eq0.false in
    let few = rw (kept_there c.args.file.now c.args.at _ c.requires.1 c.kept_of-records.ensures) at
    c.if-records-gt536870911.false in
    let room : length bytes ≤ length out =
    rw (size c.args.file.now c.args.at _ c.requires.1 c.kept_of-records.ensures) c.if-out-size.false in
    let laid = lay_anew s at c.requires.1 (kept_there c.args.file.now c.args.at _ c.requires.1
    c.kept_of-records.ensures) out (λ i. omega (arith, c.type_inv.file i))
    (named _ _ c.of_number.ensures c.unwrap-side.ensures ∙ sym (get_or-drop at s 5 0))
    c.copy_from_slice.ensures.after c.close.ensures in
    rw (
      ← by_run c.args.file.now c.args.at c.args.numbers.now c.args.out.now c.requires.0 c.requires.1 c.requires.2,
      ne_eqb (kept (drop at s)) 0 some,
      le-ltb 536870911 (kept (drop at s)) few,
      le-ltb (length out) (length bytes) room,
      size c.args.file.now c.args.at _ c.requires.1 c.kept_of-records.ensures,
    )
    (leave_both (c.copy_from_slice-2.ensures.after
    ∙ rw (← kept_there c.args.file.now c.args.at _ c.requires.1 c.kept_of-records.ensures)) laid)
