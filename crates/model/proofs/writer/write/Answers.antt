-- A refusal, or both halves of the file. Assumes nothing.
use native.Mathlib.Omega.{arith}
use Rattle.rules.proofs.Common.{refl}
use borrow.Author.Rules.{rules}
use borrow.Author.Tests.{ne_eqb}
use Rattle.model.specs.Writer.{write_model}
use Rattle.model.proofs.Over.{front, behind, both}
use Rattle.model.proofs.Accepted.{Arrays, head, tail, bytes_so, fits_so, refused_so, written_so}
use Rattle.model.proofs.Numbers.{misread_some}
use Rattle.model.proofs.writer.write.Goals as goal

pub returns-then-shapes-ne18 : goal.returns-then-shapes-ne18
unfolding write_model
returns-then-shapes-ne18 c = rw (ne_eqb _ 18 c.if-shapes-ne18.true)

pub returns-in_err-fault_of : goal.returns-in_err-fault_of
returns-in_err-fault_of c =
    let a = c.args in
    let x : Arrays = record {
      w0 = a.w0.now;
      b0 = a.b0.now;
      w1 = a.w1.now;
      r1 = a.r1.now;
      b1 = a.b1.now;
      w2 = a.w2.now;
      r2 = a.r2.now;
      b2 = a.b2.now;
      w3 = a.w3.now;
      r3 = a.r3.now;
      b3 = a.b3.now;
      w4 = a.w4.now;
      b4 = a.b4.now;
      w5 = a.w5.now;
      b5 = a.b5.now;
    } in
    let s = a.shapes.now in
    let due = refused_so s x a.out.now c.if-shapes-ne18.false c.in_err-fault_of.ensures
    (misread_some c.in_err-fault_of.field-0.0) in
    rw (← due) (search rules)

pub put_three-at-requires : goal.put_three-at-requires
put_three-at-requires c =
    let a = c.args in
    let x : Arrays = record {
      w0 = a.w0.now;
      b0 = a.b0.now;
      w1 = a.w1.now;
      r1 = a.r1.now;
      b1 = a.b1.now;
      w2 = a.w2.now;
      r2 = a.r2.now;
      b2 = a.b2.now;
      w3 = a.w3.now;
      r3 = a.r3.now;
      b3 = a.b3.now;
      w4 = a.w4.now;
      b4 = a.b4.now;
      w5 = a.w5.now;
      b5 = a.b5.now;
    } in
    let s = a.shapes.now in
    let bytes =
    bytes_so s x a.out.now c.if-shapes-ne18.false c.in_ok-fault_of.ensures refl in
    let fits =
    fits_so s x a.out.now c.if-shapes-ne18.false c.in_ok-fault_of.ensures refl in
    (omega arith, bytes, front 0 (head s x) (tail s x) _ fits)

pub put_three-requires : goal.put_three-requires
put_three-requires c =
    let a = c.args in
    let x : Arrays = record {
      w0 = a.w0.now;
      b0 = a.b0.now;
      w1 = a.w1.now;
      r1 = a.r1.now;
      b1 = a.b1.now;
      w2 = a.w2.now;
      r2 = a.r2.now;
      b2 = a.b2.now;
      w3 = a.w3.now;
      r3 = a.r3.now;
      b3 = a.b3.now;
      w4 = a.w4.now;
      b4 = a.b4.now;
      w5 = a.w5.now;
      b5 = a.b5.now;
    } in
    let s = a.shapes.now in
    let bytes = bytes_so s x a.out.now c.if-shapes-ne18.false c.in_ok-fault_of.ensures
    refl in
    let fits = fits_so s x a.out.now c.if-shapes-ne18.false c.in_ok-fault_of.ensures
    refl in
    (omega arith, bytes, behind c.put_three-at.ensures (tail s x) fits)

pub returns : goal.returns
returns c =
    let a = c.args in
    let x : Arrays = record {
      w0 = a.w0.now;
      b0 = a.b0.now;
      w1 = a.w1.now;
      r1 = a.r1.now;
      b1 = a.b1.now;
      w2 = a.w2.now;
      r2 = a.r2.now;
      b2 = a.b2.now;
      w3 = a.w3.now;
      r3 = a.r3.now;
      b3 = a.b3.now;
      w4 = a.w4.now;
      b4 = a.b4.now;
      w5 = a.w5.now;
      b5 = a.b5.now;
    } in
    let s = a.shapes.now in
    let fits = fits_so s x a.out.now c.if-shapes-ne18.false c.in_ok-fault_of.ensures
    refl in
    written_so s x a.out.now c.if-shapes-ne18.false c.in_ok-fault_of.ensures
    refl
    (both c.put_three-at.ensures (tail s x) fits
    c.put_three.ensures)
