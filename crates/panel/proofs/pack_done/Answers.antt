-- `panel::pack_done`, by its four cases: value, pass and written each lie below the next one's place, so no sum wraps. Assumes nothing.
use Rattle.chip.specs.Answers.{packed}
use native.Mathlib.Omega.{arith}
use Rattle.panel.proofs.pack_done.Goals as goal

pub returns-then-written : goal.returns-then-written
unfolding packed
returns-then-written c = rw (c.if-pass.true, c.if-written.true) (omega arith)

pub returns-then-pass : goal.returns-then-pass
unfolding packed
returns-then-pass c = rw (c.if-pass.true, c.if-written.false) (omega arith)

pub returns-then-written-2 : goal.returns-then-written-2
unfolding packed
returns-then-written-2 c = rw (c.if-pass.false, c.if-written-2.true) (omega arith)

pub returns : goal.returns
unfolding packed
returns c = rw (c.if-pass.false, c.if-written-2.false) (omega arith)
