-- `panel::pack`: the value below the number's place, so the sum does not wrap. Assumes nothing.
use Rattle.chip.specs.Answers.{packed}
use native.Mathlib.Omega.{arith}
use Rattle.panel.proofs.pack.Goals as goal

pub returns : goal.returns
unfolding packed
returns c = omega arith
