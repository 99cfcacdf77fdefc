-- `runs::run`. The invariant: the calls that are left, made on what those so far left, leave and tell what all the calls do on
-- what was there at first. Assumes nothing.
use mathlib.Core.Path.{◌≡◌}
use Rattle.runs.specs.Runs.{left}
use Rattle.runs.proofs.EachCall.{goes}
use Rattle.runs.proofs.run.Given as goal

abbrev pub invariant-loop-i : goal.invariant-loop-i
invariant-loop-i l =
    goes l.numbers l.i (left l.ran l.memory l.told) ≡ goes l.numbers 0 (left l.initial.ran l.initial.memory l.initial.told)
