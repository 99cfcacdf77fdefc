-- `panel::refused`: a refusal's number is 1 to 10, so it fits its place. Assumes nothing.
use Rattle.numbers.proofs.Refusals.{refusal_between}
use native.Mathlib.Omega.{arith}
use Rattle.panel.proofs.refused.Goals as goal

pub pack-requires : goal.pack-requires
pack-requires c = omega (arith, c.into.ensures, (refusal_between c.args.refusal).1)
