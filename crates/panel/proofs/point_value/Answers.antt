-- `panel::point_value`: each number below the next one's place, so the sum does not wrap. Assumes nothing.
use Rattle.panel.specs.Packs.{point_value}
use native.Mathlib.Omega.{arith}
use Rattle.panel.proofs.point_value.Goals as goal

pub returns : goal.returns
unfolding point_value
returns c = omega arith
