-- `memory::pages_fit`: its tests are the definition's. Assumes nothing.
use mathlib.Core.Path.{refl}
use Rattle.layout.specs.Memory.{pages_fit}
use Rattle.layout.proofs.memory.pages_fit.Goals as goal

pub returns : goal.returns
unfolding pages_fit
returns c = refl
