-- `screen::bank_of`: it computes as the definition does. Assumes nothing.
use mathlib.Core.Path.{refl}
use Rattle.layout.specs.Screen.{point_bank}
use Rattle.layout.proofs.screen.bank_of.Goals as goal

pub returns : goal.returns
unfolding point_bank
returns c = refl
