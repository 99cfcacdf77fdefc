-- `screen::page_of`: it computes as the definition does. Assumes nothing.
use mathlib.Core.Path.{refl}
use Rattle.layout.specs.Screen.{point_page}
use Rattle.layout.proofs.screen.page_of.Goals as goal

pub returns : goal.returns
unfolding point_page
returns c = refl
