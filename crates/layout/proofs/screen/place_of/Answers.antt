-- `screen::place_of`: its fields are the definition's, by what `bank_of` and `page_of` ensure. Assumes nothing.
use Rattle.layout.specs.Screen.{point_at}
use Rattle.layout.proofs.screen.place_of.Goals as goal

pub returns : goal.returns
unfolding point_at
returns c = cc
