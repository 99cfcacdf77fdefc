-- `video::transfers::in_use`: the two tests of the definition. Assumes nothing.
use mathlib.Core.Path.{refl}
use Rattle.chip.specs.Video.{buffer_of, in_use}
use Rattle.video.proofs.transfers.in_use.Goals as goal

pub returns : goal.returns
unfolding in_use buffer_of
returns c = refl
