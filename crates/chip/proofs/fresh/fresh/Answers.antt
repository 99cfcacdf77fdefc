-- `chip::fresh::fresh`: each part is the definition's. Assumes nothing.
use Rattle.std.proofs.Common.{refl}
use Rattle.pixel.specs.Registers.{fresh_registers}
use Rattle.chip.specs.Video.{fresh_video, fresh_scan}
use Rattle.chip.specs.State.{slots, closed, fresh_control, fresh_with, fresh_of}
use Rattle.chip.proofs.fresh.fresh.Goals as goal

pub returns : goal.returns
unfolding fresh_of fresh_with fresh_control fresh_registers fresh_video fresh_scan slots closed
returns c = refl
