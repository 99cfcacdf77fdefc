-- `bits::spread`: the product does not wrap, as the mask leaves at most itself. Assumes nothing.
use Rattle.bits.proofs.Fills.{fill_law}
use Rattle.bits.proofs.spread.Goals as goal

pub returns : goal.returns
returns c = fill_law c.args.x
