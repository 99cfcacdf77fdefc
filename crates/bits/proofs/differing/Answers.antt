-- `bits::differing`: byte by byte it is `differing_law`, and neither the sum nor the product wraps. Assumes nothing.
use Rattle.bits.proofs.Differs.{differing_law}
use Rattle.bits.proofs.differing.Goals as goal

pub returns : goal.returns
returns c = differing_law c.args.x c.args.y c.ranges.x.fits c.ranges.y.fits
