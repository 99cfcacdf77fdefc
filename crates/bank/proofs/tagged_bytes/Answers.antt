-- `bank::tagged_bytes`: the count of the tag's ones, by `tagged_ones`. Assumes nothing.
use Rattle.bank.proofs.Backs.{tagged_ones}
use Rattle.bank.proofs.tagged_bytes.Goals as goal

pub returns : goal.returns
returns c = tagged_ones c.args.tag c.ranges.tag.fits
