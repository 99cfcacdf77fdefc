-- `put` of a number of 16 bits: that it is put, as its contract says, is that its bytes are stored, as the trait's does. Assumes nothing.
use Rattle.std.proofs.Common.{◌∙◌}
use Rattle.lists.proofs.RowStores.{half_stored}
use Rattle.lists.proofs.U16LittleEndian.TheImpl.Goals as goal

pub put-tells : goal.put-tells
put-tells c = c.ensures ∙ half_stored c.args.at c.args.self c.args.s.now
