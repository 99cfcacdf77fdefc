-- `put` of a number of 32 bits: that it is put, as its contract says, is that its bytes are stored, as the trait's does. Assumes nothing.
use Rattle.std.proofs.Common.{◌∙◌}
use Rattle.lists.proofs.RowStores.{word_stored}
use Rattle.lists.proofs.U32LittleEndian.TheImpl.Goals as goal

pub put-tells : goal.put-tells
put-tells c = c.ensures ∙ word_stored c.args.at c.args.self c.args.s.now
