-- `paging::blocks::write_slot`: the bank's write-back, on P, page, tag and mask as the block's fields say them. Assumes nothing.
use native.Mathlib.Omega.{arith}
use lib.ListN.{length-take, length-drop}
use Rattle.bank.specs.Work.{back_mask}
use Rattle.chip.specs.Effects.{slot_byte}
use Rattle.block.specs.Block.{pixels_in}
use Rattle.paging.proofs.blocks.write_slot.Goals as goal

pub write_back_in-requires : goal.write_back_in-requires
write_back_in-requires c =
    let pre = c.requires in
    let named = c.named.ensures in
    rw (named.bank.0, named.bank.1, named.place.0, named.place.1) (pre.1, pre.2, pre.3, pre.4, pre.5, simp (length-take, length-drop) (omega (arith, pre.0, pre.6)))

pub returns : goal.returns
unfolding back_mask slot_byte pixels_in
returns c =
    let named = c.named.ensures in
    rw (named.bank.0, named.bank.1, named.place.0, named.place.1, c.tag-tag.ensures, c.pick-mask.ensures, c.register.ensures) at c.write_back_in.ensures
