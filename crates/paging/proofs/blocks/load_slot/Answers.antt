-- `paging::blocks::load_slot`: the bank's load into the pixels, which are lent from the block, is one into the block. Assumes nothing.
use native.Mathlib.Omega.{arith}
use lib.ListN.{length-take, length-drop}
use Rattle.bank.specs.Work.{in_slot, loaded}
use Rattle.lists.proofs.Seams.{update_mid}
use Rattle.bank.proofs.Slots.{slot_inside}
use Rattle.paging.proofs.blocks.load_slot.Goals as goal

pub load_in-requires : goal.load_in-requires
load_in-requires c =
    let pre = c.requires in
    let named = c.named.ensures in
    rw (named.bank.0, named.bank.1, named.place.0, named.place.1) (pre.1, pre.2, pre.3, pre.4, pre.5, simp (length-take, length-drop) (omega (arith, pre.0, pre.6)))

pub returns : goal.returns
unfolding loaded
returns c =
    let slot = c.args.x.c in
    let named = c.named.ensures in
    rw (c.load_in.ensures, named.bank.0, named.bank.1, named.place.0, named.place.1)
    (update_mid 32 92 256 (in_slot slot) _ c.args.s.now (omega (arith, c.requires.0)) (λ i hi. simp (length-take, length-drop) (omega (arith, c.requires.0, slot_inside slot c.requires.6 i hi))))
