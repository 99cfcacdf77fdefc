-- `paging::blocks::read_block`: refused by its two tests; past both the slot holds the block, its tag is 0, and the counter goes on. Assumes nothing.
use mathlib.Core.Path.{refl, ◌∙◌}
use Prim.Native.Nat.{◌<◌}
use native.Mathlib.Omega.{arith}
use lib.ListN.{get_or}
use lib.Dec.{lit<}
use borrow.Author.Rules.{rules}
use Rattle.layout.specs.Memory.{address}
use Rattle.bank.specs.Work.{in_slot, loaded}
use Rattle.chip.specs.State.{open_page, slots}
use Rattle.chip.specs.Operations.{in_range}
use Rattle.chip.specs.Effects.{effect, pixels_after, video_after}
use Rattle.chip.specs.Refusals.{asks}
use Rattle.block.specs.Block.{decode_control}
use Rattle.bank.proofs.Slots.{slot_inside}
use Rattle.block.proofs.Puts.{stores_tag, stores_pixels, stores_of}
use Rattle.own.proofs.Lines.{block_fits}
use Rattle.own.proofs.Owns.{operand_outside, closed_refused, open_passes, is_open, is_shut, shut_given, open_there, block_bounds, as_stored, ends_given, ends_block}
use Rattle.own.proofs.OwnLines.{row_read_block}
use Rattle.paging.proofs.blocks.read_block.Goals as goal

pub returns-then-not-fits : goal.returns-then-not-fits
unfolding in_range slots
returns-then-not-fits c =
    let res = operand_outside c.args.s.now c.args.x (row_read_block c.args.x c.requires.3) (c.fits.ensures ∙ block_fits c.args.x) c.if-not-fits.true in
    (res.0, res.1 _)

pub opened-requires : goal.opened-requires
opened-requires c =
    let range : let x = c.args.x in (x.a < 4) × (x.b < 40) × (x.c < 8) = block_bounds c.args.x (c.fits.ensures ∙ block_fits c.args.x) c.if-not-fits.false in
    (c.requires.0, range.0)

pub returns-in_err-opened : goal.returns-in_err-opened
unfolding in_range slots asks
returns-in_err-opened c =
    let shut = is_shut c.args.s.now c.args.x.a c.opened.ensures c.in_err-opened.was in
    let res = closed_refused c.args.s.now c.args.x (row_read_block c.args.x c.requires.3) (c.fits.ensures ∙ block_fits c.args.x) c.if-not-fits.false refl refl shut.0 in
    (shut_given _ _ c.from_residual.ensures.1 shut.1 ∙ res.0, res.1 _)

pub load_slot-requires : goal.load_slot-requires
load_slot-requires c =
    let range : let x = c.args.x in (x.a < 4) × (x.b < 40) × (x.c < 8) = block_bounds c.args.x (c.fits.ensures ∙ block_fits c.args.x) c.if-not-fits.false in
    let found = is_open c.args.s.now c.args.x.a c.opened.ensures c.in_ok-opened.was in
    let there = open_there c.args.s.now c.args.memory.now c.args.x.a c.requires.1 c.requires.2 range.0 found.0 found.1 in
    (c.requires.0, there.0, there.1, there.2, there.3, range.1, range.2)

pub put_tag-requires : goal.put_tag-requires
put_tag-requires c =
    let range : let x = c.args.x in (x.a < 4) × (x.b < 40) × (x.c < 8) = block_bounds c.args.x (c.fits.ensures ∙ block_fits c.args.x) c.if-not-fits.false in
    (search rules, range.2)

pub returns : goal.returns
unfolding in_range slots asks effect pixels_after video_after loaded
returns c =
    let range : let x = c.args.x in (x.a < 4) × (x.b < 40) × (x.c < 8) = block_bounds c.args.x (c.fits.ensures ∙ block_fits c.args.x) c.if-not-fits.false in
    let done = c.done in
    let s = c.args.s.now in
    let x = c.args.x in
    let r = row_read_block x c.requires.3 in
    let found = is_open c.args.s.now c.args.x.a c.opened.ensures c.in_ok-opened.was in
    let none = open_passes s x r (c.fits.ensures ∙ block_fits c.args.x) c.if-not-fits.false found.0 refl found.1 in
    let at = address (decode_control s).pages x.a (open_page (decode_control s).banks x.a) x.b in
    let was = stores_of s (λ a. omega (arith, c.slice_known-1.given a)) c.requires.1 in
    let held = stores_pixels was 32 (in_slot x.c) (λ i old. get_or c.args.memory.now (at i) 0) (slot_inside x.c range.2) in (
      ends_given s x r none done.ensures.0,
      ends_block s x r none _ done.ensures.1 (as_stored c.put_tag.ensures (stores_tag (as_stored c.load_slot.ensures held) x.c 0 range.2 (lit< tt))),
    )
