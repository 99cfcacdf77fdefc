-- `paging::blocks::write_block`: refused by its two tests; past both memory has the slot's tagged bytes, and the value counts them. Assumes nothing.
use mathlib.Core.Path.{refl, ap, ◌∙◌}
use Prim.Native.Nat.{◌<◌, ℕ}
use native.Mathlib.Omega.{arith}
use Rattle.bank.specs.Work.{tagged}
use Rattle.chip.specs.Answers.{done_with}
use Rattle.chip.specs.Effects.{memory_after, effect, pixels_after, video_after}
use Rattle.chip.specs.Operations.{in_range}
use Rattle.chip.specs.State.{slots}
use Rattle.chip.specs.Refusals.{asks}
use Rattle.block.proofs.Puts.{stores_of}
use Rattle.own.proofs.Lines.{block_fits}
use Rattle.own.proofs.Owns.{operand_outside, closed_refused, open_passes, is_open, is_shut, shut_given, open_there, block_bounds, ends_given, ends_block, ends_memory}
use Rattle.own.proofs.OwnLines.{row_write_block}
use Rattle.paging.proofs.blocks.write_block.Goals as goal

pub returns-then-not-fits : goal.returns-then-not-fits
unfolding in_range slots
returns-then-not-fits c =
    let res = operand_outside c.args.s.now c.args.x (row_write_block c.args.x c.requires.3 c.requires.4) (c.fits.ensures ∙ block_fits c.args.x) c.if-not-fits.true in
    (res.0, res.1 _, res.2 _)

pub opened-requires : goal.opened-requires
opened-requires c =
    let range : let x = c.args.x in (x.a < 4) × (x.b < 40) × (x.c < 8) = block_bounds c.args.x (c.fits.ensures ∙ block_fits c.args.x) c.if-not-fits.false in
    (c.requires.0, range.0)

pub returns-in_err-opened : goal.returns-in_err-opened
unfolding in_range slots asks
returns-in_err-opened c =
    let shut = is_shut c.args.s.now c.args.x.a c.opened.ensures c.in_err-opened.was in
    let res = closed_refused c.args.s.now c.args.x (row_write_block c.args.x c.requires.3 c.requires.4) (c.fits.ensures ∙ block_fits c.args.x) c.if-not-fits.false refl refl shut.0 in
    (shut_given _ _ c.from_residual.ensures.1 shut.1 ∙ res.0, res.1 _, res.2 _)

pub write_slot-requires : goal.write_slot-requires
write_slot-requires c =
    let range : let x = c.args.x in (x.a < 4) × (x.b < 40) × (x.c < 8) = block_bounds c.args.x (c.fits.ensures ∙ block_fits c.args.x) c.if-not-fits.false in
    let found = is_open c.args.s.now c.args.x.a c.opened.ensures c.in_ok-opened.was in
    let there = open_there c.args.s.now c.args.memory.now c.args.x.a c.requires.1 c.requires.2 range.0 found.0 found.1 in
    (c.requires.0, there.0, there.1, there.2, there.3, range.1, range.2)

pub tag-tag-requires : goal.tag-tag-requires
tag-tag-requires c =
    let range : let x = c.args.x in (x.a < 4) × (x.b < 40) × (x.c < 8) = block_bounds c.args.x (c.fits.ensures ∙ block_fits c.args.x) c.if-not-fits.false in
    (c.requires.0, range.2)

pub returns : goal.returns
unfolding in_range slots asks effect pixels_after video_after memory_after
returns c =
    let done = c.done in
    let s = c.args.s.now in
    let r = row_write_block c.args.x c.requires.3 c.requires.4 in
    let found = is_open c.args.s.now c.args.x.a c.opened.ensures c.in_ok-opened.was in
    let none = open_passes s c.args.x r (c.fits.ensures ∙ block_fits c.args.x) c.if-not-fits.false found.0 refl found.1 in
    let bytes = c.tagged_bytes.ensures ∙ ap tagged c.tag-tag.ensures in (
      ends_given s c.args.x r none (done.ensures.0 ∙ ap (λ (v : ℕ). done_with v 0 0) bytes),
      ends_block s c.args.x r none _ done.ensures.1 (stores_of s (λ a. omega (arith, c.slice_known-1.given a)) c.requires.1),
      ends_memory s c.args.x r none _ c.write_slot.ensures,
    )
