-- `buffer::slots::data_read`: it puts nothing, and its value is the word read. Assumes nothing.
use mathlib.Core.Path.{refl, ap, ◌∙◌}
use Prim.Native.Nat.{◌<◌}
use native.Mathlib.Omega.{arith}
use Rattle.numbers.proofs.Tests.{and_left, test_holds}
use Rattle.numbers.specs.Numbers.{first}
use Rattle.chip.specs.State.{slots}
use Rattle.chip.specs.Operations.{data_read, in_range}
use Rattle.chip.specs.Effects.{still, giving, reading, effect}
use Rattle.chip.specs.Refusals.{asks}
use Rattle.chip.proofs.Accepted.{word_range}
use Rattle.block.specs.Block.{decode_control}
use Rattle.block.proofs.Puts.{stores_of}
use Rattle.own.proofs.Lines.{word_fits}
use Rattle.own.proofs.OwnLines.{row_data_read}
use Rattle.own.proofs.Owns.{by_asks, operands_refused, put_done}
use Rattle.buffer.proofs.slots.data_read.Goals as goal

pub returns-then-not-fits : goal.returns-then-not-fits
unfolding in_range slots
returns-then-not-fits c =
    let x = c.args.x in
    operands_refused c.args.s.now x (row_data_read x c.requires.2) (c.fits.ensures ∙ word_fits c.args.x) c.if-not-fits.true

pub slot_word-value-requires : goal.slot_word-value-requires
slot_word-value-requires c =
    let range : (c.args.x.a < 8) × (c.args.x.b < 8) = word_range 8 0 _ _ (and_left _ _ (test_holds (c.fits.ensures ∙ word_fits c.args.x) c.if-not-fits.false)) in
    (c.requires.0, range.0, range.1)

pub returns : goal.returns
unfolding in_range slots asks first effect reading
returns c =
    let s = c.args.s.now in
    let x = c.args.x in
    let none = by_asks (decode_control s) (data_read x.a x.b) _ (test_holds (c.fits.ensures ∙ word_fits c.args.x) c.if-not-fits.false) refl in
    put_done s x (data_read x.a x.b) _ (row_data_read x c.requires.2) none
    (stores_of s (λ a. omega (arith, c.slice_known-1.given a)) c.requires.1) (ap (λ v. giving v (decode_control s) still) c.slot_word-value.ensures) c.done.ensures
