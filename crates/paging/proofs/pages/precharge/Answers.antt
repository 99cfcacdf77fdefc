-- `paging::pages::precharge`: refused as its operands' test says; past it the bank's page is 65,535, closed, and the counter goes on. Assumes nothing.
use mathlib.Core.Path.{refl, ◌∙◌}
use Prim.Native.Nat.{◌<◌}
use native.Mathlib.Omega.{arith}
use lib.Dec.{lit<}
use borrow.Author.Tests.{ltb-true}
use Rattle.numbers.proofs.Tests.{and_left, test_holds}
use Rattle.numbers.specs.Numbers.{first}
use Rattle.chip.specs.Refusals.{asks}
use Rattle.chip.specs.Effects.{effect, pixels_after, video_after}
use Rattle.chip.specs.Operations.{precharge, in_range}
use Rattle.chip.specs.State.{closed}
use Rattle.block.specs.Block.{decode_control}
use Rattle.block.proofs.Puts.{stores_of, stores_page}
use Rattle.own.proofs.Lines.{bank_fits}
use Rattle.own.proofs.Owns.{by_asks, operand_outside, as_stored, ends_given, ends_block}
use Rattle.own.proofs.OwnLines.{row_precharge}
use Rattle.paging.proofs.pages.precharge.Goals as goal

pub returns-then-not-fits : goal.returns-then-not-fits
unfolding in_range
returns-then-not-fits c =
    let res = operand_outside c.args.s.now c.args.x (row_precharge c.args.x c.requires.2) (c.fits.ensures ∙ bank_fits c.args.x) c.if-not-fits.true in
    (res.0, res.1)

pub put_page-requires : goal.put_page-requires
put_page-requires c =
    let bank-there : c.args.x.a < 4 = ltb-true c.args.x.a 4 (and_left _ _ (test_holds (c.fits.ensures ∙ bank_fits c.args.x) c.if-not-fits.false)) in
    (c.requires.0, bank-there)

pub returns : goal.returns
unfolding in_range asks first effect pixels_after video_after closed
returns c =
    let bank-there : c.args.x.a < 4 = ltb-true c.args.x.a 4 (and_left _ _ (test_holds (c.fits.ensures ∙ bank_fits c.args.x) c.if-not-fits.false)) in
    let done = c.done in
    let s = c.args.s.now in
    let x = c.args.x in
    let r = row_precharge x c.requires.2 in
    let none = by_asks (decode_control s) (precharge x.a) _ (test_holds (c.fits.ensures ∙ bank_fits c.args.x) c.if-not-fits.false) refl in
    let was = stores_of s (λ a. omega (arith, c.slice_known-1.given a)) c.requires.1 in
    let held = as_stored c.put_page.ensures (stores_page was x.a 65535 bank-there (lit< tt)) in
    (ends_given s x r none done.ensures.0, λ memory. ends_block s x r none memory done.ensures.1 held)
