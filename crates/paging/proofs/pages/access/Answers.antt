-- `paging::pages::access`: refused by its two tests; past both the named page is open, and the counter goes on. Assumes nothing.
use mathlib.Core.Path.{refl, ◌∙◌}
use Prim.Native.Nat.{◌<◌, ◌^◌}
use native.Mathlib.Omega.{arith}
use Rattle.chip.specs.Refusals.{asks}
use Rattle.chip.specs.Effects.{effect, pixels_after, video_after}
use Rattle.chip.specs.Operations.{in_range}
use Rattle.block.specs.Block.{decode_control}
use Rattle.block.proofs.Puts.{stores_of, stores_page}
use Rattle.own.proofs.Lines.{page_fits}
use Rattle.own.proofs.WellFormed.{pages_in}
use Rattle.own.proofs.Owns.{operand_outside, open_refused, closed_passes, page_bounds, as_stored, ends_given, ends_block}
use Rattle.own.proofs.OwnLines.{row_access}
use Rattle.paging.proofs.pages.access.Goals as goal

pub returns-then-not-fits : goal.returns-then-not-fits
unfolding in_range
returns-then-not-fits c =
    let res = operand_outside c.args.s.now c.args.x (row_access c.args.x c.requires.2) (c.fits.ensures ∙ page_fits c.args.x c.page_line.ensures c.pages-pages.ensures) c.if-not-fits.true in
    (res.0, res.1)

pub open_page-requires : goal.open_page-requires
open_page-requires c =
    let range : let a = c.args in (a.x.a < 4) × (a.x.b < (decode_control a.s.now).pages) = page_bounds _ c.args.x (c.fits.ensures ∙ page_fits c.args.x c.page_line.ensures c.pages-pages.ensures) c.if-not-fits.false in
    (c.requires.0, range.0)

pub returns-then-open_page : goal.returns-then-open_page
unfolding in_range asks
returns-then-open_page c =
    let res = open_refused c.args.s.now c.args.x (row_access c.args.x c.requires.2) (c.fits.ensures ∙ page_fits c.args.x c.page_line.ensures c.pages-pages.ensures) c.if-not-fits.false c.open_page.ensures refl c.if-open_page.true in
    (res.0, res.1)

pub overflow_cast-x : goal.overflow_cast-x
overflow_cast-x c =
    let range : let a = c.args in (a.x.a < 4) × (a.x.b < (decode_control a.s.now).pages) = page_bounds _ c.args.x (c.fits.ensures ∙ page_fits c.args.x c.page_line.ensures c.pages-pages.ensures) c.if-not-fits.false in
    let page-small : c.args.x.b < 2 ^ 16 = omega (arith, range.1, (pages_in c.args.s.now c.requires.1).1) in
    omega (arith, page-small)

pub put_page-requires : goal.put_page-requires
put_page-requires c =
    let range : let a = c.args in (a.x.a < 4) × (a.x.b < (decode_control a.s.now).pages) = page_bounds _ c.args.x (c.fits.ensures ∙ page_fits c.args.x c.page_line.ensures c.pages-pages.ensures) c.if-not-fits.false in
    (c.requires.0, range.0)

pub returns : goal.returns
unfolding in_range asks effect pixels_after video_after
returns c =
    let range : let a = c.args in (a.x.a < 4) × (a.x.b < (decode_control a.s.now).pages) = page_bounds _ c.args.x (c.fits.ensures ∙ page_fits c.args.x c.page_line.ensures c.pages-pages.ensures) c.if-not-fits.false in
    let page-small : c.args.x.b < 2 ^ 16 = omega (arith, range.1, (pages_in c.args.s.now c.requires.1).1) in
    let done = c.done in
    let s = c.args.s.now in
    let x = c.args.x in
    let r = row_access x c.requires.2 in
    let none = closed_passes s x r (c.fits.ensures ∙ page_fits c.args.x c.page_line.ensures c.pages-pages.ensures) c.if-not-fits.false c.open_page.ensures refl c.if-open_page.false in
    let was = stores_of s (λ a. omega (arith, c.slice_known-1.given a)) c.requires.1 in
    let held = as_stored c.put_page.ensures (stores_page was x.a x.b range.0 page-small) in
    (ends_given s x r none done.ensures.0, λ memory. ends_block s x r none memory done.ensures.1 held)
