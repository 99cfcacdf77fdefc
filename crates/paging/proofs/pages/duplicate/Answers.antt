-- `paging::pages::duplicate`: refused by its two tests; past both the open page is copied over the named one, which is then open. Assumes nothing.
use mathlib.Core.Path.{refl, ◌∙◌}
use Prim.Native.Nat.{◌<◌, ◌^◌}
use native.Mathlib.Omega.{arith}
use Rattle.chip.specs.Refusals.{asks}
use Rattle.chip.specs.Effects.{effect, pixels_after, video_after, memory_after}
use Rattle.chip.specs.Operations.{in_range}
use Rattle.block.specs.Block.{decode_control}
use Rattle.block.proofs.Puts.{stores_of, stores_page}
use Rattle.own.proofs.Lines.{page_fits}
use Rattle.own.proofs.WellFormed.{pages_in}
use Rattle.own.proofs.Owns.{operand_outside, closed_refused, open_passes, is_open, is_shut, shut_given, open_there, page_bounds, as_stored, ends_given, ends_block, ends_memory}
use Rattle.own.proofs.OwnLines.{row_duplicate}
use Rattle.paging.proofs.pages.duplicate.Goals as goal

pub returns-then-not-fits : goal.returns-then-not-fits
unfolding in_range
returns-then-not-fits c =
    let res = operand_outside c.args.s.now c.args.x (row_duplicate c.args.x c.requires.3) (c.fits.ensures ∙ page_fits c.args.x c.page_line.ensures c.pages-pages.ensures) c.if-not-fits.true in
    (res.0, res.1 _, res.2 _)

pub opened-requires : goal.opened-requires
opened-requires c =
    let range : let a = c.args in (a.x.a < 4) × (a.x.b < (decode_control a.s.now).pages) = page_bounds _ c.args.x (c.fits.ensures ∙ page_fits c.args.x c.page_line.ensures c.pages-pages.ensures) c.if-not-fits.false in
    (c.requires.0, range.0)

pub returns-in_err-from : goal.returns-in_err-from
unfolding in_range asks
returns-in_err-from c =
    let shut = is_shut c.args.s.now c.args.x.a c.opened.ensures c.in_err-from.was in
    let res = closed_refused c.args.s.now c.args.x (row_duplicate c.args.x c.requires.3) (c.fits.ensures ∙ page_fits c.args.x c.page_line.ensures c.pages-pages.ensures) c.if-not-fits.false refl refl shut.0 in
    (shut_given _ _ c.from_residual.ensures.1 shut.1 ∙ res.0, res.1 _, res.2 _)

pub overflow_cast-named : goal.overflow_cast-named
overflow_cast-named c =
    let range : let a = c.args in (a.x.a < 4) × (a.x.b < (decode_control a.s.now).pages) = page_bounds _ c.args.x (c.fits.ensures ∙ page_fits c.args.x c.page_line.ensures c.pages-pages.ensures) c.if-not-fits.false in
    let page-small : c.args.x.b < 2 ^ 16 = omega (arith, range.1, (pages_in c.args.s.now c.requires.1).1) in
    omega (arith, page-small)

pub copy_page_in-requires : goal.copy_page_in-requires
copy_page_in-requires c =
    let range : let a = c.args in (a.x.a < 4) × (a.x.b < (decode_control a.s.now).pages) = page_bounds _ c.args.x (c.fits.ensures ∙ page_fits c.args.x c.page_line.ensures c.pages-pages.ensures) c.if-not-fits.false in
    let found = is_open c.args.s.now c.args.x.a c.opened.ensures c.in_ok-from.was in
    let there = open_there c.args.s.now c.args.memory.now c.args.x.a c.requires.1 c.requires.2 range.0 found.0 found.1 in
    rw (c.pages-pages.ensures, found.0) (there.0, there.1, there.2, there.3, range.1)

pub put_page-requires : goal.put_page-requires
put_page-requires c =
    let range : let a = c.args in (a.x.a < 4) × (a.x.b < (decode_control a.s.now).pages) = page_bounds _ c.args.x (c.fits.ensures ∙ page_fits c.args.x c.page_line.ensures c.pages-pages.ensures) c.if-not-fits.false in
    (c.requires.0, range.0)

pub returns : goal.returns
unfolding in_range asks effect pixels_after video_after memory_after
returns c =
    let range : let a = c.args in (a.x.a < 4) × (a.x.b < (decode_control a.s.now).pages) = page_bounds _ c.args.x (c.fits.ensures ∙ page_fits c.args.x c.page_line.ensures c.pages-pages.ensures) c.if-not-fits.false in
    let page-small : c.args.x.b < 2 ^ 16 = omega (arith, range.1, (pages_in c.args.s.now c.requires.1).1) in
    let done = c.done in
    let s = c.args.s.now in
    let x = c.args.x in
    let r = row_duplicate x c.requires.3 in
    let found = is_open c.args.s.now c.args.x.a c.opened.ensures c.in_ok-from.was in
    let none = open_passes s x r (c.fits.ensures ∙ page_fits c.args.x c.page_line.ensures c.pages-pages.ensures) c.if-not-fits.false found.0 refl found.1 in
    let was = stores_of s (λ a. omega (arith, c.slice_known-1.given a)) c.requires.1 in (
      ends_given s x r none done.ensures.0,
      ends_block s x r none _ done.ensures.1 (as_stored c.put_page.ensures (stores_page was x.a x.b range.0 page-small)),
      ends_memory s x r none _ (rw (c.pages-pages.ensures, found.0) at c.copy_page_in.ensures),
    )
