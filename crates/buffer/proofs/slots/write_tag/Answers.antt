-- `buffer::slots::write_tag`: it puts the tag, `replaced` says which. Assumes nothing.
use mathlib.Core.Bool.{Bool, true, false, cond}
use mathlib.Core.Path.{◌≡◌, refl, ap, ◌∙◌}
use Prim.Native.Nat.{◌<◌, ◌^◌, ℕ}
use native.Mathlib.Omega.{arith}
use lib.Bits.{or_lt, bit_or}
use lib.Dec.{eqb}
use borrow.Author.Tests.{ltb-true}
use borrow.Author.Rules.{rules}
use Rattle.numbers.proofs.Tests.{and_left, test_holds}
use Rattle.numbers.specs.Numbers.{first}
use Rattle.chip.specs.State.{slots}
use Rattle.chip.specs.Operations.{write_tag, in_range}
use Rattle.chip.specs.Changes.{with_tag, tag_of}
use Rattle.chip.specs.Effects.{still, leaving, effect}
use Rattle.chip.specs.Refusals.{asks}
use Rattle.block.specs.Block.{decode_control, ticked_in}
use Rattle.block.proofs.Puts.{stores_of, stores_tag}
use Rattle.own.proofs.Lines.{slot_fits}
use Rattle.own.proofs.OwnLines.{row_write_tag}
use Rattle.own.proofs.Owns.{by_asks, operands_refused, put_done}
use Rattle.buffer.proofs.slots.write_tag.Goals as goal

-- replaced by the data, or the data ORed into it
replaced : (replace : Bool) (was given : ℕ) → bit_or (cond replace 0 was) given ≡ cond replace given (bit_or was given)
replaced true was given = refl
replaced false was given = refl

pub returns-then-not-fits : goal.returns-then-not-fits
unfolding in_range slots
returns-then-not-fits c =
    operands_refused c.args.s.now c.args.x (row_write_tag c.args.x c.requires.2 c.requires.3) (c.fits.ensures ∙ slot_fits c.args.x) c.if-not-fits.true

pub tag-requires : goal.tag-requires
tag-requires c =
    let slot-there : c.args.x.a < 8 = ltb-true c.args.x.a 8 (and_left _ _ (test_holds (c.fits.ensures ∙ slot_fits c.args.x) c.if-not-fits.false)) in
    (c.requires.0, slot-there)

pub put_tag-requires : goal.put_tag-requires
put_tag-requires c =
    let slot-there : c.args.x.a < 8 = ltb-true c.args.x.a 8 (and_left _ _ (test_holds (c.fits.ensures ∙ slot_fits c.args.x) c.if-not-fits.false)) in
    (c.requires.0, slot-there)

pub returns : goal.returns
unfolding in_range slots asks first effect
returns c =
    let slot-there : c.args.x.a < 8 = ltb-true c.args.x.a 8 (and_left _ _ (test_holds (c.fits.ensures ∙ slot_fits c.args.x) c.if-not-fits.false)) in
    let given-small : c.args.x.given < 2 ^ 32 = search rules in
    let s = c.args.s.now in
    let x = c.args.x in
    let tag = bit_or c.pick-was.result x.given in
    let was = tag_of (decode_control s) x.a in
    let is : tag ≡ cond (eqb x.op 12) x.given (bit_or was x.given)
    = ap (λ (t : ℕ). bit_or t x.given) (c.pick-was.ensures ∙ ap (cond (eqb x.op 12) 0) c.tag.ensures) ∙ replaced (eqb x.op 12) was x.given in
    let none = by_asks (decode_control s) ((let x = c.args.x in write_tag (eqb x.op 12) x.a x.given)) _ (test_holds (c.fits.ensures ∙ slot_fits c.args.x) c.if-not-fits.false) refl in
    let held = stores_of s (λ a. omega (arith, c.slice_known-1.given a)) c.requires.1 in
    put_done s x ((let x = c.args.x in write_tag (eqb x.op 12) x.a x.given)) _ (row_write_tag x c.requires.2 c.requires.3) none
    (stores_tag held x.a tag slot-there (or_lt 32 c.pick-was.result x.given (search rules) given-small))
    (ap (λ (t : ℕ). leaving (with_tag (decode_control s) x.a t) still) is) (c.done.ensures.0, c.done.ensures.1 ∙ ap ticked_in c.put_tag.ensures)
