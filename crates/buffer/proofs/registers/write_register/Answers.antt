-- `buffer::registers::write_register`: compare control's write puts the flags too, any other's its register alone. Assumes nothing.
use mathlib.Core.Bool.{true, ◌&&◌}
use mathlib.Core.List.{List, [], ◌∷◌}
use lib.ListN.{get_or}
use mathlib.Core.Path.{◌≡◌, sym, ap, ◌∙◌}
use Prim.Native.Nat.{◌-◌, ◌≤◌, ◌%◌, ◌^◌, ℕ, ◌<◌}
use native.Mathlib.Omega.{arith}
use lib.Dec.{lit≤}
use borrow.Author.Tests.{ne_eqb}
use borrow.Author.Rules.{rules}
use Rattle.bits.specs.Bits.{within}
use Rattle.numbers.proofs.Tests.{and_left, test_holds, test_fails}
use Rattle.numbers.specs.Numbers.{first}
use Rattle.chip.specs.declared.Control.{Control}
use Rattle.chip.specs.declared.Call.{Call}
use Rattle.chip.specs.State.{slots, writable}
use Rattle.chip.specs.Operations.{row, write_register, in_range, all_zero}
use Rattle.chip.specs.Changes.{with_register}
use Rattle.chip.specs.Effects.{still, leaving, effect}
use Rattle.chip.specs.Refusals.{asks}
use Rattle.chip.specs.Answers.{GivenBack, done_with}
use Rattle.block.specs.Block.{decode_control, decode, ticked_in}
use Rattle.block.proofs.Parts.{under}
use Rattle.block.proofs.Puts.{Stores, stores_of, stores_register, stores_flags}
use Rattle.own.specs.Own.{own_given, own_block}
use Rattle.own.proofs.Lines.{register_fits}
use Rattle.own.proofs.Owns.{by_asks, refused, operands_refused, put_done}
use Rattle.own.proofs.OwnLines.{row_write_register}
use Rattle.buffer.proofs.Settings.{register_range, plain_register, compare_register}
use Rattle.buffer.proofs.registers.write_register.Goals as goal

pub returns-then-not-fits : goal.returns-then-not-fits
unfolding in_range
returns-then-not-fits c =
    operands_refused c.args.s.now c.args.x (row_write_register c.args.x c.requires.2) (c.fits.ensures ∙ register_fits c.args.x) c.if-not-fits.true

pub writable_bits-requires : goal.writable_bits-requires
writable_bits-requires c =
    let range : (1 ≤ c.args.x.a) × (c.args.x.a ≤ 7) = register_range _ (and_left _ _ (test_holds (c.fits.ensures ∙ register_fits c.args.x) c.if-not-fits.false)) in
    range

pub returns-then-not-within : goal.returns-then-not-within
unfolding in_range asks first
returns-then-not-within c =
    let fits = test_holds (c.fits.ensures ∙ register_fits c.args.x) c.if-not-fits.false in
    let bad = test_fails (c.within.ensures ∙ ap (within c.args.x.given) c.writable_bits.ensures) c.if-not-within.true in
    let res = refused c.args.s.now c.args.x (write_register c.args.x.a c.args.x.given) _ (row_write_register c.args.x c.requires.2) (by_asks (decode_control c.args.s.now) (write_register c.args.x.a c.args.x.given) _ fits {k = 5} (rw bad)) in
    (res.0, res.1)

-- past both tests no number applies: the call is done with what was put, if that stores the register's write
put_register_done : (s : List ℕ) (x : Call) → row x ≡ (write_register x.a x.given, x.b ∷ x.c ∷ x.d ∷ [])
    → (in_range slots (decode_control s).pages (write_register x.a x.given) && all_zero (x.b ∷ x.c ∷ x.d ∷ [])) ≡ true → within x.given (get_or writable (x.a - 1) 0) ≡ true
    → {k : Control} {put after : List ℕ} {given : GivenBack} → Stores put (under (decode s) k) → k ≡ with_register (decode_control s) x.a x.given
    → (given ≡ done_with 0 0 0) × (after ≡ ticked_in put) → (given ≡ own_given s x) × ((memory : List ℕ) → after ≡ own_block s memory x)
unfolding asks first effect
put_register_done s x r fits allowed stored is ends =
    put_done s x (write_register x.a x.given) _ r (by_asks (decode_control s) (write_register x.a x.given) _ fits {k = 0} (rw allowed)) stored
    (ap (λ (k : Control). leaving k still) is) ends

pub returns-then-x : goal.returns-then-x
unfolding in_range
returns-then-x c =
    let given_small : c.args.x.given < 2 ^ 32 = search rules in
    let held : Stores c.args.s.now (decode c.args.s.now) = stores_of c.args.s.now (λ a. omega (arith, c.slice_known-1.given a)) c.requires.1 in
    let s = c.args.s.now in
    let x = c.args.x in
    put_register_done s x (row_write_register x c.requires.2) (test_holds (c.fits.ensures ∙ register_fits c.args.x) c.if-not-fits.false)
    (test_holds (c.within.ensures ∙ ap (within x.given) c.writable_bits.ensures) c.if-not-within.false)
    (stores_flags (stores_register held 6 (x.given % 2 ^ 24) (lit≤ tt) (lit≤ tt) (omega arith)) _ _)
    (compare_register (decode_control s) x.given ∙ ap (λ (n : ℕ). with_register (decode_control s) n x.given) (sym c.if-x.true))
    (c.done.ensures.0, c.done.ensures.1 ∙ ap ticked_in c.put_compare.ensures)

pub put_register-requires : goal.put_register-requires
put_register-requires c =
    let range : (1 ≤ c.args.x.a) × (c.args.x.a ≤ 7) = register_range _ (and_left _ _ (test_holds (c.fits.ensures ∙ register_fits c.args.x) c.if-not-fits.false)) in
    (c.requires.0, range.0, range.1)

pub returns : goal.returns
unfolding in_range
returns c =
    let held : Stores c.args.s.now (decode c.args.s.now) = stores_of c.args.s.now (λ a. omega (arith, c.slice_known-1.given a)) c.requires.1 in
    let range : (1 ≤ c.args.x.a) × (c.args.x.a ≤ 7) = register_range _ (and_left _ _ (test_holds (c.fits.ensures ∙ register_fits c.args.x) c.if-not-fits.false)) in
    let given_small : c.args.x.given < 2 ^ 32 = search rules in
    let x = c.args.x in
    put_register_done c.args.s.now x (row_write_register x c.requires.2) (test_holds (c.fits.ensures ∙ register_fits c.args.x) c.if-not-fits.false)
    (test_holds (c.within.ensures ∙ ap (within x.given) c.writable_bits.ensures) c.if-not-within.false)
    (stores_register held x.a x.given range.0 range.1 given_small)
    (plain_register (decode_control c.args.s.now) x.a x.given (ne_eqb x.a 6 c.if-x.false))
    (c.done-2.ensures.0, c.done-2.ensures.1 ∙ ap ticked_in c.put_register.ensures)
