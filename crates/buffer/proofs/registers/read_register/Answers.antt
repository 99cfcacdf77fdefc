-- `buffer::registers::read_register`: it puts nothing, and its value is the register. Assumes nothing.
use mathlib.Core.Path.{refl, ap, ◌∙◌}
use Prim.Native.Nat.{◌≤◌, ℕ}
use native.Mathlib.Omega.{arith}
use Rattle.numbers.proofs.Tests.{and_left, test_holds}
use Rattle.numbers.specs.Numbers.{first}
use Rattle.chip.specs.Operations.{read_register, in_range}
use Rattle.chip.specs.Effects.{still, giving, effect}
use Rattle.chip.specs.Refusals.{asks}
use Rattle.block.specs.Block.{decode_control}
use Rattle.block.proofs.Puts.{stores_of}
use Rattle.own.proofs.Lines.{number_fits}
use Rattle.own.proofs.OwnLines.{row_read_register}
use Rattle.own.proofs.Owns.{by_asks, operands_refused, put_done}
use Rattle.buffer.proofs.Settings.{register_range}
use Rattle.buffer.proofs.registers.read_register.Goals as goal

pub returns-then-not-fits : goal.returns-then-not-fits
unfolding in_range
returns-then-not-fits c =
    let x = c.args.x in
    operands_refused c.args.s.now x (row_read_register x c.requires.2) (c.fits.ensures ∙ number_fits c.args.x) c.if-not-fits.true

pub register-value-requires : goal.register-value-requires
register-value-requires c =
    let range : (1 ≤ c.args.x.a) × (c.args.x.a ≤ 7) = register_range _ (and_left _ _ (test_holds (c.fits.ensures ∙ number_fits c.args.x) c.if-not-fits.false)) in
    (c.requires.0, range.0, range.1)

pub returns : goal.returns
unfolding in_range asks first effect
returns c =
    let s = c.args.s.now in
    let x = c.args.x in
    let none = by_asks (decode_control s) (read_register x.a) _ (test_holds (c.fits.ensures ∙ number_fits c.args.x) c.if-not-fits.false) refl in
    put_done s x (read_register x.a) _ (row_read_register x c.requires.2) none
    (stores_of s (λ a. omega (arith, c.slice_known-1.given a)) c.requires.1) (ap (λ (v : ℕ). giving v (decode_control s) still) c.register-value.ensures) c.done.ensures
