-- `buffer::registers::writable_bits`: each way out is one entry of `writable`, the first one four. Assumes nothing.
use mathlib.Core.Path.{◌≡◌}
use native.Mathlib.Omega.{arith}
use Rattle.chip.specs.State.{writable}
use Rattle.buffer.proofs.Settings.{writable_low}
use Rattle.buffer.proofs.registers.writable_bits.Goals as goal

pub returns-then-number : goal.returns-then-number
returns-then-number c = writable_low c.args.number c.requires.0 c.if-number.true

pub returns-then-number-2 : goal.returns-then-number-2
unfolding writable
returns-then-number-2 c = rw c.if-number-2.true

pub returns-then-number-3 : goal.returns-then-number-3
unfolding writable
returns-then-number-3 c = rw c.if-number-3.true

pub returns : goal.returns
unfolding writable
returns c =
    let last : c.args.number ≡ 7 = omega arith in
    rw last
