-- `pixel::magnitude_passes`: the code is its three bits, and over these the test is `magnitude_law`. Assumes nothing.
use mathlib.Core.Bool.{xor}
use lib.Bits.{bit_and}
use Rattle.bits.specs.Bits.{bit}
use Rattle.pixel.specs.Pixel.{magnitude_passes, magnitude_new}
use Rattle.pixel.proofs.Compares.{magnitude_law, magnitude_code}
use Rattle.pixel.proofs.compare.magnitude_passes.Goals as goal

pub returns : goal.returns
unfolding magnitude_passes magnitude_new xor
returns c =
    let a = c.args in
    rw (
      c.bit_of-zero.ensures,
      c.bit_of-one.ensures,
      c.bit_of-two.ensures,
      c.pick.ensures,
      c.bit_of-2.ensures,
      c.bit_of.ensures,
      magnitude_code a.control,
    )
    (magnitude_law (bit a.control 2) (bit a.control 1) (bit a.control 0)
    (bit_and (magnitude_new a.control a.given a.constant) a.magnitude_mask) (bit_and a.old a.magnitude_mask))
