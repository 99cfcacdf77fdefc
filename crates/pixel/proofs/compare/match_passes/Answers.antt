-- `pixel::match_passes`: the code is its two bits, and over these the test is `match_law`. Assumes nothing.
use lib.Bits.{bit_and}
use Rattle.bits.specs.Bits.{bit}
use Rattle.pixel.specs.Pixel.{match_passes, match_new}
use Rattle.pixel.proofs.Compares.{match_law, match_code}
use Rattle.pixel.proofs.compare.match_passes.Goals as goal

pub returns : goal.returns
unfolding match_passes match_new
returns c =
    let a = c.args in
    rw (
      c.bit_of-low.ensures,
      c.bit_of-high.ensures,
      c.pick.ensures,
      c.bit_of.ensures,
      match_code a.control,
    )
    (match_law (bit a.control 9) (bit a.control 8) (bit_and (match_new a.control a.given a.constant) a.match_mask) (bit_and a.old a.match_mask))
