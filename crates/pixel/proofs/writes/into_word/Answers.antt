-- `pixel::into_word`: what the calls ensure, and `by_data_law`. Assumes nothing.
use Rattle.pixel.specs.Registers.{register}
use Rattle.pixel.specs.Writes.{into_word}
use Rattle.pixel.proofs.Outcomes.{by_data_law}
use Rattle.pixel.proofs.writes.into_word.Goals as goal

pub returns : goal.returns
unfolding into_word register
returns c =
    let a = c.args in
    rw (c.pick.ensures, c.bit_of.ensures, by_data_law a.registers a.w)
