-- `pixel::stateful`: what the calls ensure, from the last to the first, and `stateful_law`. Assumes nothing.
use Rattle.pixel.specs.Pixel.{enabled_by}
use Rattle.pixel.specs.Registers.{register}
use Rattle.pixel.proofs.Outcomes.{stateful_law}
use Rattle.pixel.proofs.writes.stateful.Goals as goal

pub returns : goal.returns
unfolding register enabled_by
returns c =
    let a = c.args in
    rw (
      c.differing.ensures,
      c.merge-word.ensures,
      c.raster-result.ensures,
      c.select_new.ensures,
      c.pick-taken.ensures,
      c.bit_of.ensures,
      c.magnitude_passes-magnitude.ensures,
      c.match_passes-matched.ensures,
    )
    (stateful_law a.registers a.w c.requires a.old a.dest)
