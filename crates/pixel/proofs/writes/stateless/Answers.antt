-- `pixel::stateless`: `stateless_law`, whatever the registers and OLD are. Assumes nothing.
use Rattle.pixel.proofs.Outcomes.{stateless_law}
use Rattle.pixel.proofs.writes.stateless.Goals as goal

pub returns : goal.returns
returns c registers old =
    rw (c.differing.ensures, c.merge-word.ensures) (stateless_law registers c.args.w c.requires old c.args.dest)
