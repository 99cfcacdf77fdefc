-- `bank::load_in`: what was read from the lent part, by `load_part`. Assumes nothing.
use Rattle.bank.proofs.LentParts.{load_part}
use Rattle.bank.proofs.load_in.Goals as goal

pub returns : goal.returns
returns c =
    let start = c.start-start in
    let a = c.args in
    rw c.load.ensures
    (rw (← start.ensures.0) at (load_part a.bank.pages a.bank.number a.place.page a.place.block a.slot a.memory.now a.pixels.now))
