-- `bank::write_back_in`: what was done on the lent part, by `back_lent`. Assumes nothing.
use native.Mathlib.Omega.{arith}
use lib.ListN.{get_or}
use Rattle.bank.specs.Work.{in_slot}
use Rattle.bank.proofs.LentParts.{back_lent}
use Rattle.bank.proofs.write_back_in.Goals as goal

pub returns : goal.returns
returns c =
    let start = c.start-start in
    let a = c.args in
    rw c.write_back.ensures
    (rw (← start.ensures.0) at
    (back_lent a.bank.pages a.bank.number a.place.page a.place.block a.mask a.tag (λ i. get_or a.pixels.now (in_slot a.slot i) 0)
    a.memory.now (omega (arith, start.ensures))))
