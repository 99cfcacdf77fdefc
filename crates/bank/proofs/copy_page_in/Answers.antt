-- `bank::copy_page_in`: what was done on the lent part, by `copy_lent`. Assumes nothing.
use native.Mathlib.Omega.{arith}
use Rattle.bank.proofs.LentParts.{copy_lent}
use Rattle.bank.proofs.copy_page_in.Goals as goal

pub returns : goal.returns
returns c =
    let a = c.args in
    let start = c.start-start in
    rw c.copy_page.ensures
    (rw (← start.ensures.0) at
    (copy_lent a.bank.pages a.bank.number a.from a.to a.memory.now c.requires.3 c.requires.4 (omega (arith, start.ensures))))
