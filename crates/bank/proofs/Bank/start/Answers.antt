-- `bank::Bank::start`: the bank's start is the definition's, and the bank is within memory, by `bank_fits`. Assumes nothing.
use mathlib.Core.Path.{refl}
use Rattle.layout.specs.Memory.{size, bank_start}
use Rattle.layout.proofs.Places.{bank_fits}
use Rattle.bank.proofs.Bank.start.Goals as goal

pub returns : goal.returns
unfolding bank_start size
returns c = let bank = c.args.self in (refl, bank_fits bank.pages bank.number c.requires.1)
