-- `buffer::registers::switched_by`: a law for each way out. Assumes nothing.
use Rattle.buffer.proofs.Settings.{switched_low, switched_high}
use Rattle.buffer.proofs.registers.switched_by.Goals as goal

pub returns-then-two-lt-ACTING : goal.returns-then-two-lt-ACTING
returns-then-two-lt-ACTING c = switched_low c.args.two c.args.was c.if-two-lt-ACTING.true

pub returns-else-two-lt-ACTING : goal.returns-else-two-lt-ACTING
returns-else-two-lt-ACTING c = switched_high c.args.two c.args.was c.if-two-lt-ACTING.false c.requires
