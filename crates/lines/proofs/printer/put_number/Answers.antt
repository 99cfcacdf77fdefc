-- `lines::printer::put_number`: the digits as the library writes them, then the byte. Assumes nothing.
use mathlib.Core.List.{append_assoc}
use native.Mathlib.Omega.{arith}
use Rattle.lines.specs.Printing.{printed_number}
use Rattle.lines.proofs.Digits.{digits_written}
use Rattle.lines.proofs.printer.put_number.Goals as goal

pub returns-clause-bytes : goal.returns-clause-bytes
unfolding printed_number
returns-clause-bytes g c = rw (digits_written c.args.x (omega arith), c.push.ensures.ascii (omega arith), c.push_str.ensures.bytes, c.format.ensures.text, append_assoc)
