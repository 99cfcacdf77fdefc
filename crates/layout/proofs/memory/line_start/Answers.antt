-- `memory::line_start`: it computes as the definition does, and a scan line lies in memory. Assumes nothing.
use native.Mathlib.Omega.{arith}
use Rattle.layout.specs.Memory.{size, bank_start, in_bank, place, on_line, line_start}
use Rattle.layout.proofs.Places.{bank_fits}
use Rattle.layout.proofs.ScanLines.{line_fits}
use Rattle.layout.proofs.memory.line_start.Goals as goal

pub overflow_mul-bank_start-2 : goal.overflow_mul-bank_start-2
unfolding bank_start size
overflow_mul-bank_start-2 c = omega (arith, bank_fits c.args.pages c.args.named.bank c.requires.1)

pub overflow_add-result-2 : goal.overflow_add-result-2
unfolding line_start place bank_start in_bank on_line size
overflow_add-result-2 c = omega (arith, line_fits c.args.pages c.args.named.bank c.args.named.page c.args.named.line c.requires.1 c.requires.2 c.requires.3)

pub returns : goal.returns
unfolding line_start place bank_start in_bank on_line size
returns c =
    let fits = line_fits c.args.pages c.args.named.bank c.args.named.page c.args.named.line c.requires.1 c.requires.2 c.requires.3 in
    (omega arith, omega arith)
