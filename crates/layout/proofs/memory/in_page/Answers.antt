-- `memory::in_page`: it computes as the definition does. Assumes nothing.
use mathlib.Core.Path.{refl}
use Rattle.layout.specs.Memory.{in_page, on_line, line_of, column_of}
use Rattle.layout.proofs.Places.{in_page_lt}
use Rattle.layout.proofs.memory.in_page.Goals as goal

pub returns : goal.returns
unfolding in_page on_line line_of column_of
returns c = (refl, in_page_lt c.args.block c.args.i c.requires.0 c.requires.1)
