-- `hosts::display::find_line`: of a well formed state it is layout's. Assumes nothing.
use mathlib.Core.Path.{ap, ◌∙◌}
use Prim.Native.Nat.{ℕ}
use Rattle.numbers.specs.Numbers.{first, when_done}
use Rattle.numbers.proofs.Tests.{test_holds, test_fails}
use Rattle.layout.specs.Memory.{LinePlaced, line_placed, line_start}
use Rattle.chip.specs.Refusals.{scan_line_number}
use Rattle.chip.specs.Calls.{line_placed_of}
use Rattle.chip.proofs.Accepted.{pages_fit_lem}
use Rattle.chip.proofs.StateForms.{line_told}
use Rattle.hosts.proofs.display.find_line.Goals as goal

pub returns-then-not-well_formed : goal.returns-then-not-well_formed
unfolding line_placed_of scan_line_number first
returns-then-not-well_formed c = rw (test_fails c.well_formed-2.ensures c.if-not-well_formed.true)

pub find_line-requires : goal.find_line-requires
find_line-requires c = pages_fit_lem _ (test_holds c.well_formed-2.ensures c.if-not-well_formed.false)

pub returns : goal.returns
unfolding line_placed_of line_placed
returns c =
    let a = c.args in
    let told = line_told a.control a.length a.named.bank a.named.page a.named.line (test_holds c.well_formed-2.ensures c.if-not-well_formed.false) in
    rw (c.find_line.ensures, told)
