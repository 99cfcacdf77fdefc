-- `hosts::display::scan_line`: of a well formed state the part is layout's, and otherwise it is empty. Assumes nothing.
use mathlib.Core.Path.{ap, ◌∙◌}
use Prim.Native.Nat.{ℕ}
use lib.ListN.{length}
use Rattle.numbers.specs.Numbers.{first, when_done}
use Rattle.layout.specs.Memory.{scan_line, line_given}
use Rattle.numbers.proofs.Tests.{test_holds, test_fails}
use Rattle.chip.specs.Refusals.{scan_line_number}
use Rattle.chip.specs.Calls.{scan_line_of}
use Rattle.chip.proofs.Accepted.{pages_fit_lem}
use Rattle.chip.proofs.StateForms.{line_told}
use mathlib.Core.List.{[]}
use Rattle.hosts.proofs.display.scan_line.Goals as goal

pub returns-then-not-well_formed : goal.returns-then-not-well_formed
unfolding scan_line_of scan_line_number first
returns-then-not-well_formed c = rw (test_fails c.well_formed-2.ensures c.if-not-well_formed.true)

pub returns : goal.returns
unfolding scan_line_of line_given
returns c =
    let a = c.args in
    c.scan_line.ensures ∙ ap (λ (n : ℕ). when_done n (scan_line a.control.pages a.named.bank a.named.page a.named.line a.memory.now) [])
    (line_told a.control (length a.memory.now) a.named.bank a.named.page a.named.line (test_holds c.well_formed-2.ensures c.if-not-well_formed.false))

pub scan_line-requires : goal.scan_line-requires
scan_line-requires c = pages_fit_lem _ (test_holds c.well_formed-2.ensures c.if-not-well_formed.false)
