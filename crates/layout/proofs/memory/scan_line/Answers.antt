-- `memory::scan_line`: a line that is found lies in memory, 80 bytes long, and where none is found the part is empty. Assumes nothing.
use mathlib.Core.Path.{◌≡◌, sym}
use Prim.Native.Nat.{ℕ, ◌+◌, ◌-◌, ◌≤◌}
use native.Mathlib.Omega.{arith}
use mathlib.Core.List.{List}
use lib.ListN.{length}
use Rattle.std.specs.Prelude.{Result, Ok}
use Rattle.numbers.specs.declared.Refusal.{Refusal}
use Rattle.layout.specs.Memory.{scan_line, line_placed, placed_given}
use Rattle.layout.proofs.ScanLines.{found, not_found, line_inside, line_given_lem, line_refused}
use Rattle.layout.proofs.memory.scan_line.Goals as goal

-- a line that is found ends in memory, from where the code has it start
ends_inside : (P bank page line : ℕ) (memory : List ℕ) {r : Result ℕ Refusal} {start : ℕ}
    → placed_given r ≡ line_placed P (length memory) bank page line → r ≡ Ok start → start + 80 ≤ length memory
ends_inside P bank page line memory e is =
    let f = found P (length memory) bank page line e is in
    rw f.1 (line_inside P bank page line memory f.0)

pub returns-in_default : goal.returns-in_default
returns-in_default c = sym (line_refused _ _ _ _ _ (not_found _ _ _ _ _ c.find_line.ensures c.in_default.is))

pub overflow_add-result : goal.overflow_add-result
overflow_add-result c = omega (arith, ends_inside _ _ _ _ c.args.memory.now c.find_line.ensures c.in-Ok.is)

pub slice_bounds-result-end-2 : goal.slice_bounds-result-end-2
slice_bounds-result-end-2 c = ends_inside _ _ _ _ c.args.memory.now c.find_line.ensures c.in-Ok.is

pub returns : goal.returns
unfolding scan_line
returns c =
    let f = found _ _ _ _ _ c.find_line.ensures c.in-Ok.is in
    let eighty : c.in-Ok.start + 80 - c.in-Ok.start ≡ 80 = omega arith in
    rw (eighty, f.1) (sym (line_given_lem _ _ _ _ _ f.0))
