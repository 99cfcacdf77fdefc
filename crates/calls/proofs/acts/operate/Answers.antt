-- `calls::acts::operate`: 10 and 11 are the stateful write by its line; `other` has the rest. Assumes nothing.
use mathlib.Core.Path.{refl}
use Prim.Native.Nat.{◌≤◌}
use native.Mathlib.Omega.{arith}
use borrow.Author.Rules.{rules}
use Rattle.chip.specs.Effects.{effect, memory_after}
use Rattle.own.proofs.OwnLines.{row_stateful}
use Rattle.calls.proofs.ByLine.{ready_from, beside_memory}
use Rattle.calls.proofs.acts.operate.Goals as goal

pub returns-then-is_initial-x : goal.returns-then-is_initial-x
unfolding effect memory_after
returns-then-is_initial-x c =
    let ready = ready_from c.args.s.now c.args.memory.now c.slice_known-1.given c.requires.1 c.requires.2 in
    let low : 10 ≤ c.args.x.op = search rules in
    let high : c.args.x.op ≤ 11 = search rules in
    let own = c.stateful_write.ensures in
    beside_memory ready c.args.x (row_stateful _ low high) refl (omega (arith, low)) (omega (arith, high)) own.0 (own.1 _)
