-- `bank::transfer`, by the loop's invariant: after w turns the buffer has the line's first w words. Assumes nothing.
use mathlib.Core.Path.{◌≡◌}
use Prim.Native.Nat.{◌+◌, ◌*◌}
use lib.ListN.{get_or}
use Rattle.lists.specs.Update.{update}
use Rattle.bank.specs.Work.{in_buffer}
use Rattle.bank.proofs.transfer.Given as goal

abbrev pub invariant-loop-w : goal.invariant-loop-w
invariant-loop-w l = l.video ≡ update (4 * l.w) (in_buffer l.buffer) (λ j was. get_or l.memory (l.start + j) 0) l.initial.video
