-- `bank::load`, by the loop's invariant: after w turns the slot has the block's first w words. Assumes nothing.
use mathlib.Core.Path.{◌≡◌}
use Prim.Native.Nat.{◌*◌}
use lib.ListN.{get_or}
use Rattle.layout.specs.Memory.{in_bank, in_page}
use Rattle.lists.specs.Update.{update}
use Rattle.bank.specs.Work.{in_slot}
use Rattle.bank.proofs.load.Given as goal

abbrev pub invariant-loop-w : goal.invariant-loop-w
invariant-loop-w l = l.pixels ≡ update (4 * l.w) (in_slot l.slot) (λ i was. get_or l.part (in_bank l.place.page (in_page l.place.block i)) 0) l.initial.pixels
