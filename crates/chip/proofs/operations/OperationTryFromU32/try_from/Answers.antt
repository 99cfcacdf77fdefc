-- `Operation::try_from`: a number in no arm is no operation's. Assumes nothing.
use mathlib.Core.Path.{◌≡◌, refl}
use mathlib.Core.Bool.{false}
use Prim.Native.Nat.{ℕ, zero, suc, ◌<◌, ◌≤◌}
use native.Mathlib.Omega.{arith}
use borrow.Author.Tests.{le-leb, lt-leb}
use Rattle.chip.specs.Operations.{is_operation}
use Rattle.chip.proofs.operations.OperationTryFromU32.try_from.Goals as goal

beyond : (op : ℕ) → (1 ≤ op → 17 < op) → is_operation op ≡ false
unfolding is_operation
beyond zero f = refl
beyond (suc n) f =
    let above : 17 < suc n = f (omega arith) in
    rw (le-leb 1 (suc n) (omega arith), lt-leb (suc n) 17 above)

pub returns-in_default : goal.returns-in_default
returns-in_default c = (refl, beyond c.args.number (λ h. omega (arith, h)))
