-- What demands 1 and 2 say of every call by value, as statements. Proved in proofs/NumbersGiven.antt. Assumes nothing.
use Rattle.std.specs.Prelude.{◌≡◌, ℕ, ◌≢◌, List, length}
use Rattle.chip.specs.declared.Chip.{Chip}
use Rattle.chip.specs.declared.Call.{Call}
use Rattle.chip.specs.Answers.{numbered}
use Rattle.chip.specs.Refusals.{number}
use Rattle.chip.specs.Calls.{given_with, chip_with, memory_with}

-- 01, Numbers: checked in this order; the first that applies is given
unfoldable pub NumbersGiven : Type 0
NumbersGiven = (n : ℕ) (chip : Chip) (memory : List ℕ) (x : Call) → (given_with n chip memory x).number ≡ number n chip.control (length memory) x

-- 01, Numbers: a refusal has value, pass and written 0 and changes nothing, the counter included
unfoldable pub RefusalChangesNothing : Type 0
RefusalChangesNothing = (n : ℕ) (chip : Chip) (memory : List ℕ) (x : Call) → number n chip.control (length memory) x ≢ 0
    → (given_with n chip memory x ≡ numbered (number n chip.control (length memory) x))
    × (chip_with n chip memory x ≡ chip)
    × (memory_with n chip memory x ≡ memory)
