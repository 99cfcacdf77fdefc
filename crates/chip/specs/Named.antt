-- 01, Calls, table: each operation's number. Assumes nothing.
use Rattle.std.specs.Prelude.{◌≡◌, ℕ, false, Result, MatchResult}
use Rattle.numbers.specs.declared.Refusal.{Refusal}
use Rattle.numbers.specs.declared.Refusal.TheVariants.{UnknownOperation}
use Rattle.chip.specs.declared.operations.Operation.{Operation}
use Rattle.chip.specs.declared.operations.Operation.TheVariants.{AccessPage, Precharge, DuplicatePage, ReadBlock, MaskedWriteBlock, UnmaskedWriteBlock, DataRead, StatelessInitialWrite, StatelessNormalWrite, StatefulInitialWrite, StatefulNormalWrite, ReplaceTag, OrTag, WriteRegister, ReadRegister, VideoTransfer, VideoClock}
use Rattle.chip.specs.Operations.{is_operation}

abbrev pub number_of : Operation → ℕ
number_of AccessPage = 1
number_of Precharge = 2
number_of DuplicatePage = 3
number_of ReadBlock = 4
number_of MaskedWriteBlock = 5
number_of UnmaskedWriteBlock = 6
number_of DataRead = 7
number_of StatelessInitialWrite = 8
number_of StatelessNormalWrite = 9
number_of StatefulInitialWrite = 10
number_of StatefulNormalWrite = 11
number_of ReplaceTag = 12
number_of OrTag = 13
number_of WriteRegister = 14
number_of ReadRegister = 15
-- 02, T-01: 16 and 17
number_of VideoTransfer = 16
number_of VideoClock = 17

-- the operation that has this number; 01, Numbers, 3: none has it
abbrev pub IsNamed : ℕ → Result Operation Refusal → Type 0
IsNamed op named = MatchResult named (λ operation. number_of operation ≡ op) (λ refusal. (refusal ≡ UnknownOperation) × (is_operation op ≡ false))
