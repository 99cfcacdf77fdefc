-- 01, Numbers given back, table: the number of each refusal. Assumes nothing.
use Rattle.std.specs.Prelude.{ℕ}
use Rattle.numbers.specs.declared.Refusal.{Refusal}
use Rattle.numbers.specs.declared.Refusal.TheVariants.{IllFormed, MemoryLength, UnknownOperation, OperandOutside, BitNotAllowed, BankOpen, BankClosed, OffScreen, NotALine, BufferInUse}

-- 01, Expected form: an enum, and this paper's number for each of its cases: 1 to 9; 02, T-01: 10
abbrev pub refusal_number : Refusal → ℕ
refusal_number IllFormed = 1
refusal_number MemoryLength = 2
refusal_number UnknownOperation = 3
refusal_number OperandOutside = 4
refusal_number BitNotAllowed = 5
refusal_number BankOpen = 6
refusal_number BankClosed = 7
refusal_number OffScreen = 8
refusal_number NotALine = 9
refusal_number BufferInUse = 10
