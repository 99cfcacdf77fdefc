-- A list of calls over a chip and the memory lent to it, and what is told of each: each call is made on what the one before it left. Assumes nothing.
use Rattle.std.specs.Prelude.{Bool, not, ◌&&◌, List, [], ◌∷◌, ◌++◌, ℕ, ◌+◌, ◌*◌, eqb, length, get_or}
use Rattle.bits.specs.Bits.{digit}
use Rattle.numbers.specs.Numbers.{first, when_done}
use Rattle.layout.specs.Memory.{pages_fit}
use Rattle.chip.specs.declared.Chip.{Chip}
use Rattle.chip.specs.declared.Call.{Call}
use Rattle.chip.specs.State.{fresh_of}
use Rattle.chip.specs.Operations.{ask}
use Rattle.chip.specs.Answers.{GivenBack, four_numbers}
use Rattle.chip.specs.Calls.{call_given, chip_of, memory_of}

-- ---- calls as numbers

-- six numbers in a row are a call: operation number, operands a to d, data word. Fewer than six at the end are no call
unfoldable pub calls_in : List ℕ → List Call
calls_in [] = []
calls_in (op ∷ []) = []
calls_in (op ∷ a ∷ []) = []
calls_in (op ∷ a ∷ b ∷ []) = []
calls_in (op ∷ a ∷ b ∷ c ∷ []) = []
calls_in (op ∷ a ∷ b ∷ c ∷ d ∷ []) = []
calls_in (op ∷ a ∷ b ∷ c ∷ d ∷ given ∷ rest) = ask op a b c d given ∷ calls_in rest

-- the call of the six numbers from a place on
abbrev pub call_at : List ℕ → ℕ → Call
call_at numbers at =
    ask (get_or numbers at 0) (get_or numbers (at + 1) 0) (get_or numbers (at + 2) 0) (get_or numbers (at + 3) 0) (get_or numbers (at + 4) 0)
    (get_or numbers (at + 5) 0)

-- ---- what is told of a call

-- 01, The small program: number, value, pass, written; and a hit flag, 1 or 0
abbrev pub five_numbers : GivenBack → Bool → List ℕ
five_numbers g hit = four_numbers g ++ (digit hit ∷ [])

-- what a call gives back, and the hit flag after it
unfoldable pub told_by : Chip → List ℕ → Call → List ℕ
told_by chip memory x = five_numbers (call_given chip memory x) (chip_of chip memory x).control.hit

-- ---- calls one after the other

-- a chip, the memory lent to it, and what is told of calls
pub record Left : Type 0 where
  pub chip : Chip
  pub memory : List ℕ
  pub told : List ℕ

abbrev pub left : Chip → List ℕ → List ℕ → Left
left chip memory told = record { chip = chip; memory = memory; told = told }

-- what a list of calls leaves and tells
unfoldable pub ran_of : Chip → List ℕ → List Call → Left
ran_of chip memory [] = left chip memory []
ran_of chip memory (x ∷ xs) =
    let rest = ran_of (chip_of chip memory x) (memory_of chip memory x) xs in
    left rest.chip rest.memory (told_by chip memory x ++ rest.told)

-- ---- `run` and `draw`: done, or refused, and then nothing changes

-- whether what is lent for telling has five numbers for each call
unfoldable pub room_for : List ℕ → List ℕ → Bool
room_for numbers told = eqb (length told) (5 * length (calls_in numbers))

-- 01, Numbers, 4: outside its range
unfoldable pub run_number : List ℕ → List ℕ → ℕ
run_number numbers told = first ((4, not (room_for numbers told)) ∷ [])

unfoldable pub run_left : List ℕ → Left → Left
run_left numbers was = when_done (run_number numbers was.told) (ran_of was.chip was.memory (calls_in numbers)) was

-- 01, Numbers, 4: a fresh chip asked for with P outside 1 to 257; and as above
unfoldable pub draw_number : ℕ → List ℕ → List ℕ → ℕ
draw_number P numbers told = first ((4, not (pages_fit P && room_for numbers told)) ∷ [])

unfoldable pub draw_left : ℕ → List ℕ → Left → Left
draw_left P numbers was = when_done (draw_number P numbers was.told) (ran_of (fresh_of P) was.memory (calls_in numbers)) was
