-- 01, The small program: what it prints, as bytes. Assumes nothing.
use Rattle.std.specs.Prelude.{◌≡◌, length, cond, List, [], ◌∷◌, ◌++◌, ℕ, zero, suc, ◌+◌, ◌/◌, ◌%◌, ltb, replicate}
use Rattle.std.proofs.lemmas.List.Edits.{sets}
use Rattle.layout.specs.Memory.{size}
use Rattle.chip.specs.State.{fresh_of}
use Rattle.chip.specs.Answers.{GivenBack, four_numbers}
use Rattle.lines.specs.Lines.{lines_of, replies}

-- the decimal digits of a number that has at most k, with no zero in front of them
unfoldable pub digits_in : ℕ → ℕ → List ℕ
digits_in zero x = []
digits_in (suc k) x = cond (ltb x 10) ((48 + x) ∷ []) (digits_in k (x / 10) ++ ((48 + x % 10) ∷ []))

-- a number below 2^32 has at most ten
unfoldable pub digits_of : ℕ → List ℕ
digits_of = digits_in 10

-- a number, and the byte that ends it
unfoldable pub printed_number : ℕ → ℕ → List ℕ
printed_number x end = digits_of x ++ (end ∷ [])

-- 01, The small program: a line of numbers, single spaces between, byte 10 at its end
unfoldable pub printed_line : List ℕ → List ℕ
printed_line [] = 10 ∷ []
printed_line (x ∷ []) = printed_number x 10
printed_line (x ∷ y ∷ numbers) = printed_number x 32 ++ printed_line (y ∷ numbers)

-- 01, The small program: a line is number, value, pass, written
unfoldable pub printed_given : GivenBack → List ℕ
printed_given g = printed_line (four_numbers g)

unfoldable pub printed_each : List GivenBack → List ℕ
printed_each [] = []
printed_each (g ∷ rest) = printed_given g ++ printed_each rest

-- some bytes stored in a buffer from a place on: the place after them, and the buffer
pub record Stored (before : List ℕ) (at : ℕ) (bytes after : List ℕ) (next : ℕ) : Type 0 where
  pub place : next ≡ at + length bytes
  pub buffer : after ≡ sets before at bytes

-- 01, The small program: the header, "number value pass written" and byte 10
unfoldable pub heading : List ℕ
heading =
    110 ∷ 117 ∷ 109 ∷ 98 ∷ 101 ∷ 114 ∷ 32 ∷ 118 ∷ 97 ∷ 108 ∷ 117 ∷ 101 ∷ 32 ∷ 112 ∷ 97 ∷ 115 ∷ 115 ∷ 32 ∷ 119 ∷ 114 ∷ 105 ∷ 116 ∷ 116 ∷ 101 ∷ 110
    ∷ 10 ∷ []

-- 01, The small program: P = 2, zero memory and a fresh chip; a header, then one line a line read
unfoldable pub output_of : List ℕ → List ℕ
output_of input = heading ++ printed_each (replies (fresh_of 2) (replicate (size 2) 0) (lines_of input))
