-- Demand 3 for what a run tells and leaves, in a caller's words: a chip made fresh with P, a memory lent to it, and a list of calls.
-- Assumes nothing.
use Rattle.std.specs.Prelude.{◌≡◌, List, [], ◌∷◌, ◌++◌, ℕ, ◌≤◌, length, get_or, set, take, drop}
use Rattle.layout.specs.Memory.{size}
use Rattle.chip.specs.declared.Call.{Call}
use Rattle.chip.specs.State.{slots, fresh_of}
use Rattle.chip.specs.Operations.{operation}
use Rattle.chip.specs.Answers.{GivenBack}
use Rattle.chip.specs.Listing.{listing}
use Rattle.picture.specs.Book.{Book, NoneWaits}
use Rattle.picture.specs.Flat.{Flat}
use Rattle.lists.specs.Words.{Bytes}
use Rattle.picture.specs.Drawing.{Seen, value_seen, start, after, flat_seen, Fair}
use Rattle.picture.specs.Samples.{panes}
use Rattle.runs.specs.Runs.{five_numbers, ran_of}

-- what is compared of what is told: of each five numbers, all but the second of a write-back, its value
unfoldable pub compared : List Call → List ℕ → List ℕ
compared [] told = []
compared (x ∷ xs) told = set (take 5 told) 1 (value_seen (operation x) (get_or told 1 0)) ++ compared xs (drop 5 told)

-- what is seen, as five numbers a call
unfoldable pub seen_numbers : List Seen → List ℕ
seen_numbers [] = []
seen_numbers (s ∷ rest) = five_numbers s.given s.hit ++ seen_numbers rest

module _ (P : ℕ) (memory : List ℕ) (calls : List Call) where
  -- "Suppose ..": the calls keep to the premises
  abbrev pub Supposed : Type 0
  Supposed = Fair slots (start slots P memory) calls

  -- the flat picture, what is seen of it, and the book of what slots stand for and which bytes wait, after the calls
  abbrev pub flat_after : Flat
  flat_after = (after slots (start slots P memory) calls).flat

  abbrev pub seen_flat : List Seen
  seen_flat = flat_seen slots (start slots P memory) calls

  abbrev pub book_after : Book
  book_after = (after slots (start slots P memory) calls).book

-- 01, Numbers: 0 is done
abbrev pub IsDone : GivenBack → Type 0
IsDone g = g.number ≡ 0

-- the demand for what calls told and left. (Lent memory is of bytes by its type)
unfoldable pub IsPicture : ℕ → List ℕ → List Call → List ℕ → List ℕ → Type 0
IsPicture P memory calls told left =
    -- "Start fresh over any memory": of the length without which every call is refused
    length memory ≡ size P
    → Supposed P memory calls
    -- "every read, pass and hit equals the flat picture's"
    → (compared calls told ≡ seen_numbers (seen_flat P memory calls))
    -- "and once no bytes wait, memory is that picture in every byte"
    × (NoneWaits (book_after P memory calls) → left ≡ (flat_after P memory calls).picture)

-- the demand for every run
unfoldable pub RunDraws : Type 0
RunDraws = (P : ℕ) (memory : List ℕ) (calls : List Call) → Bytes memory
    → IsPicture P memory calls (ran_of (fresh_of P) memory calls).told (ran_of (fresh_of P) memory calls).memory

-- and for the lists of Samples.antt, which keep to the premises and end with no bytes waiting: nothing is left to suppose
unfoldable pub LeavesPicture : ℕ → List Call → Type 0
LeavesPicture P calls =
    (memory : List ℕ) → Bytes memory → length memory ≡ size P → (ran_of (fresh_of P) memory calls).memory ≡ (flat_after P memory calls).picture

unfoldable pub SamplesDrawn : Type 0
SamplesDrawn = ((P : ℕ) → 1 ≤ P → P ≤ 257 → LeavesPicture P listing) × ((P : ℕ) → 2 ≤ P → P ≤ 257 → LeavesPicture P panes)
