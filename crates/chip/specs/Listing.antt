-- 01, The small program: the listing that document 01 gives, and what it prints. Proved in proofs/Examples.antt. Assumes nothing.
use Rattle.std.specs.Prelude.{◌≡◌, ℕ, List, [], ◌∷◌, replicate}
use Rattle.layout.specs.Memory.{size}
use Rattle.chip.specs.declared.Call.{Call}
use Rattle.chip.specs.Operations.{ask}
use Rattle.chip.specs.State.{fresh_of}
use Rattle.chip.specs.Answers.{GivenBack, four_numbers}
use Rattle.chip.specs.Calls.{given_each}

-- the calls
unfoldable pub listing : List Call
listing =
    ask 1 0 0 0 0 0
    ∷ ask 4 0 0 0 0 0
    ∷ ask 11 0 0 15 3 16909060
    ∷ ask 5 0 0 0 0 0
    ∷ ask 7 0 0 0 0 0
    ∷ ask 2 0 0 0 0 0
    ∷ ask 5 0 0 0 0 0
    ∷ []

-- each as number, value, pass, written
unfoldable pub printed : List GivenBack → List (List ℕ)
printed [] = []
printed (g ∷ rest) = four_numbers g ∷ printed rest

-- P = 2, zero memory and a fresh chip
unfoldable pub Listing : Type 0
Listing = printed (given_each (fresh_of 2) (replicate (size 2) 0) listing)
    ≡ (0 ∷ 0 ∷ 0 ∷ 0 ∷ [])
    ∷ (0 ∷ 0 ∷ 0 ∷ 0 ∷ [])
    -- 02, T-02: the third call's line
    ∷ (0 ∷ 15 ∷ 1 ∷ 1 ∷ [])
    ∷ (0 ∷ 4 ∷ 0 ∷ 0 ∷ [])
    ∷ (0 ∷ 16909060 ∷ 0 ∷ 0 ∷ [])
    ∷ (0 ∷ 0 ∷ 0 ∷ 0 ∷ [])
    ∷ (7 ∷ 0 ∷ 0 ∷ 0 ∷ [])
    ∷ []
