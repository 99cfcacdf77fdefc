-- Demand 3's premises can be met: two lists of calls that keep to them over any memory and end with no bytes waiting. Assumes nothing.
use Rattle.std.specs.Prelude.{◌≡◌, List, [], ◌∷◌, ℕ, ◌+◌, ◌*◌, ◌^◌, ◌≤◌, get_or, length}
use Rattle.lists.specs.Words.{Bytes}
use Rattle.layout.specs.Memory.{size}
use Rattle.chip.specs.declared.Call.{Call}
use Rattle.chip.specs.State.{slots}
use Rattle.chip.specs.Operations.{ask}
use Rattle.chip.specs.Answers.{done_with}
use Rattle.chip.specs.Calls.{given_with}
use Rattle.chip.specs.Listing.{listing}
use Rattle.picture.specs.Drawing.{start, after, Settles}

-- on a fresh chip of P pages a bank, over any memory
unfoldable pub SettlesOver : ℕ → List Call → Type 0
SettlesOver P calls = (memory : List ℕ) → length memory ≡ size P → Settles slots (start slots P memory) calls

-- 01, The small program: its listing, for every P
unfoldable pub ListingSettles : Type 0
ListingSettles = (P : ℕ) → 1 ≤ P → P ≤ 257 → SettlesOver P listing

-- a longer list, of what the listing lacks: two slots, masks, both write-backs, write address control 1, a duplicate, the display, refusals among others
unfoldable pub panes : List Call
panes =
    -- slot 0 stands for block 0 of page 0 of bank 0, slot 6 for block 39 of page 1 of bank 1
    ask 1 0 0 0 0 0
    ∷ ask 1 1 1 0 0 0
    ∷ ask 4 0 0 0 0 0
    ∷ ask 4 1 39 6 0 0
    -- no bytes wait, and the plane mask changes; a write to slot 0 under it
    ∷ ask 14 1 0 0 0 0x00ff_00ff
    ∷ ask 11 0 2 15 3 0x0102_0304
    -- picking on, and a write that asks for data greater than OLD and goes where its data say, to slot 6: its pass, its hit and whether bytes of
    -- slot 6 wait hang on memory
    ∷ ask 14 4 0 0 0 0xffff_ffff
    ∷ ask 14 6 0 0 0 0x0c00_0001
    ∷ ask 14 7 0 0 0 1
    ∷ ask 11 0 0 15 3 0x3333_3333
    -- 02, T-01: while bytes wait, a scan line into each video buffer, a clock, and a transfer that is refused, for its buffer is being put out
    ∷ ask 16 0 0 0 0 0
    ∷ ask 16 1 15 0 0 0
    ∷ ask 17 0 0 0 0 0
    ∷ ask 16 0 1 0 0 0
    -- both write-backs, masked and unmasked
    ∷ ask 5 0 0 0 0 0
    ∷ ask 6 1 39 6 0 0
    -- again no bytes wait: the mask becomes all ones, and a stateless write may follow
    ∷ ask 14 1 0 0 0 0xffff_ffff
    ∷ ask 9 6 0 5 0 0xa5a5_a5a5
    ∷ ask 7 6 3 0 0 0
    ∷ ask 5 1 39 6 0 0
    -- a tag write that is refused, for there is no slot 8
    ∷ ask 12 8 0 0 0 1
    -- slot 0 is loaded anew, and no slot stands for a block of bank 0: its page 0, drawn on, is copied over its page 1
    ∷ ask 4 1 0 0 0 0
    ∷ ask 3 0 1 0 0 0
    ∷ []

-- for every P that has a page 1
unfoldable pub PanesSettle : Type 0
PanesSettle = (P : ℕ) → 2 ≤ P → P ≤ 257 → SettlesOver P panes

-- 02, T-01: what `DisplayShowsPicture` asks can be met too. Page 0 of bank 0 is opened and its line 3 transferred: over any memory the next clock
-- puts out that line's first two bytes, 240 and 241 of memory
unfoldable pub LineShown : Type 0
LineShown = (P : ℕ) (memory : List ℕ) → 1 ≤ P → P ≤ 257 → Bytes memory → length memory ≡ size P
    → let v = after slots (start slots P memory) (ask 1 0 0 0 0 0 ∷ ask 16 0 3 0 0 0 ∷ []) in
    given_with slots v.chip v.memory (ask 17 0 0 0 0 0) ≡ done_with (get_or memory 240 0 + get_or memory 241 0 * 2 ^ 8) 0 0
