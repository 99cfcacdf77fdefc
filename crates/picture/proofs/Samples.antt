-- Document 01's listing and a longer list keep to demand 3's premises over any memory and end with no bytes waiting: the theorem is not empty.
-- A line a call: that it is done, or refused, and what the premises ask of it. Assumes nothing.
use mathlib.Core.Path.{◌≡◌, refl}
use mathlib.Core.Bool.{true}
use mathlib.Core.List.{List}
use Prim.Native.Nat.{ℕ, ◌≤◌}
use native.Mathlib.Omega.{arith}
use lib.Dec.{ltb, lit<}
use borrow.Author.Tests.{lt-ltb, le-leb}
use Rattle.bits.specs.Bits.{bit, word, within}
use Rattle.numbers.specs.Numbers.{first}
use Rattle.layout.specs.Memory.{pages_fit}
use Rattle.pixel.specs.Pixel.{match_test, magnitude_test, match_passes, magnitude_passes, enabled_by}
use Rattle.pixel.specs.Registers.{register, fresh_registers}
use Rattle.pixel.specs.Writes.{used, into_slot, into_word, passes_match, passes_magnitude, enabled, taken}
use Rattle.chip.specs.declared.Call.{Call}
use Rattle.chip.specs.Video.{fresh_scan, buffer_of, in_use, counted, clocked}
use Rattle.chip.specs.State.{slots, closed, open_page, is_closed, writable, fresh_control, fresh_with}
use Rattle.chip.specs.Operations.{is_operation, call_table, row, operation, in_range}
use Rattle.chip.specs.Painting.{marked, tag_with}
use Rattle.chip.specs.Changes.{switched, with_register, ticked}
use Rattle.chip.specs.Effects.{effect}
use Rattle.chip.specs.Refusals.{operands_fit, asks, call_tests}
use Rattle.chip.specs.Listing.{listing}
use Rattle.chip.proofs.Stays.{fresh_well_formed}
use Rattle.picture.specs.Book.{note, blank}
use Rattle.picture.specs.Flat.{flat_fresh}
use Rattle.picture.specs.Drawing.{start}
use Rattle.picture.specs.Samples.{SettlesOver, ListingSettles, PanesSettle, panes}
use Rattle.picture.proofs.Nexts.{world_of}
use Rattle.picture.proofs.Ready.{formed_number}
use Rattle.picture.proofs.PremiseTest.{standing, off_page, off_block, idle, each, kept}
use Rattle.picture.proofs.SettlesFrom.{SettlesFrom, ends, done, refused}

-- calls that keep to the premises from a fresh chip on, whatever the bytes are, do so over any memory
settles_over : (P : ℕ) (calls : List Call) → pages_fit P ≡ true → SettlesFrom slots (fresh_control slots P) (blank slots) calls → SettlesOver P calls
unfolding SettlesOver start fresh_with world_of fresh_control
settles_over P calls fit settles memory sized = settles.over _ _ memory (flat_fresh P memory) (fresh_well_formed slots P fit, sized)

pub pages_fit_lem : (P : ℕ) → 1 ≤ P → P ≤ 257 → pages_fit P ≡ true
unfolding pages_fit
pages_fit_lem P low high = rw (le-leb 1 P low, le-leb P 257 high)

-- ---- document 01's listing

listing_from_fresh : (P : ℕ) → ltb 0 P ≡ true → SettlesFrom slots (fresh_control slots P) (blank slots) listing
unfolding listing slots formed_number first call_tests operands_fit is_operation row call_table operation in_range asks is_closed open_page closed fresh_control fresh_registers effect ticked note blank kept standing off_page off_block idle each used into_slot into_word register bit word passes_match passes_magnitude match_passes magnitude_passes match_test magnitude_test enabled_by enabled taken marked tag_with
listing_from_fresh P page =
    -- access
    done (rw page) refl (λ r.
    -- load of slot 0
    done refl refl (λ r.
    -- write to slot 0
    done refl refl (λ r.
    -- write-back
    done refl refl (λ r.
    -- data read
    done refl refl (λ r.
    -- precharge
    done refl refl (λ r.
    -- a write-back that is refused: the bank is closed
    refused 7 refl (lit< tt)
    (ends refl)))))))

pub listing_settles : ListingSettles
unfolding ListingSettles
listing_settles P low high = settles_over P listing (pages_fit_lem P low high) (listing_from_fresh P (lt-ltb 0 P low))

-- ---- the longer list

panes_from_fresh : (P : ℕ) → ltb 0 P ≡ true → ltb 1 P ≡ true → SettlesFrom slots (fresh_control slots P) (blank slots) panes
unfolding panes slots formed_number first call_tests operands_fit is_operation row call_table operation in_range asks in_use buffer_of fresh_scan clocked counted within writable with_register switched is_closed open_page closed fresh_control fresh_registers effect ticked note blank kept standing off_page off_block idle each used into_slot into_word register bit word passes_match passes_magnitude match_passes magnitude_passes match_test magnitude_test enabled_by enabled taken marked tag_with
panes_from_fresh P page0 page1 =
    -- two pages opened, two slots loaded
    done (rw page0) refl (λ r.
    done (rw page1) refl (λ r.
    done refl refl (λ r.
    done refl refl (λ r.
    -- the plane mask, while no bytes wait; a write to slot 0
    done refl refl (λ r.
    done refl refl (λ r.
    -- three registers that are not the plane mask; a write that reads slot 0 and goes to slot 6
    done refl refl (λ r.
    done refl refl (λ r.
    done refl refl (λ r.
    done refl refl (λ r.
    -- two transfers and a clock; a transfer that is refused: the counter isn't 0
    done refl refl (λ r.
    done refl refl (λ r.
    done refl refl (λ r.
    refused 10 refl (lit< tt) (
    -- write-backs, each to the slot's own block
    done refl refl (λ r.
    done refl refl (λ r.
    -- the plane mask, while no bytes wait; a stateless write under a mask of all ones
    done refl refl (λ r.
    done refl refl (λ r.
    -- data read, write-back
    done refl refl (λ r.
    done refl refl (λ r.
    -- a tag write that is refused: there is no slot 8
    refused 4 refl (lit< tt) (
    -- slot 0 loaded anew; a page copied over another, where no slot stands for a block of either
    done refl refl (λ r.
    done (rw page1) refl (λ r.
    ends refl)))))))))))))))))))))))

pub panes_settle : PanesSettle
unfolding PanesSettle
panes_settle P low high =
    settles_over P panes (pages_fit_lem P (omega arith) high) (panes_from_fresh P (lt-ltb 0 P (omega arith)) (lt-ltb 1 P low))
