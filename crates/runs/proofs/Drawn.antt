-- Demand 3 for what a run tells and leaves: its definitions are the chip's part of demand 3's run. Assumes nothing.
use mathlib.Core.Path.{◌≡◌, refl, sym, ap, ◌∙◌, subst}
use mathlib.Core.List.{List, [], ◌∷◌, ◌++◌}
use Prim.Native.Nat.{ℕ}
use Rattle.chip.specs.declared.Call.{Call}
use Rattle.chip.specs.State.{slots, fresh_of}
use Rattle.chip.specs.Operations.{operation}
use Rattle.chip.specs.Calls.{call_given, chip_of, memory_of}
use Rattle.chip.specs.Listing.{listing}
use Rattle.lists.specs.Words.{Bytes}
use Rattle.picture.specs.Drawing.{World, seen, start, next, after, chip_seen, DrawingAgrees, Settles}
use Rattle.picture.specs.Samples.{panes, SettlesOver, ListingSettles, PanesSettle}
use Rattle.picture.proofs.Agree.{drawing_agrees}
use Rattle.picture.proofs.Samples.{listing_settles, panes_settle}
use Rattle.runs.specs.Runs.{five_numbers, told_by, Left, ran_of}
use Rattle.runs.specs.Drawn.{compared, seen_numbers, RunDraws, IsPicture, LeavesPicture, SamplesDrawn}

-- ---- the chip's part of demand 3's run

left_after : (calls : List Call) (w : World) → (ran_of w.chip w.memory calls).memory ≡ (after slots w calls).memory
unfolding ran_of after next chip_of memory_of
left_after [] w = refl
left_after (x ∷ xs) w = left_after xs (next slots w x)

told_after : (calls : List Call) (w : World) → compared calls (ran_of w.chip w.memory calls).told ≡ seen_numbers (chip_seen slots w calls)
unfolding ran_of told_by compared seen_numbers seen chip_seen next call_given chip_of memory_of
told_after [] w = refl
told_after (x ∷ xs) w =
    let s = seen (operation x) (call_given w.chip w.memory x) (chip_of w.chip w.memory x).control in
    ap (λ (l : List ℕ). five_numbers s.given s.hit ++ l) (told_after xs (next slots w x))

-- ---- demand 3 for a run

pub run_draws : RunDraws
unfolding RunDraws IsPicture DrawingAgrees start fresh_of
run_draws P memory calls fit sized supposed =
    let w = start slots P memory in
    let agrees = drawing_agrees slots P memory calls fit sized supposed in
    (told_after calls w ∙ ap seen_numbers agrees.0, λ none. left_after calls w ∙ agrees.1 none)

-- and so for what is the run's
pub is_picture : (P : ℕ) (memory : List ℕ) (calls : List Call) (l : Left) → Bytes memory → l ≡ ran_of (fresh_of P) memory calls
    → IsPicture P memory calls l.told l.memory
unfolding RunDraws
is_picture P memory calls l fit e = subst (λ (r : Left). IsPicture P memory calls r.told r.memory) (sym e) (run_draws P memory calls fit)

leaves_picture : (P : ℕ) (calls : List Call) → SettlesOver P calls → LeavesPicture P calls
unfolding RunDraws IsPicture LeavesPicture SettlesOver Settles
leaves_picture P calls settles memory fit sized =
    let kept = settles memory sized in
    (run_draws P memory calls fit sized kept.0).1 kept.1

pub samples_drawn : SamplesDrawn
unfolding SamplesDrawn ListingSettles PanesSettle
samples_drawn = (λ P low high. leaves_picture P listing (listing_settles P low high), λ P low high. leaves_picture P panes (panes_settle P low high))
