-- `runs::draw`: the run of a fresh chip, and demand 3 for what it tells and leaves. Assumes nothing.
use mathlib.Core.Path.{◌≡◌, ap, ap₂}
use mathlib.Core.Bool.{Bool, true, ◌&&◌}
use mathlib.Core.List.{List}
use Prim.Native.Nat.{ℕ}
use native.Mathlib.Omega.{arith}
use Rattle.numbers.specs.Numbers.{first}
use Rattle.numbers.proofs.Tests.{and_left, and_right, test_holds, test_fails}
use Rattle.layout.specs.Memory.{pages_fit}
use Rattle.layout.proofs.ScanLines.{pages_between}
use Rattle.chip.specs.declared.Chip.{Chip}
use Rattle.chip.specs.Answers.{GivenBack}
use Rattle.runs.specs.Runs.{left, room_for, run_number, run_left, draw_number, draw_left}
use Rattle.runs.proofs.Drawn.{is_picture}
use Rattle.runs.proofs.draw.Goals as goal

pub returns-then-not-pages_fit-room_for : goal.returns-then-not-pages_fit-room_for
unfolding draw_number draw_left first
returns-then-not-pages_fit-room_for c =
    let a = c.args in
    let asked : (c.pages_fit.result && c.room_for.result) ≡ (pages_fit a.pages && room_for a.numbers.now a.told.now) = ap₂ (λ (a b : Bool). a && b) c.pages_fit.ensures c.room_for.ensures in
    let own = c.refused.ensures in
    rw (test_fails asked c.if-not-pages_fit-room_for.true) (record {
      answered = (own.0, ap (λ (chip : Chip). left chip a.memory.now a.told.now) own.1);
      picture = λ done. absurd (omega (arith, ap (λ (g : GivenBack). g.number) own.0));
    })

-- past the test P is in its range, and there is room
drawable : {fits room : Bool} (pages : ℕ) (numbers told : List ℕ) → fits ≡ pages_fit pages → room ≡ room_for numbers told → (fits && room) ≡ true
    → (pages_fit pages && room_for numbers told) ≡ true
drawable pages numbers told fits room passed = test_holds (ap₂ (λ (a b : Bool). a && b) fits room) passed

pub returns : goal.returns
unfolding draw_number draw_left run_number run_left first
returns c =
    let both = drawable _ _ _ c.pages_fit.ensures c.room_for.ensures c.if-not-pages_fit-room_for.false in
    let own = rw (c.fresh.ensures, and_right (pages_fit _) _ both) at c.run.ensures in
    rw both (record { answered = own; picture = λ done. is_picture _ _ _ _ (λ a. omega (arith, c.slice_known-1.given a)) own.1 })

pub overflow_cast-pages : goal.overflow_cast-pages
overflow_cast-pages c =
    let between = pages_between _ (and_left _ (room_for _ _) (drawable _ _ _ c.pages_fit.ensures c.room_for.ensures c.if-not-pages_fit-room_for.false)) in
    omega (arith, between.1)

pub fresh-requires : goal.fresh-requires
fresh-requires c = pages_between _ (and_left _ (room_for _ _) (drawable _ _ _ c.pages_fit.ensures c.room_for.ensures c.if-not-pages_fit-room_for.false))
