-- `runs::run`. The invariant: the calls that are left, made on what those so far left, leave and tell what all the calls do on
-- what was there at first. Assumes nothing.
use mathlib.Core.Path.{◌≡◌, refl, sym, ap, ◌∙◌}
use mathlib.Core.Bool.{true}
use Prim.Native.Nat.{◌*◌, ◌/◌, ◌<◌}
use native.Mathlib.Omega.{arith}
use lib.ListN.{length}
use Rattle.numbers.specs.Numbers.{first}
use Rattle.numbers.proofs.Tests.{test_holds, test_fails}
use Rattle.chip.specs.declared.Chip.{Chip}
use Rattle.runs.proofs.Tellings.{five_put}
use Rattle.runs.specs.Runs.{told_by, left, room_for, run_number, run_left}
use Rattle.runs.proofs.EachCall.{room_told, call_of_six, goes_first, goes_next, goes_last}
use Rattle.runs.proofs.run.Goals as goal

pub returns-then-not-room_for : goal.returns-then-not-room_for
unfolding run_number run_left first
returns-then-not-room_for c =
    let a = c.args in
    let own = c.refused.ensures in
    rw (test_fails c.room_for.ensures c.if-not-room_for.true)
    (own.0, ap (λ (chip : Chip). left chip a.memory.now a.told.now) own.1)

pub slice_bounds-copy_from_slice-end : goal.slice_bounds-copy_from_slice-end
slice_bounds-copy_from_slice-end c =
    let room : room_for c.args.numbers.now c.args.told.now ≡ true = test_holds c.room_for.ensures c.if-not-room_for.false in
    omega (arith, room_told _ _ room)

pub loop-i-preserved : goal.loop-i-preserved
unfolding told_by
loop-i-preserved c =
    let was = c.loop-i in
    let own = c.perform-answered.ensures in
    let numbers = c.args.numbers.now in
    let room : room_for c.args.numbers.now c.args.told.now ≡ true = test_holds c.room_for.ensures c.if-not-room_for.false in
    let more : was.i < length numbers / 6 = omega arith in
    let call = c.call_of.ensures ∙ call_of_six numbers _ (length numbers / 6) was.i c.as_chunks.ensures.front more in
    let told = told_by was.ran was.memory c.call_of.result in
    let five : c.five_of.result ≡ told = c.five_of.ensures ∙ rw (own.0, own.1) refl in
    let put = five_put was.told _ told (5 * was.i) (omega (arith, room_told _ _ room)) refl (c.copy_from_slice.ensures.after ∙ five) in
    rw (own.1, own.2, put) (goes_next numbers was.i (left was.ran was.memory was.told) c.call_of.result (omega arith) call)
    ∙ was.invariant

pub returns : goal.returns
unfolding run_number run_left first
returns c =
    let room : room_for c.args.numbers.now c.args.told.now ≡ true = test_holds c.room_for.ensures c.if-not-room_for.false in
    let end = c.loop-i in
    let room' = room in
    rw room' (c.done.ensures, sym (goes_last _ end.i _ (omega arith)) ∙ end.invariant ∙ goes_first _ _ room')
