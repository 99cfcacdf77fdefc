-- `buffer::writes::stateful_write`: its outcome and its destination are those of the block's registers. Assumes nothing.
use mathlib.Core.Bool.{false}
use mathlib.Core.Path.{refl, ◌∙◌}
use Prim.Native.Nat.{◌<◌}
use native.Mathlib.Omega.{arith}
use lib.Dec.{eqb}
use Rattle.pixel.proofs.Outcomes.{into_slot_lt, into_word_lt}
use Rattle.chip.specs.Operations.{in_range}
use Rattle.chip.specs.State.{slots}
use Rattle.own.proofs.Lines.{write_fits}
use Rattle.own.proofs.OwnLines.{asked, row_stateful}
use Rattle.own.proofs.Owns.{operands_refused}
use Rattle.buffer.proofs.Draws.{write_in_range, write_done}
use Rattle.buffer.proofs.writes.stateful_write.Goals as goal

pub drawn-outcome-requires : goal.drawn-outcome-requires
unfolding in_range
drawn-outcome-requires c =
    let range : (let w = (asked false (eqb c.args.x.op 10) c.args.x) in (w.slot < 8) × (w.word < 8) × (w.enables < 16) × (w.passin < 4)) = write_in_range 0 ((asked false (eqb c.args.x.op 10) c.args.x)) (c.fits.ensures ∙ write_fits c.args.x) c.if-fits.true in
    let destination : (c.into_slot-slot.result < 8) × (c.into_word-word.result < 8) = let registers = c.registers-registers.result in
    (rw c.into_slot-slot.ensures (into_slot_lt 8 registers ((asked false (eqb c.args.x.op 10) c.args.x)) range.0), rw c.into_word-word.ensures (into_word_lt registers ((asked false (eqb c.args.x.op 10) c.args.x)) range.1)) in
    (c.requires.0, refl, range.0, range.1, destination.0, destination.1)

pub settle-requires : goal.settle-requires
unfolding in_range
settle-requires c =
    let range : (let w = (asked false (eqb c.args.x.op 10) c.args.x) in (w.slot < 8) × (w.word < 8) × (w.enables < 16) × (w.passin < 4)) = write_in_range 0 ((asked false (eqb c.args.x.op 10) c.args.x)) (c.fits.ensures ∙ write_fits c.args.x) c.if-fits.true in
    let destination : (c.into_slot-slot.result < 8) × (c.into_word-word.result < 8) = let registers = c.registers-registers.result in
    (rw c.into_slot-slot.ensures (into_slot_lt 8 registers ((asked false (eqb c.args.x.op 10) c.args.x)) range.0), rw c.into_word-word.ensures (into_word_lt registers ((asked false (eqb c.args.x.op 10) c.args.x)) range.1)) in
    (c.requires.0, destination.0, destination.1)

pub returns-then-fits : goal.returns-then-fits
unfolding in_range slots
returns-then-fits c =
    let x = c.args.x in
    write_done c.args.s.now (λ a. omega (arith, c.slice_known-1.given a)) c.requires.1 ((asked false (eqb c.args.x.op 10) c.args.x)) x (row_stateful x c.requires.2 c.requires.3) (c.fits.ensures ∙ write_fits c.args.x) c.if-fits.true
    c.registers-registers.ensures c.into_slot-slot.ensures c.into_word-word.ensures c.drawn-outcome.ensures c.settle.ensures

pub returns-else-fits : goal.returns-else-fits
unfolding in_range slots
returns-else-fits c =
    operands_refused c.args.s.now c.args.x (row_stateful c.args.x c.requires.2 c.requires.3) (c.fits.ensures ∙ write_fits c.args.x) c.if-fits.false
