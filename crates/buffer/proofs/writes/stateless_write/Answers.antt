-- `buffer::writes::stateless_write`: its outcome is that of any registers, its destination that of its operands. Assumes nothing.
use mathlib.Core.Bool.{true}
use mathlib.Core.Path.{refl, sym, ap, ◌∙◌}
use Prim.Native.Nat.{◌<◌}
use native.Mathlib.Omega.{arith}
use lib.Dec.{eqb}
use Rattle.bits.specs.Bits.{word_in}
use Rattle.pixel.specs.Writes.{outcome_of}
use Rattle.chip.specs.Effects.{slot_byte}
use Rattle.chip.specs.Operations.{in_range}
use Rattle.chip.specs.State.{slots}
use Rattle.block.specs.Block.{decode_control, pixels_in}
use Rattle.own.proofs.Lines.{write_fits}
use Rattle.own.proofs.OwnLines.{asked, row_stateless}
use Rattle.own.proofs.Owns.{operands_refused}
use Rattle.buffer.proofs.Draws.{stateless_slot, stateless_word, write_in_range, write_done}
use Rattle.buffer.proofs.writes.stateless_write.Goals as goal

pub slot_word-dest-requires : goal.slot_word-dest-requires
unfolding in_range
slot_word-dest-requires c =
    let range : (let w = (asked true (eqb c.args.x.op 8) c.args.x) in (w.slot < 8) × (w.word < 8) × (w.enables < 16) × (w.passin < 4)) = write_in_range 0 ((asked true (eqb c.args.x.op 8) c.args.x)) (c.fits.ensures ∙ write_fits c.args.x) c.if-fits.true in
    (c.requires.0, range.0, range.1)

pub settle-requires : goal.settle-requires
unfolding in_range
settle-requires c =
    let range : (let w = (asked true (eqb c.args.x.op 8) c.args.x) in (w.slot < 8) × (w.word < 8) × (w.enables < 16) × (w.passin < 4)) = write_in_range 0 ((asked true (eqb c.args.x.op 8) c.args.x)) (c.fits.ensures ∙ write_fits c.args.x) c.if-fits.true in
    (c.requires.0, range.0, range.1)

pub returns-then-fits : goal.returns-then-fits
unfolding in_range slots
returns-then-fits c =
    let s = c.args.s.now in
    let x = c.args.x in
    let w = (asked true (eqb c.args.x.op 8) c.args.x) in
    let registers = (decode_control s).registers in
    let old = word_in (slot_byte (pixels_in s) x.a) x.b in
    write_done s (λ a. omega (arith, c.slice_known-1.given a)) c.requires.1 w x (row_stateless x c.requires.2 c.requires.3) (c.fits.ensures ∙ write_fits c.args.x) c.if-fits.true
    refl (sym (stateless_slot registers (eqb x.op 8) x)) (sym (stateless_word registers (eqb x.op 8) x))
    (c.stateless-outcome.ensures registers old ∙ ap (outcome_of registers w old) c.slot_word-dest.ensures) c.settle.ensures

pub returns-else-fits : goal.returns-else-fits
unfolding in_range slots
returns-else-fits c =
    operands_refused c.args.s.now c.args.x (row_stateless c.args.x c.requires.2 c.requires.3) (c.fits.ensures ∙ write_fits c.args.x) c.if-fits.false
