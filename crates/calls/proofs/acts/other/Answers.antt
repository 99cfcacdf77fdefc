-- `calls::acts::other`: each arm is its operation, by its number's line, and a number that names none is refused. Assumes nothing.
use mathlib.Core.Path.{refl, ◌∙◌}
use native.Mathlib.Omega.{arith}
use Rattle.chip.specs.Operations.{is_operation}
use Rattle.chip.specs.Effects.{effect, memory_after}
use Rattle.own.proofs.OwnLines.{row_access, row_precharge, row_read_block, row_data_read, row_stateless, row_write_tag, row_write_register, row_read_register, row_video_transfer, row_video_clock}
use Rattle.calls.proofs.ByLine.{ready_from, unknown, by_its_line, beside_memory, at_number, refused_with, op_is, op_among}
use Rattle.calls.proofs.acts.other.Goals as goal

pub returns-in_err-try_from : goal.returns-in_err-try_from
returns-in_err-try_from c =
    let ready = ready_from c.args.s.now c.args.memory.now c.slice_known-1.given c.requires.1 c.requires.2 in
    let none = c.in_err-try_from.ensures in
    let refused = unknown ready c.args.x none.1 in
    (refused_with _ _ c.from_residual.ensures.1 none.0 ∙ refused.0, refused.1, refused.2)

pub returns-in-AccessPage : goal.returns-in-AccessPage
unfolding effect memory_after is_operation
returns-in-AccessPage c =
    let ready = ready_from c.args.s.now c.args.memory.now c.slice_known-1.given c.requires.1 c.requires.2 in
    let own = c.access.ensures in
    at_number ready c.args.x (op_is c.in_ok-try_from.ensures c.in-AccessPage.is) refl (row_access _) refl (own.0, own.1 _)

pub returns-in-Precharge : goal.returns-in-Precharge
unfolding effect memory_after is_operation
returns-in-Precharge c =
    let ready = ready_from c.args.s.now c.args.memory.now c.slice_known-1.given c.requires.1 c.requires.2 in
    let own = c.precharge.ensures in
    at_number ready c.args.x (op_is c.in_ok-try_from.ensures c.in-Precharge.is) refl (row_precharge _) refl (own.0, own.1 _)

pub returns-in-DuplicatePage : goal.returns-in-DuplicatePage
returns-in-DuplicatePage c =
    let ready = ready_from c.args.s.now c.args.memory.now c.slice_known-1.given c.requires.1 c.requires.2 in
    let op = op_is c.in_ok-try_from.ensures c.in-DuplicatePage.is in
    by_its_line ready c.args.x (omega (arith, op)) (omega (arith, op)) c.duplicate.ensures.0 c.duplicate.ensures.1 c.duplicate.ensures.2

pub returns-in-ReadBlock : goal.returns-in-ReadBlock
unfolding effect memory_after is_operation
returns-in-ReadBlock c =
    let ready = ready_from c.args.s.now c.args.memory.now c.slice_known-1.given c.requires.1 c.requires.2 in
    let own = c.read_block.ensures in
    at_number ready c.args.x (op_is c.in_ok-try_from.ensures c.in-ReadBlock.is) refl (row_read_block _) refl (own.0, own.1)

pub returns-in-MaskedWriteBlock : goal.returns-in-MaskedWriteBlock
returns-in-MaskedWriteBlock c =
    let ready = ready_from c.args.s.now c.args.memory.now c.slice_known-1.given c.requires.1 c.requires.2 in
    let op = op_among c.in_ok-try_from.ensures c.in-MaskedWriteBlock.is refl in
    by_its_line ready c.args.x (omega (arith, op.0)) (omega (arith, op.1)) c.write_block.ensures.0 c.write_block.ensures.1 c.write_block.ensures.2

pub returns-in-DataRead : goal.returns-in-DataRead
unfolding effect memory_after is_operation
returns-in-DataRead c =
    let ready = ready_from c.args.s.now c.args.memory.now c.slice_known-1.given c.requires.1 c.requires.2 in
    let own = c.data_read.ensures in
    at_number ready c.args.x (op_is c.in_ok-try_from.ensures c.in-DataRead.is) refl (row_data_read _) refl (own.0, own.1 _)

pub returns-in-StatelessInitialWrite : goal.returns-in-StatelessInitialWrite
unfolding effect memory_after
returns-in-StatelessInitialWrite c =
    let ready = ready_from c.args.s.now c.args.memory.now c.slice_known-1.given c.requires.1 c.requires.2 in
    let op = op_among c.in_ok-try_from.ensures c.in-StatelessInitialWrite.is refl in
    beside_memory ready c.args.x (row_stateless _ op.0 op.1) refl (omega (arith, op.0)) (omega (arith, op.1)) c.stateless_write.ensures.0 (c.stateless_write.ensures.1 _)

pub returns-in-ReplaceTag : goal.returns-in-ReplaceTag
unfolding effect memory_after
returns-in-ReplaceTag c =
    let ready = ready_from c.args.s.now c.args.memory.now c.slice_known-1.given c.requires.1 c.requires.2 in
    let op = op_among c.in_ok-try_from.ensures c.in-ReplaceTag.is refl in
    beside_memory ready c.args.x (row_write_tag _ op.0 op.1) refl (omega (arith, op.0)) (omega (arith, op.1)) c.write_tag.ensures.0 (c.write_tag.ensures.1 _)

pub returns-in-WriteRegister : goal.returns-in-WriteRegister
unfolding effect memory_after is_operation
returns-in-WriteRegister c =
    let ready = ready_from c.args.s.now c.args.memory.now c.slice_known-1.given c.requires.1 c.requires.2 in
    let own = c.write_register.ensures in
    at_number ready c.args.x (op_is c.in_ok-try_from.ensures c.in-WriteRegister.is) refl (row_write_register _) refl (own.0, own.1 _)

pub returns-in-ReadRegister : goal.returns-in-ReadRegister
unfolding effect memory_after is_operation
returns-in-ReadRegister c =
    let ready = ready_from c.args.s.now c.args.memory.now c.slice_known-1.given c.requires.1 c.requires.2 in
    let own = c.read_register.ensures in
    at_number ready c.args.x (op_is c.in_ok-try_from.ensures c.in-ReadRegister.is) refl (row_read_register _) refl (own.0, own.1 _)

pub returns-in-VideoTransfer : goal.returns-in-VideoTransfer
unfolding effect memory_after is_operation
returns-in-VideoTransfer c =
    let ready = ready_from c.args.s.now c.args.memory.now c.slice_known-1.given c.requires.1 c.requires.2 in
    let own = c.video_transfer.ensures in
    at_number ready c.args.x (op_is c.in_ok-try_from.ensures c.in-VideoTransfer.is) refl (row_video_transfer _) refl (own.0, own.1)

pub returns-in-VideoClock : goal.returns-in-VideoClock
unfolding effect memory_after is_operation
returns-in-VideoClock c =
    let ready = ready_from c.args.s.now c.args.memory.now c.slice_known-1.given c.requires.1 c.requires.2 in
    let own = c.video_clock.ensures in
    at_number ready c.args.x (op_is c.in_ok-try_from.ensures c.in-VideoClock.is) refl (row_video_clock _) refl (own.0, own.1 _)
