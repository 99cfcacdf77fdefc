-- `bank::transfer`, by the loop's invariant: after w turns the buffer has the line's first w words. Assumes nothing.
use mathlib.Core.Path.{◌≡◌, refl, sym, ◌∙◌}
use Prim.Native.Nat.{ℕ, ◌+◌, ◌*◌}
use native.Mathlib.Nat.{add_assoc}
use native.Mathlib.Omega.{arith}
use lib.ListN.{get_or}
use Rattle.lists.specs.Update.{update}
use Rattle.bank.specs.Work.{in_buffer, transferred}
use Rattle.lists.proofs.Words.{byte_word_at, word_turn}
use Rattle.bank.proofs.transfer.Goals as goal

pub loop-w-init : goal.loop-w-init
unfolding update
loop-w-init c = refl

buffer_word : (buffer w n : ℕ) → in_buffer buffer (4 * w + n) ≡ buffer * 80 + 4 * w + n
unfolding in_buffer
buffer_word buffer w n = sym (add_assoc (buffer * 80) (4 * w) n)

pub loop-w-preserved : goal.loop-w-preserved
loop-w-preserved c =
    let turn = c.loop-w in
    let a = c.args in
    c.put.ensures
    ∙ word_turn turn.w (in_buffer a.buffer) (λ j was. get_or a.memory.now (a.start + j) 0) a.video.now turn.video
    turn.invariant (a.buffer * 80 + 4 * turn.w) _ (λ n h. buffer_word a.buffer turn.w n)
    (λ n h. rw (c.get.ensures, ← (add_assoc a.start (4 * turn.w) n)) (byte_word_at a.memory.now (a.start + 4 * turn.w) (λ i. omega (arith, c.type_inv.memory i)) n h))

pub returns : goal.returns
unfolding transferred
returns c =
    let last : c.loop-w.w ≡ 20 = omega arith in
    rw last at c.loop-w.invariant
