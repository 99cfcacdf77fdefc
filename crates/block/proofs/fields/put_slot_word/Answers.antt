-- `block::fields::put_slot_word`: a word of the pixels, which start at 92. Assumes nothing.
use Rattle.std.proofs.Common.{◌≡◌, ℕ, ◌+◌, ◌*◌, ap, ◌∙◌, arith}
use Rattle.lists.specs.Words.{put_word}
use Rattle.bank.specs.Work.{in_slot}
use Rattle.block.proofs.fields.put_slot_word.Goals as goal

pub returns : goal.returns
unfolding in_slot
returns c =
    let a = c.args in
    let place : 92 + (32 * a.slot + 4 * a.word) ≡ 92 + (a.slot * 32 + 4 * a.word) = omega arith in
    c.put.ensures ∙ ap (λ (p : ℕ). put_word p a.x a.s.now) place
