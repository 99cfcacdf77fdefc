-- `block::fields::slot_word`: a word of the pixels, which start at 92. Assumes nothing.
use Rattle.std.proofs.Common.{◌≡◌, ◌+◌, ◌*◌, sym, ap, ◌∙◌, arith}
use Rattle.lists.specs.Words.{word_at}
use Rattle.bank.proofs.Slots.{word_in_slot}
use Rattle.lists.proofs.Words.{word_part}
use Rattle.chip.specs.Effects.{slot_byte}
use Rattle.block.specs.Block.{pixels_in}
use Rattle.block.proofs.fields.slot_word.Goals as goal

pub returns : goal.returns
unfolding slot_byte pixels_in
returns c =
    let a = c.args in
    let place : 92 + (32 * a.slot + 4 * a.word) ≡ 92 + (a.slot * 32 + 4 * a.word) = omega arith in
    c.get.ensures ∙ ap (word_at a.s.now) place ∙ sym (word_in_slot (pixels_in a.s.now) a.slot a.word ∙ word_part 92 256 (a.slot * 32 + 4 * a.word) a.s.now (omega arith))
