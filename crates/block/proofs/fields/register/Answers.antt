-- `block::fields::register`: one of the seven words. Assumes nothing.
use Rattle.std.proofs.Common.{◌≡◌, ◌+◌, ◌-◌, ◌*◌, sym, ap, ◌∙◌, arith}
use Rattle.pixel.specs.Registers.{register}
use Rattle.lists.specs.Words.{word_at}
use Rattle.block.specs.Block.{decode_control}
use Rattle.lists.proofs.Rows.{row_at}
use Rattle.block.proofs.fields.register.Goals as goal

pub returns : goal.returns
unfolding register decode_control
returns c =
    let a = c.args in
    let place : 20 + 4 * a.number ≡ 24 + 4 * (a.number - 1) = omega arith in
    c.get.ensures ∙ ap (word_at a.s.now) place ∙ sym (row_at 4 word_at 7 24 (a.number - 1) a.s.now (omega arith))
