-- `block::fields::tag`: one of the eight words. Assumes nothing.
use Rattle.std.proofs.Common.{sym, ◌∙◌, rules}
use Rattle.chip.specs.Changes.{tag_of}
use Rattle.block.specs.Block.{decode_control}
use Rattle.lists.specs.Words.{word_at}
use Rattle.lists.proofs.Rows.{row_at}
use Rattle.block.proofs.fields.tag.Goals as goal

pub returns : goal.returns
unfolding tag_of decode_control
returns c =
    let a = c.args in
    c.get.ensures ∙ sym (row_at 4 word_at 8 60 a.slot a.s.now (search rules))
