-- `block::fields::open_page`: one of the four half words. Assumes nothing.
use Rattle.std.proofs.Common.{sym, ◌∙◌, rules}
use Rattle.chip.specs.State.{open_page}
use Rattle.block.specs.Block.{decode_control}
use Rattle.lists.specs.Words.{half_at}
use Rattle.lists.proofs.Rows.{row_at}
use Rattle.block.proofs.fields.open_page.Goals as goal

pub returns : goal.returns
unfolding open_page decode_control
returns c =
    let a = c.args in
    c.get.ensures ∙ sym (row_at 2 half_at 4 16 a.bank a.s.now (search rules))
