-- `video::transfers::load_line`: the transfer into the video buffers, which are lent from the block, is one into the block. Assumes nothing.
use mathlib.Core.Path.{◌≡◌, ap, ap₂, ◌∙◌}
use Prim.Native.Nat.{ℕ, ◌+◌}
use native.Mathlib.Omega.{arith}
use lib.ListN.{get_or, length-take, length-drop}
use Rattle.layout.specs.Memory.{size, place, in_bank, on_line, line_start}
use Rattle.lists.specs.Update.{update}
use Rattle.lists.proofs.Seams.{update_mid}
use Rattle.bank.specs.Work.{in_buffer, transferred}
use Rattle.chip.specs.Video.{buffer_of}
use Rattle.chip.specs.State.{open_page}
use Rattle.block.specs.Block.{decode_control}
use Rattle.video.proofs.transfers.load_line.Goals as goal

-- byte j of a scan line
along : (P bank page line j : ℕ) → line_start P bank page line + j ≡ place P bank page (on_line line j)
unfolding line_start place in_bank on_line
along P bank page line j = omega arith

pub transfer-requires : goal.transfer-requires
transfer-requires c =
    let pre = c.requires in
    (omega (arith, c.line_start-start.ensures.1, ap size c.pages-pages.ensures, pre.1), simp (length-take, length-drop) (omega (arith, pre.0)))

pub returns : goal.returns
unfolding transferred buffer_of
returns c =
    let a = c.args in
    let s = a.s.now in
    let buffer = buffer_of a.x.a in
    let from : (j : ℕ) → c.line_start-start.result + j ≡ place (decode_control s).pages a.x.a (open_page (decode_control s).banks a.x.a) (on_line a.x.b j) =
    λ j. ap (λ (k : ℕ). k + j) (c.line_start-start.ensures.0 ∙ ap₂ (λ (P page : ℕ). line_start P a.x.a page a.x.b) c.pages-pages.ensures c.open_page-page.ensures)
    ∙ along (decode_control s).pages a.x.a (open_page (decode_control s).banks a.x.a) a.x.b j in
    rw c.transfer.ensures
    (update_mid 80 348 160 (in_buffer buffer) (λ j was. get_or a.memory.now (c.line_start-start.result + j) 0) s (omega (arith, c.requires.0))
    (λ j hj. simp (length-take, length-drop) (unfold in_buffer in omega (arith, c.requires.0)))
    ∙ λ i. update 80 (λ j. 348 + in_buffer buffer j) (λ j was. get_or a.memory.now (from j i) 0) s)
