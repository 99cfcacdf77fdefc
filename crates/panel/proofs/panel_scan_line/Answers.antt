-- `panel::panel_scan_line`: number 1 for a block that is not well formed; else a line that is found, or a refusal, packed. Assumes nothing.
use mathlib.Core.Path.{◌≡◌, ◌∙◌}
use mathlib.Core.Bool.{true}
use Prim.Native.Nat.{◌≤◌}
use native.Mathlib.Omega.{arith}
use Rattle.layout.specs.Memory.{size}
use Rattle.numbers.proofs.Tests.{test_holds, test_fails}
use Rattle.layout.proofs.ScanLines as lines
use Rattle.block.specs.Block.{well_formed_block}
use Rattle.block.specs.OnBlock.{block_line_number}
use Rattle.own.proofs.WellFormed.{well_long, pages_in}
use Rattle.panel.specs.Packs.{line_offset}
use Rattle.panel.proofs.Packings.{line_packed}
use Rattle.panel.proofs.panel_scan_line.Goals as goal

pub returns-then-not-well_formed : goal.returns-then-not-well_formed
unfolding line_offset block_line_number
returns-then-not-well_formed c = c.refused.ensures ∙ rw (test_fails c.well_formed-2.ensures c.if-not-well_formed.true)

pub pages-pages-requires : goal.pages-pages-requires
pages-pages-requires c =
    let well : well_formed_block c.args.state.now ≡ true = test_holds c.well_formed-2.ensures c.if-not-well_formed.false in
    well_long c.args.state.now well

pub find_line-requires : goal.find_line-requires
find_line-requires c =
    let well : well_formed_block c.args.state.now ≡ true = test_holds c.well_formed-2.ensures c.if-not-well_formed.false in
    let fits : (1 ≤ c.pages-pages.result) × (c.pages-pages.result ≤ 257) = rw c.pages-pages.ensures (pages_in _ well) in
    fits

pub overflow_cast-start : goal.overflow_cast-start
unfolding size
overflow_cast-start c =
    let well : well_formed_block c.args.state.now ≡ true = test_holds c.well_formed-2.ensures c.if-not-well_formed.false in
    let fits : (1 ≤ c.pages-pages.result) × (c.pages-pages.result ≤ 257) = rw c.pages-pages.ensures (pages_in _ well) in
    omega (arith, lines.found_inside _ _ _ _ _ c.find_line.ensures c.in-Ok.is, fits.1)

pub returns-in-Ok : goal.returns-in-Ok
returns-in-Ok c =
    let well : well_formed_block c.args.state.now ≡ true = test_holds c.well_formed-2.ensures c.if-not-well_formed.false in
    c.pack.ensures ∙ line_packed c.args.state.now c.args.memory.now _ _ _ well c.pages-pages.ensures c.find_line.ensures c.in-Ok.is

pub returns-in-Err : goal.returns-in-Err
returns-in-Err c =
    let well : well_formed_block c.args.state.now ≡ true = test_holds c.well_formed-2.ensures c.if-not-well_formed.false in
    c.refused-in-Err.ensures ∙ line_packed c.args.state.now c.args.memory.now _ _ _ well c.pages-pages.ensures c.find_line.ensures c.in-Err.is
