-- `calls::acts::act`: an ill-formed block and a memory of another length are refused by their tests; past both the call is its operation. Assumes nothing.
use mathlib.Core.Bool.{true}
use mathlib.Core.Path.{◌≡◌}
use Prim.Native.Nat.{◌*◌}
use native.Mathlib.Omega.{arith}
use lib.ListN.{length}
use borrow.Author.Tests.{ne_eqb}
use Rattle.layout.specs.Memory.{size}
use Rattle.numbers.proofs.Tests.{test_holds, test_fails}
use Rattle.block.specs.Block.{well_formed_block, decode_control}
use Rattle.own.proofs.WellFormed.{well_long}
use Rattle.calls.proofs.ByLine.{ill_formed, wrong_length}
use Rattle.calls.proofs.acts.act.Goals as goal

pub returns-then-not-well_formed : goal.returns-then-not-well_formed
returns-then-not-well_formed c =
    ill_formed c.args.s.now c.args.memory.now c.args.x (test_fails c.well_formed-2.ensures c.if-not-well_formed.true)

pub pages-requires : goal.pages-requires
pages-requires c =
    let well : well_formed_block c.args.s.now ≡ true = test_holds c.well_formed-2.ensures c.if-not-well_formed.false in
    well_long c.args.s.now well

pub returns-then-memory-pages : goal.returns-then-memory-pages
unfolding size
returns-then-memory-pages c =
    let well : well_formed_block c.args.s.now ≡ true = test_holds c.well_formed-2.ensures c.if-not-well_formed.false in
    let s = c.args.s.now in
    let m = c.args.memory.now in
    let e = c.pages.ensures in
    wrong_length s m c.args.x (λ a. omega (arith, c.slice_known-1.given a)) well
    (ne_eqb (length m) (4 * ((decode_control s).pages * 1280)) (λ q. c.if-memory-pages.true (omega (arith, q, e))))

pub operate-requires : goal.operate-requires
unfolding size
operate-requires c =
    let well : well_formed_block c.args.s.now ≡ true = test_holds c.well_formed-2.ensures c.if-not-well_formed.false in
    (well_long c.args.s.now well, well, omega (arith, c.if-memory-pages.false, c.pages.ensures))
