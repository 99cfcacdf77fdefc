-- `stored::put_control`: its parts, one behind the other. Assumes nothing.
use mathlib.Core.List.{List}
use mathlib.Core.Path.{◌≡◌, ap, ◌∙◌}
use lib.ListN.{length}
use lib.Seq.{sets}
use Prim.Native.Nat.{ℕ}
use borrow.Author.Rules.{rules}
use Rattle.lists.specs.Words.{halves}
use Rattle.block.specs.Block.{flags}
use Rattle.stored.proofs.PartStores.{control_stored}
use Rattle.stored.proofs.put_control.Goals as goal

pub returns : goal.returns
unfolding flags
returns c =
    let banks-long : length c.args.control.banks ≡ 4 = search rules in
    let registers-long : length c.args.control.registers ≡ 7 = search rules in
    control_stored c.args.control c.flags.result c.args.s.now (banks-long) (registers-long) c.flags.ensures
    (c.put_numbers.ensures ∙ ap (λ (l : List ℕ). sets c.args.s.now 0 (halves l)) c.header.ensures) c.put_numbers-2.ensures c.put_numbers-3.ensures
    c.put_numbers-4.ensures c.put_numbers-5.ensures
