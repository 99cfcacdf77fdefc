-- `hosts::kept::read`: a block that does not say its length and one that, grown, is not well formed are refused, each by its test; past both the
-- chip is read. Assumes nothing.
use mathlib.Core.Path.{◌≡◌, refl, ap, ◌∙◌}
use mathlib.Core.Bool.{Bool, true, ◌&&◌}
use mathlib.Core.List.{List}
use Prim.Native.Nat.{ℕ}
use lib.Dec.{eqb}
use lib.ListN.{length}
use borrow.Author.Tests.{eqb-true}
use Rattle.numbers.specs.Numbers.{first}
use Rattle.numbers.proofs.Tests.{and_left, and_right, test_holds, test_fails}
use Rattle.block.specs.Block.{block_bytes, decode, well_formed_block}
use Rattle.hosts.specs.Grown.{grown, says_length}
use Rattle.hosts.specs.Keeping.{read_number, read_chip}
use Rattle.hosts.proofs.OlderRead.{readable_tested}
use Rattle.hosts.proofs.kept.read.Goals as goal

-- past the first test it says its length, one that is known
abbrev known : List ℕ → Bool
known s = eqb (length (grown s)) block_bytes

pub returns-then-not-says_its_length : goal.returns-then-not-says_its_length
unfolding read_chip read_number first
returns-then-not-says_its_length c =
    rw (readable_tested c.args.state.now, test_fails c.says_its_length.ensures c.if-not-says_its_length.true) (record { number = refl; chip = λ handed_in. refl })

pub grown-newest-requires : goal.grown-newest-requires
grown-newest-requires c =
    let said : (says_length c.args.state.now && known c.args.state.now) ≡ true = test_holds c.says_its_length.ensures c.if-not-says_its_length.false in
    let s = c.args.state.now in
    (eqb-true _ _ (and_left (says_length s) (known s) said), eqb-true _ _ (and_right (says_length s) (known s) said))

pub returns-then-not-well_formed : goal.returns-then-not-well_formed
unfolding read_chip read_number first
returns-then-not-well_formed c =
    let said : (says_length c.args.state.now && known c.args.state.now) ≡ true = test_holds c.says_its_length.ensures c.if-not-says_its_length.false in
    let formed : c.well_formed-2.result ≡ well_formed_block (grown c.args.state.now) = c.well_formed-2.ensures ∙ ap well_formed_block c.grown-newest.ensures in
    let s = c.args.state.now in
    rw (readable_tested s, said, test_fails formed c.if-not-well_formed.true) (record { number = refl; chip = λ handed_in. refl })

pub returns : goal.returns
unfolding read_chip read_number first
returns c =
    let said : (says_length c.args.state.now && known c.args.state.now) ≡ true = test_holds c.says_its_length.ensures c.if-not-says_its_length.false in
    let formed : c.well_formed-2.result ≡ well_formed_block (grown c.args.state.now) = c.well_formed-2.ensures ∙ ap well_formed_block c.grown-newest.ensures in
    let s = c.args.state.now in
    rw (readable_tested s, said, test_holds formed c.if-not-well_formed.false) (record { number = refl; chip = λ handed_in. c.read.ensures ∙ ap decode c.grown-newest.ensures })
