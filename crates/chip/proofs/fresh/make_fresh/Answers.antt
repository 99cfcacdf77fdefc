-- `chip::fresh::make_fresh`: done exactly where P fits. Assumes nothing.
use Rattle.std.proofs.Common.{◌≡◌, true, refl, arith}
use Rattle.numbers.specs.Numbers.{first}
use Rattle.layout.specs.Memory.{pages_fit}
use Rattle.layout.proofs.ScanLines.{pages_between}
use Rattle.numbers.proofs.Tests.{test_holds, test_fails}
use Rattle.chip.specs.State.{fresh_number}
use Rattle.chip.specs.Calls.{fresh_given, fresh_chip}
use Rattle.chip.proofs.fresh.make_fresh.Goals as goal

pub returns-then-not-pages_fit : goal.returns-then-not-pages_fit
unfolding fresh_given fresh_chip fresh_number first
returns-then-not-pages_fit c = rw (test_fails c.pages_fit.ensures c.if-not-pages_fit.true) (refl, refl)

pub overflow_cast-pages : goal.overflow_cast-pages
overflow_cast-pages c =
    let fits : pages_fit c.args.pages ≡ true = test_holds c.pages_fit.ensures c.if-not-pages_fit.false in
    omega (arith, (pages_between _ (fits)).1)

pub returns : goal.returns
unfolding fresh_given fresh_chip fresh_number first
returns c =
    let fits : pages_fit c.args.pages ≡ true = test_holds c.pages_fit.ensures c.if-not-pages_fit.false in
    rw (fits, c.fresh.ensures) (c.done.ensures, refl)

pub fresh-requires : goal.fresh-requires
fresh-requires c =
    let fits : pages_fit c.args.pages ≡ true = test_holds c.pages_fit.ensures c.if-not-pages_fit.false in
    pages_between _ (fits)
