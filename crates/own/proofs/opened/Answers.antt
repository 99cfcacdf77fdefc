-- `own::opened`: the page is 65535 or not. Assumes nothing.
use Rattle.numbers.proofs.Tests.{equal, unequal}
use Rattle.chip.specs.State.{closed, is_closed}
use Rattle.own.specs.Own.{opened_in}
use Rattle.own.proofs.opened.Goals as goal

pub returns-then-page : goal.returns-then-page
unfolding opened_in is_closed closed
returns-then-page c = rw (equal c.open_page-page.ensures c.if-page.true)

pub returns : goal.returns
unfolding opened_in is_closed closed
returns c = rw (unequal c.open_page-page.ensures c.if-page.false, c.open_page-page.ensures)
