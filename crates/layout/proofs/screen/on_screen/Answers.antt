-- `screen::on_screen`: its tests are the definition's, on the page that `page_of` ensures. Assumes nothing.
use Rattle.layout.proofs.screen.on_screen.Goals as goal

pub returns : goal.returns
returns c = cc
