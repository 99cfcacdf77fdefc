-- `chip::form::page_fits`: the sum wraps to 0 at 65535 alone. Assumes nothing.
use Rattle.std.proofs.Common.{rules}
use Rattle.chip.proofs.StateForms.{page_test}
use Rattle.chip.proofs.form.page_fits.Goals as goal

pub returns : goal.returns
returns c = page_test c.args.pages c.args.page (search rules)
