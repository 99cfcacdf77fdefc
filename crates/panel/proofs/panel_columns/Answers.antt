-- `panel::panel_columns`: done or refused, packed; the buffer is what `fill` leaves. Assumes nothing.
use Rattle.panel.proofs.Packings.{table_told}
use mathlib.Core.Path.{◌∙◌}
use Rattle.panel.proofs.panel_columns.Goals as goal

pub returns-in-Ok : goal.returns-in-Ok
returns-in-Ok c = (c.pack.ensures ∙ table_told _ _ _ c.fill.ensures.0 c.in-Ok.is, c.fill.ensures.1)

pub returns-in-Err : goal.returns-in-Err
returns-in-Err c = (c.refused.ensures ∙ table_told _ _ _ c.fill.ensures.0 c.in-Err.is, c.fill.ensures.1)
