-- `panel::panel_column`: an entry or a refusal, packed, is what the definition gives. Assumes nothing.
use Rattle.panel.proofs.Packings.{column_told}
use mathlib.Core.Path.{◌∙◌}
use Rattle.panel.proofs.panel_column.Goals as goal

pub returns-in-Ok : goal.returns-in-Ok
returns-in-Ok c = c.pack.ensures ∙ column_told _ _ _ c.column.ensures c.in-Ok.is

pub returns-in-Err : goal.returns-in-Err
returns-in-Err c = c.refused.ensures ∙ column_told _ _ _ c.column.ensures c.in-Err.is
