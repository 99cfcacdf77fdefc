-- `panel::panel_point`: a point or a refusal, packed; a point that is given fits its places. Assumes nothing.
use Rattle.panel.proofs.Packings.{point_told}
use Rattle.panel.specs.Packs.{point_value}
use Rattle.chip.specs.Answers.{valued, packed}
use Rattle.layout.specs.Screen.{pointed_given}
use Rattle.layout.proofs.Points.{given_inside}
use Prim.Native.Nat.{ℕ}
use mathlib.Core.Path.{sym, ap, ◌∙◌}
use Rattle.panel.proofs.panel_point.Goals as goal

pub point_value-requires : goal.point_value-requires
point_value-requires c =
    let i = given_inside _ _ _ _ (sym (ap pointed_given c.in-Ok.is) ∙ c.point.ensures) in
    (i.bank_lt, i.page_lt, i.line_lt, i.column_lt)

pub returns-in-Ok : goal.returns-in-Ok
returns-in-Ok c = c.pack.ensures ∙ ap (λ (v : ℕ). packed (valued 0 v)) c.point_value.ensures ∙ point_told _ _ _ _ _ c.point.ensures c.in-Ok.is

pub returns-in-Err : goal.returns-in-Err
unfolding point_value
returns-in-Err c = c.refused.ensures ∙ point_told _ _ _ _ _ c.point.ensures c.in-Err.is
