-- `panel::panel_call`: the call on the block, and its answer packed. Assumes nothing.
use Rattle.block.specs.OnBlock.{call_number}
use Rattle.chip.specs.Answers.{numbered, given_back, packed}
use Rattle.std.specs.Prelude.{Result}
use Rattle.numbers.specs.declared.Refusal.{Refusal}
use Rattle.chip.specs.declared.Done.{Done}
use Rattle.panel.proofs.Packings.{number_lt, refused_packed}
use Prim.Native.Nat.{ℕ}
use mathlib.Core.Path.{sym, ap, ◌∙◌}
use Rattle.panel.proofs.panel_call.Goals as goal

pub pack-requires : goal.pack-requires
pack-requires c =
    rw (c.number.ensures, c.act-answer.ensures.0) (number_lt _ _ _)

pub returns-in_default : goal.returns-in_default
unfolding call_number
returns-in_default c =
    let own = c.act-answer.ensures in
    (c.pack.ensures ∙ ap (λ (n : ℕ). packed (numbered n)) c.number.ensures ∙ refused_packed c.act-answer.result _ c.in_default.is ∙ ap packed own.0, own.1, own.2)

pub returns : goal.returns
unfolding call_number
returns c =
    let own = c.act-answer.ensures in
    (c.pack_done.ensures ∙ sym (ap (λ (a : Result Done Refusal). packed (given_back a)) c.in-Ok.is) ∙ ap packed own.0, own.1, own.2)
