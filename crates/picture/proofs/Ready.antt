-- A chip that is well formed, over a memory of its length: its calls are asked only what their own lines of the table ask, and it stays so.
-- Assumes nothing.
use mathlib.Core.Path.{◌≡◌, refl, sym, ap, ◌∙◌}
use mathlib.Core.Bool.{true, not}
use mathlib.Core.List.{List, ◌∷◌}
use Prim.Native.Nat.{ℕ}
use lib.ListN.{length}
use borrow.Author.Tests.{eq-eqb}
use Rattle.numbers.specs.Numbers.{first}
use Rattle.layout.specs.Memory.{size}
use Rattle.chip.specs.declared.Control.{Control}
use Rattle.chip.specs.declared.Call.{Call}
use Rattle.chip.specs.State.{well_formed}
use Rattle.chip.specs.Operations.{is_operation, operation}
use Rattle.chip.specs.Changes.{ticked}
use Rattle.chip.specs.Effects.{Reading, effect, memory_after}
use Rattle.chip.specs.Refusals.{number, call_tests}
use Rattle.chip.proofs.Accepted.{accepted}
use Rattle.chip.proofs.Stays.{stays_well_formed}
use Rattle.picture.proofs.Nexts.{length_after}
use Rattle.picture.proofs.Shared.{pages_after}

abbrev pub Ready : Control → List ℕ → Type 0
Ready c m = (well_formed c ≡ true) × (length m ≡ size c.pages)

module _ (n : ℕ) where
  -- what its own line of the table asks of a call: its number then
  unfoldable pub formed_number : Control → Call → ℕ
  formed_number c x = first ((3, not (is_operation x.op)) ∷ call_tests n c x)

  pub number_formed : (c : Control) (m : List ℕ) (x : Call) → Ready c m → number n c (length m) x ≡ formed_number c x
  unfolding number formed_number first
  number_formed c m x (formed, sized) = rw (formed, sized, eq-eqb (size c.pages) (size c.pages) refl)

  -- after a call that is done
  pub done_ready : (c : Control) (p m : List ℕ) (x : Call) (r : Reading) → number n c (length m) x ≡ 0
      → let e = effect n c (operation x) r in Ready (ticked e.control) (memory_after c p m e.move)
  done_ready c p m x r done =
      let a = accepted n c (length m) x done in (
        stays_well_formed n c (operation x) r a.well_formed_lem a.in_range_lem a.asks_met,
        length_after c p m (effect n c (operation x) r).move ∙ a.sized ∙ ap size (sym (pages_after n c (operation x) r)),
      )
