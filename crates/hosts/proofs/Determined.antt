-- What is read back, and the operation that a number names, are determined by what is promised of them. Assumes nothing.
use Rattle.std.proofs.Common.{arith, ◌≡◌, ℕ, ◌-◌, Bool, true, false, cond, eqb, List, [], ◌∷◌, get_or, Result, Ok, Err, refl, sym, ap, ◌∙◌}
use mathlib.Core.Bool.{false≢true}
use Rattle.std.specs.Result.{result_unwrap_or}
use Rattle.numbers.specs.declared.Refusal.{Refusal}
use Rattle.numbers.specs.declared.Refusal.TheVariants.{IllFormed}
use Rattle.numbers.specs.Refusals.{refusal_number}
use Rattle.numbers.proofs.Refusals.{refusal_of, refusal_between, refused_back}
use Rattle.chip.specs.declared.Chip.{Chip}
use Rattle.chip.specs.declared.operations.Operation.{Operation}
use Rattle.chip.specs.declared.operations.Operation.TheVariants.{AccessPage, Precharge, DuplicatePage, ReadBlock, MaskedWriteBlock, UnmaskedWriteBlock, DataRead, StatelessInitialWrite, StatelessNormalWrite, StatefulInitialWrite, StatefulNormalWrite, ReplaceTag, OrTag, WriteRegister, ReadRegister, VideoTransfer, VideoClock}
use Rattle.chip.specs.Operations.{is_operation}
use Rattle.chip.specs.Named.{number_of, IsNamed}
use Rattle.hosts.specs.Keeping.{number_read}

-- equal numbers, and equal chips whatever a host has: equal answers
pub read_determined : (a b : Result Chip Refusal) → number_read a ≡ number_read b → ((handed_in : Chip) → result_unwrap_or a handed_in ≡ result_unwrap_or b handed_in) → a ≡ b
read_determined (Ok x) (Ok y) e same = ap Ok (same x)
read_determined (Ok x) (Err r) e same = absurd (omega (arith, e, (refusal_between r).0))
read_determined (Err r) (Ok x) e same = absurd (omega (arith, e, (refusal_between r).0))
read_determined (Err r) (Err q) e same =
    sym (refused_back (Err IllFormed) r) ∙ ap (λ (n : ℕ). cond (eqb n 0) (Err IllFormed) (Err (refusal_of n))) e ∙ refused_back (Err IllFormed) q

-- ---- an operation

-- the operation that has this number
abbrev operation_of : ℕ → Operation
operation_of number = get_or
    (AccessPage
    ∷ Precharge
    ∷ DuplicatePage
    ∷ ReadBlock
    ∷ MaskedWriteBlock
    ∷ UnmaskedWriteBlock
    ∷ DataRead
    ∷ StatelessInitialWrite
    ∷ StatelessNormalWrite
    ∷ StatefulInitialWrite
    ∷ StatefulNormalWrite
    ∷ ReplaceTag
    ∷ OrTag
    ∷ WriteRegister
    ∷ ReadRegister
    ∷ VideoTransfer
    ∷ VideoClock
    ∷ [])
    (number - 1) AccessPage

-- it is got back from its number, which is an operation's
numbered : (o : Operation) → (operation_of (number_of o) ≡ o) × (is_operation (number_of o) ≡ true)
unfolding is_operation
numbered AccessPage = (refl, refl)
numbered Precharge = (refl, refl)
numbered DuplicatePage = (refl, refl)
numbered ReadBlock = (refl, refl)
numbered MaskedWriteBlock = (refl, refl)
numbered UnmaskedWriteBlock = (refl, refl)
numbered DataRead = (refl, refl)
numbered StatelessInitialWrite = (refl, refl)
numbered StatelessNormalWrite = (refl, refl)
numbered StatefulInitialWrite = (refl, refl)
numbered StatefulNormalWrite = (refl, refl)
numbered ReplaceTag = (refl, refl)
numbered OrTag = (refl, refl)
numbered WriteRegister = (refl, refl)
numbered ReadRegister = (refl, refl)
numbered VideoTransfer = (refl, refl)
numbered VideoClock = (refl, refl)

pub named_determined : (op : ℕ) (a b : Result Operation Refusal) → IsNamed op a → IsNamed op b → a ≡ b
named_determined op (Ok o) (Ok p) e f = ap Ok (sym (numbered o).0 ∙ ap operation_of (e ∙ sym f) ∙ (numbered p).0)
named_determined op (Ok o) (Err r) e f = absurd (false≢true (sym f.1 ∙ ap is_operation (sym e) ∙ (numbered o).1))
named_determined op (Err r) (Ok o) e f = absurd (false≢true (sym e.1 ∙ ap is_operation (sym f) ∙ (numbered o).1))
named_determined op (Err r) (Err q) e f = ap Err (e.0 ∙ sym f.0)
