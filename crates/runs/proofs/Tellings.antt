-- Five numbers told of each call: of an answer taken apart, stored in a row, and how many of a run. Assumes nothing.
use mathlib.Core.Path.{◌≡◌, refl, sym, ◌∙◌}
use mathlib.Core.Bool.{Bool}
use mathlib.Core.List.{List, [], ◌∷◌, append-nil}
use Prim.Native.Nat.{ℕ, ◌+◌, ◌-◌, ◌*◌, ◌≤◌}
use native.Mathlib.Omega.{arith}
use lib.ListN.{length, drop_of_length-le}
use lib.Seq.{sets, sets-eq, take-length}
use borrow.Rule.Slice.PartMut.{put_mid}
use Rattle.std.proofs.lemmas.Slice.{put_mid-paste}
use Rattle.bits.specs.Bits.{digit}
use Rattle.std.specs.Prelude.{Result, Ok, Err}
use Rattle.numbers.specs.declared.Refusal.{Refusal}
use Rattle.chip.specs.declared.Done.{Done}
use Rattle.chip.specs.declared.Chip.{Chip}
use Rattle.chip.specs.declared.Call.{Call}
use Rattle.chip.specs.Answers.{given_back}
use Rattle.chip.specs.Calls.{chip_of, memory_of}
use Rattle.runs.specs.Runs.{five_numbers, told_by, ran_of}

-- ---- of an answer that is done or refused

pub done_five : (answer : Result Done Refusal) (done : Done) (hit : Bool) (p w h : ℕ) → answer ≡ Ok done
    → p ≡ digit done.pass → w ≡ digit done.written → h ≡ digit hit → 0 ∷ done.value ∷ p ∷ w ∷ h ∷ [] ≡ five_numbers (given_back answer) hit
done_five answer done hit p w h e at_pass at_written at_hit = rw (at_pass, at_written, at_hit, e)

pub refused_five : (answer : Result Done Refusal) (refusal : Refusal) (hit : Bool) (number h : ℕ) → answer ≡ Err refusal
    → number ≡ (given_back answer).number → h ≡ digit hit → number ∷ 0 ∷ 0 ∷ 0 ∷ h ∷ [] ≡ five_numbers (given_back answer) hit
refused_five answer refusal hit number h e at_number at_hit = rw (at_number, at_hit, e)

-- ---- stored

-- five numbers copied over five
pub five_put : (l new five : List ℕ) (at : ℕ) → at + 5 ≤ length l → 5 ≡ length five → new ≡ five
    → put_mid at (at + 5 - at) l new ≡ sets l at five
five_put l new five at h long copied =
    put_mid-paste at (at + 5 - at) l new five 5 copied (omega arith) long ∙ rw (long, take-length five) refl ∙ sym (sets-eq five l at (omega (arith, h, long)))

-- a list stored over one of its length
pub all_stored : (l xs : List ℕ) → length l ≡ length xs → sets l 0 xs ≡ xs
all_stored l xs e = sets-eq xs l 0 (omega arith) ∙ rw (drop_of_length-le l {i = 0 + length xs} (omega arith)) (append-nil xs)

-- ---- of a run

pub told_length : (chip : Chip) (memory : List ℕ) (calls : List Call) → length (ran_of chip memory calls).told ≡ 5 * length calls
unfolding ran_of told_by
told_length chip memory [] = refl
told_length chip memory (x ∷ xs) = omega (arith, told_length (chip_of chip memory x) (memory_of chip memory x) xs)
