-- The number that a call gives back is the first that applies; a refusal changes nothing; and what is given back says which answer it is. Assumes nothing.
use Rattle.std.proofs.Common.{◌≡◌, ℕ, zero, suc, ◌<◌, Bool, true, false, cond, eqb, List, [], ◌∷◌, length, Result, Ok, Err, IsErrAnd, refl, lit<}
use Rattle.lists.proofs.Entries.{Each}
use Rattle.numbers.specs.Numbers.{first, when_done}
use Rattle.numbers.specs.declared.Refusal.{Refusal}
use Rattle.numbers.specs.Refusals.{refusal_number}
use Rattle.numbers.proofs.Refusals.{result_determined}
use Rattle.chip.specs.declared.Done.{Done}
use Rattle.chip.specs.declared.Call.{Call}
use Rattle.chip.specs.declared.Control.{Control}
use Rattle.chip.specs.Operations.{Operation, access, precharge, duplicate, read_block, write_block, data_read, data_write, write_tag, write_register, read_register, video_transfer, video_clock, unknown, operation}
use Rattle.bits.specs.Bits.{digit}
use Rattle.chip.specs.Answers.{GivenBack, done_with, numbered, effect_given, given_back}
use Rattle.chip.specs.Refusals.{asks, call_tests, number}
use Rattle.chip.specs.Calls.{effect_in, given_with, chip_with, memory_with}
use Rattle.chip.specs.Promises.{NumbersGiven, RefusalChangesNothing}

-- each number of a list of tests is below m
abbrev Below : ℕ → List (ℕ × Bool) → Type 0
Below m tests = Each (λ (t : ℕ × Bool). t.0 < m) tests

first_lt : (m : ℕ) (xs : List (ℕ × Bool)) → 0 < m → Below m xs → first xs < m
unfolding first
first_lt m [] h b = h
first_lt m (x ∷ xs) h b = go x.1 (first_lt m xs h b.1)
  where
    go : (t : Bool) → first xs < m → cond t x.0 (first xs) < m
    go true q = b.0
    go false q = q

-- a call's number is 0 to 10
asks_lt : (c : Control) (o : Operation) → Below 11 (asks c o)
unfolding asks
asks_lt c (access b p) = (lit< tt, tt)
asks_lt c (precharge b) = tt
asks_lt c (duplicate b p) = (lit< tt, tt)
asks_lt c (read_block b k s) = (lit< tt, tt)
asks_lt c (write_block m b k s) = (lit< tt, tt)
asks_lt c (data_read s w) = tt
asks_lt c (data_write w) = tt
asks_lt c (write_tag m s x) = tt
asks_lt c (write_register r v) = (lit< tt, tt)
asks_lt c (read_register r) = tt
asks_lt c (video_transfer b l) = (lit< tt, (lit< tt, tt))
asks_lt c video_clock = tt
asks_lt c unknown = tt

pub number_lt : (n : ℕ) (c : Control) (len : ℕ) (x : Call) → number n c len x < 11
unfolding number call_tests
number_lt n c len x = first_lt 11 _ (lit< tt) (lit< tt, (lit< tt, (lit< tt, (lit< tt, asks_lt c (operation x)))))

-- 01, Numbers: numbers are given exactly when stated
pub numbers_given : NumbersGiven
unfolding NumbersGiven given_with
numbers_given n chip memory x = go (number n chip.control (length memory) x)
  where
    go : (k : ℕ) → (when_done k (effect_given (effect_in n chip x)) (numbered k)).number ≡ k
    go zero = refl
    go (suc k) = refl

-- 01, Numbers: a refusal changes nothing, the counter included
pub refusal_changes_nothing : RefusalChangesNothing
unfolding RefusalChangesNothing given_with chip_with memory_with
refusal_changes_nothing n chip memory x f = go (number n chip.control (length memory) x) refl
  where
    go : (k : ℕ) → number n chip.control (length memory) x ≡ k
        → (given_with n chip memory x ≡ numbered (number n chip.control (length memory) x))
        × (chip_with n chip memory x ≡ chip) × (memory_with n chip memory x ≡ memory)
    go zero e = absurd (f e)
    go (suc k) e = (rw e, rw e, rw e)

-- a refusal passed on
pub passed_on : (r : Result Done Refusal) (refusal : Refusal) → IsErrAnd r (λ e. e ≡ refusal) → given_back r ≡ numbered (refusal_number refusal)
passed_on (Ok done) refusal is = absurd is
passed_on (Err other) refusal is = rw is

-- ---- equal numbers and values are equal answers

-- what a call that is done gives, from its values
abbrev done_of : GivenBack → Done
done_of g = record { value = g.value; pass = eqb g.pass 1; written = eqb g.written 1 }

done_back : (value : ℕ) (pass written : Bool) → done_of (done_with value (digit pass) (digit written)) ≡ record { value = value; pass = pass; written = written }
done_back value true true = refl
done_back value true false = refl
done_back value false true = refl
done_back value false false = refl

-- 01, Expected form: so the promise determines the answer
pub answer_determined : (a b : Result Done Refusal) → given_back a ≡ given_back b → a ≡ b
answer_determined = result_determined given_back (λ g. g.number) done_of (λ done. (refl, done_back done.value done.pass done.written)) (λ r. refl)
