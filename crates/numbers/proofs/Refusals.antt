-- A refusal's number is 1 to 10, and the refusal is got back from it. Assumes nothing.
use Rattle.std.proofs.Common.{arith, ◌≡◌, ℕ, ◌-◌, ◌≤◌, cond, eqb, [], ◌∷◌, get_or, Result, Ok, Err, refl}
use Rattle.numbers.specs.declared.Refusal.{Refusal}
use Rattle.numbers.specs.declared.Refusal.TheVariants.{IllFormed, MemoryLength, UnknownOperation, OperandOutside, BitNotAllowed, BankOpen, BankClosed, OffScreen, NotALine, BufferInUse}
use Rattle.numbers.specs.Refusals.{refusal_number}
use Rattle.numbers.proofs.Tests.{determined}

pub refusal_between : (r : Refusal) → (1 ≤ refusal_number r) × (refusal_number r ≤ 10)
refusal_between IllFormed = (omega arith, omega arith)
refusal_between MemoryLength = (omega arith, omega arith)
refusal_between UnknownOperation = (omega arith, omega arith)
refusal_between OperandOutside = (omega arith, omega arith)
refusal_between BitNotAllowed = (omega arith, omega arith)
refusal_between BankOpen = (omega arith, omega arith)
refusal_between BankClosed = (omega arith, omega arith)
refusal_between OffScreen = (omega arith, omega arith)
refusal_between NotALine = (omega arith, omega arith)
refusal_between BufferInUse = (omega arith, omega arith)

-- the refusal that has this number
abbrev pub refusal_of : ℕ → Refusal
refusal_of number = get_or
    (IllFormed
    ∷ MemoryLength
    ∷ UnknownOperation
    ∷ OperandOutside
    ∷ BitNotAllowed
    ∷ BankOpen
    ∷ BankClosed
    ∷ OffScreen
    ∷ NotALine
    ∷ BufferInUse
    ∷ [])
    (number - 1) IllFormed

-- what is told by a number, done or refused, gives back a refusal
pub refused_back : {A : Type 0} (done : Result A Refusal) (r : Refusal) → cond (eqb (refusal_number r) 0) done (Err (refusal_of (refusal_number r))) ≡ Err r
refused_back done IllFormed = refl
refused_back done MemoryLength = refl
refused_back done UnknownOperation = refl
refused_back done OperandOutside = refl
refused_back done BitNotAllowed = refl
refused_back done BankOpen = refl
refused_back done BankClosed = refl
refused_back done OffScreen = refl
refused_back done NotALine = refl
refused_back done BufferInUse = refl

-- the result that has this number and this value
abbrev result_of : {A : Type 0} → ℕ → A → Result A Refusal
result_of number value = cond (eqb number 0) (Ok value) (Err (refusal_of number))

-- a result is determined by what is given of it: number 0 and its value, or its refusal's number
pub result_determined : {A G : Type 0} (given : Result A Refusal → G) (number : G → ℕ) (value : G → A)
    → ((x : A) → (number (given (Ok x)) ≡ 0) × (value (given (Ok x)) ≡ x)) → ((r : Refusal) → number (given (Err r)) ≡ refusal_number r)
    → (a b : Result A Refusal) → given a ≡ given b → a ≡ b
result_determined {A} {G} given number value done refused = determined given (λ (g : G). result_of (number g) (value g)) back
  where
    back : (a : Result A Refusal) → result_of (number (given a)) (value (given a)) ≡ a
    back (Ok x) = rw ((done x).0, (done x).1)
    back (Err r) = rw (refused r) (refused_back _ r)
