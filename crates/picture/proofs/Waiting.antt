-- While bytes wait, memory differs from the flat picture in them alone. Every byte of memory is a byte of some block (`address_onto`); a slot that
-- stands for the block and has the byte waiting is looked for, and where there is none, nothing waits for the byte. Assumes nothing.
use mathlib.Core.Path.{◌≡◌, refl, sym, ◌∙◌}
use mathlib.Core.Logic.{◌≢◌}
use mathlib.Core.Bool.{Bool, true, false, not, ◌&&◌}
use mathlib.Core.List.{List}
use Prim.Native.Nat.{ℕ, ◌<◌}
use native.Mathlib.Omega.{arith}
use lib.ListN.{get_or}
use borrow.Author.Tests.{eq-eqb}
use Rattle.bits.specs.Bits.{bit, digit}
use Rattle.layout.specs.Memory.{size, address}
use Rattle.numbers.proofs.Tests.{and_left, and_right}
use Rattle.layout.proofs.Places.{address_inj, address_onto}
use Rattle.lists.proofs.Updates.{find}
use Rattle.picture.specs.Book.{at, Book, stands, waiting, Waits}
use Rattle.picture.specs.Drawing.{start, OnlyWaitingDiffer}
use Rattle.picture.proofs.Holds.{Free, Holds, stands_lt}
use Rattle.picture.proofs.Agree.{start_holds, run_holds}
use Rattle.picture.proofs.PremiseTest.{off_block, on_block}

-- whether a slot stands for the block and has its byte i waiting
holds_back : Book → ℕ → ℕ → ℕ → ℕ → ℕ → Bool
holds_back g bank page block i slot = not (off_block bank page block (stands g slot)) && bit (waiting g slot) i

holds_back_lem : (g : Book) (bank page block i slot : ℕ) → stands g slot ≡ at bank page block → Waits g slot i → holds_back g bank page block i slot ≡ true
unfolding holds_back off_block
holds_back_lem g bank page block i slot e w = rw (e, w, eq-eqb bank bank refl, eq-eqb page page refl, eq-eqb block block refl)

digit_true : (x : Bool) → ◌≡◌ {A = ℕ} 1 (digit x) → x ≡ true
digit_true true e = refl
digit_true false e = absurd (omega (arith, e))

module _ {P n plane : ℕ} {tags pixels memory picture : List ℕ} {g : Book} (h : Holds P n plane tags pixels memory picture g) where
  -- a is the address of a byte that waits
  abbrev Waiting : ℕ → Type 0
  Waiting a = (slot bank page block i : ℕ) × (stands g slot ≡ at bank page block) × (i < 32) × Waits g slot i × (a ≡ address P bank page block i)

  waits_there : (a : ℕ) → a < size P → get_or memory a 0 ≢ get_or picture a 0 → Waiting a
  unfolding holds_back
  waits_there a ha differs = go (address_onto P a ha)
    where
      go : (b p k i : ℕ) × (b < 4) × (p < P) × (k < 40) × (i < 32) × (address P b p k i ≡ a) → Waiting a
      go (b, p, k, i, hb, hp, hk, hi, e) = look (find n (λ s. digit (holds_back g b p k i s)) 1)
        where
          look : Dec ((s : ℕ) × (s < n) × (◌≡◌ {A = ℕ} 1 (digit (holds_back g b p k i s)))) → Waiting a
          look (yes (s, hs, q)) =
              let t = digit_true (holds_back g b p k i s) q in
              let there = not (off_block b p k (stands g s)) in
              (s, b, p, k, i, on_block b p k (stands g s) (and_left there (bit (waiting g s) i) t), hi, and_right there (bit (waiting g s) i) t, sym e)
          look (no f) = absurd (differs (h.rest a free))
            where
              free : Free P g a
              free s b' p' k' i' e' hi' w q =
                  let u = h.inside s b' p' k' e' in
                  let r = address_inj P b p k i b' p' k' i' hp hk hi u.1 u.2 hi' (e ∙ q) in
                  let t = holds_back_lem g b p k i s (rw (r.0, r.1, r.2) e') (rw r.3 w) in
                  f (s, stands_lt h s b' p' k' e', rw t)

pub only_waiting_differ : OnlyWaitingDiffer
unfolding OnlyWaitingDiffer
only_waiting_differ n P memory calls fit q fair a ha differs =
    let b = run_holds n P calls (start n P memory) (start_holds n P memory fit q) fair in
    rw b.pages at (waits_there b.holds a (rw b.pages ha) differs)
