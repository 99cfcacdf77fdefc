-- What the tests of a well formed state come to, as code makes them: an open page by cases at 65535, registers by leaving out the four that hold any
-- bits. Assumes nothing.
use Rattle.std.proofs.Common.{◌≡◌, ℕ, ◌+◌, ◌%◌, ◌^◌, ◌<◌, true, ◌&&◌, ◌||◌, eqb, ltb, leb, List, get_or, sym, refl, ap, ◌∙◌, mod-eq_of_lt, arith, eq-eqb, ne_eqb, le-leb}
use mathlib.Core.Bool.{or-true, or-false}
use native.Mathlib.Decide.{ℕ_discrete}
use lib.Bits.{and_mask}
use Rattle.bits.specs.Bits.{every, within}
use Rattle.numbers.specs.Numbers.{first}
use Rattle.layout.specs.Memory.{line_number}
use Rattle.chip.specs.declared.Control.{Control}
use Rattle.chip.specs.State.{closed, page_fits, storable, well_formed}
use Rattle.chip.specs.Refusals.{scan_line_number}

-- ---- an open page

pub page_test : (P page : ℕ) → page < 2 ^ 16 → leb ((page + 1) % 2 ^ 16) P ≡ page_fits P page
unfolding page_fits closed
page_test P page h = go (ℕ_discrete page 65535) (decided P page)
  where
    decided : (P page : ℕ) → leb (page + 1) P ≡ ltb page P
    decided P page = ap (λ (n : ℕ). leb n P) (omega arith)

    go : Dec (page ≡ 65535) → leb (page + 1) P ≡ ltb page P → leb ((page + 1) % 2 ^ 16) P ≡ (ltb page P || eqb page 65535)
    go (yes e) q = rw (e, eq-eqb 65535 65535 refl) (le-leb 0 P (omega arith) ∙ sym (or-true (ltb 65535 P)))
    go (no f) q =
        let small : (page + 1) % 2 ^ 16 ≡ page + 1 = mod-eq_of_lt (omega arith) in
        rw (small, q, ne_eqb page 65535 f) (sym (or-false (ltb page P)))

-- ---- registers 5 to 7 alone can hold a bit that is not allowed

any_bits : (x : ℕ) → x < 2 ^ 32 → within x 0xffff_ffff ≡ true
unfolding within
any_bits x h = eq-eqb _ _ (and_mask x 32 ∙ mod-eq_of_lt h)

pub register_test : (l : List ℕ) → ((n : ℕ) → get_or l n 0 < 2 ^ 32) → every 7 (λ n. within (get_or l n 0) (get_or storable n 0))
    ≡ (within (get_or l 4 0) 0x2f2f_2f2f && within (get_or l 5 0) 0x0003_0707 && within (get_or l 6 0) 1)
unfolding every storable
register_test l fit = rw (any_bits (get_or l 0 0) (fit 0), any_bits (get_or l 1 0) (fit 1), any_bits (get_or l 2 0) (fit 2), any_bits (get_or l 3 0) (fit 3))

-- ---- a scan line of a well formed state is refused by layout's numbers

pub line_told : (c : Control) (len bank page line : ℕ) → well_formed c ≡ true → line_number c.pages len bank page line ≡ scan_line_number c len bank page line
unfolding scan_line_number line_number first
line_told c len bank page line well = rw well
