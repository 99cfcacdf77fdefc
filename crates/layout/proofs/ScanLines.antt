-- A scan line that is given lies in memory, and one that is refused is empty. Assumes nothing.
use mathlib.Core.Path.{◌≡◌, refl, sym, ap, ◌∙◌}
use mathlib.Core.Logic.{◌≢◌}
use mathlib.Core.Bool.{true, ◌&&◌}
use mathlib.Core.List.{List, []}
use Rattle.std.specs.Prelude.{Result, Ok, Err}
use Prim.Native.Nat.{ℕ, ◌+◌, ◌*◌, ◌<◌, ◌≤◌}
use native.Mathlib.Omega.{arith}
use lib.Dec.{leb, ltb}
use lib.ListN.{length, length-take, length-drop}
use borrow.Author.Tests.{ltb-true, leb-true, eqb-true, not-false}
use Rattle.layout.specs.Memory.{pages_fit, size, in_bank, place, on_line, line_start, scan_line, line_tests, line_number, LinePlaced, line_placed, placed_given, line_given}
use Rattle.numbers.specs.declared.Refusal.{Refusal}
use Rattle.numbers.specs.Refusals.{refusal_number}
use Rattle.numbers.proofs.Refusals.{refusal_between, result_determined}
use Rattle.numbers.proofs.Tests.{none_applies, and_left, and_right, given_done, given_refused}
use Rattle.layout.proofs.Places.{place_lt}

-- the test of P, as numbers
pub pages_between : (P : ℕ) → pages_fit P ≡ true → (1 ≤ P) × (P ≤ 257)
unfolding pages_fit
pages_between P e = (leb-true 1 P (and_left (leb 1 P) (leb P 257) e), leb-true P 257 (and_right (leb 1 P) (leb P 257) e))

pub on_line_lt : (line column : ℕ) → line < 16 → column < 80 → on_line line column < 1280
unfolding on_line
on_line_lt line column hl hc = omega arith

-- a scan line lies in memory
pub line_fits : (P bank page line : ℕ) → bank < 4 → page < P → line < 16 → line_start P bank page line + 80 ≤ size P
unfolding line_start on_line place in_bank
line_fits P bank page line hb hp hl = omega (arith, place_lt P bank page (line * 80 + 79) hb hp (omega arith))

module _ (P len bank page line : ℕ) where
  -- what a scan line that is given has passed
  pub record Passed : Type 0 where
    pub long : len ≡ size P
    pub bank_lt : bank < 4
    pub page_lt : page < P
    pub line_lt : line < 16

  pub passed : line_number P len bank page line ≡ 0 → Passed
  unfolding line_number line_tests
  passed e =
      let two = none_applies 1 _ _ e in
      let four = none_applies 3 _ _ two.1 in
      let inside = not-false _ four.0 in
      let first_two = and_left (ltb bank 4 && ltb page P) (ltb line 16) inside in
      record {
        long = eqb-true len (size P) (not-false _ two.0);
        bank_lt = ltb-true bank 4 (and_left (ltb bank 4) (ltb page P) first_two);
        page_lt = ltb-true page P (and_right (ltb bank 4) (ltb page P) first_two);
        line_lt = ltb-true line 16 (and_right (ltb bank 4 && ltb page P) (ltb line 16) inside);
      }

  -- where code has found a line, it has passed and starts there
  pub found : {r : Result ℕ Refusal} {start : ℕ} → placed_given r ≡ line_placed P len bank page line → r ≡ Ok start
      → (line_number P len bank page line ≡ 0) × (start ≡ line_start P bank page line)
  unfolding line_placed
  found e is =
      let told : record { number = 0; start = _ } ≡ line_placed P len bank page line = sym (ap placed_given is) ∙ e in
      let number : line_number P len bank page line ≡ 0 = sym (ap (λ (g : LinePlaced). g.number) told) in
      (number, ap (λ (g : LinePlaced). g.start) told ∙ given_done _ _ _ number)

  pub found_inside : {r : Result ℕ Refusal} {start : ℕ} → placed_given r ≡ line_placed P len bank page line → r ≡ Ok start → start + 80 ≤ size P
  found_inside e is =
      let f = found e is in
      let p = passed f.0 in
      rw f.1 (line_fits P bank page line p.bank_lt p.page_lt p.line_lt)

  -- and where it is refused one, none is given
  pub not_found : {r : Result ℕ Refusal} {refusal : Refusal} → placed_given r ≡ line_placed P len bank page line → r ≡ Err refusal
      → line_number P len bank page line ≢ 0
  unfolding line_placed
  not_found {refusal = refusal} e is none =
      let told : refusal_number refusal ≡ line_number P len bank page line = ap (λ (g : LinePlaced). g.number) (sym (ap placed_given is) ∙ e) in
      omega (arith, told, none, (refusal_between refusal).0)

module _ (P bank page line : ℕ) (memory : List ℕ) where
  -- its 80 bytes are in the lent memory
  pub line_inside : line_number P (length memory) bank page line ≡ 0 → line_start P bank page line + 80 ≤ length memory
  line_inside e =
      let p = passed P (length memory) bank page line e in
      rw p.long (line_fits P bank page line p.bank_lt p.page_lt p.line_lt)

  pub line_given_lem : line_number P (length memory) bank page line ≡ 0 → line_given P bank page line memory ≡ scan_line P bank page line memory
  unfolding line_given
  line_given_lem e = given_done (line_number P (length memory) bank page line) _ _ e

  pub line_refused : line_number P (length memory) bank page line ≢ 0 → line_given P bank page line memory ≡ []
  unfolding line_given
  line_refused ne = given_refused (line_number P (length memory) bank page line) _ _ ne

  pub line_length : line_number P (length memory) bank page line ≡ 0 → length (line_given P bank page line memory) ≡ 80
  unfolding scan_line
  line_length e =
      let inside = line_inside e in
      rw (line_given_lem e) (simp (length-take, length-drop) (omega arith))

-- 01, Expected form: equal numbers and starts are equal answers
pub placed_determined : (a b : Result ℕ Refusal) → placed_given a ≡ placed_given b → a ≡ b
placed_determined = result_determined placed_given (λ g. g.number) (λ g. g.start) (λ start. (refl, refl)) (λ r. refl)
