-- `own::operands::fits`: std's test of a range is the definition's. Assumes nothing.
use mathlib.Core.Path.{◌≡◌, refl, ◌∙◌}
use mathlib.Core.Bool.{◌&&◌}
use Prim.Native.Nat.{ℕ}
use native.Mathlib.Omega.{arith}
use lib.Dec.{leb, ltb}
use Rattle.std.specs.Ordering.{is_le, is_lt, nat_cmp}
use Rattle.std.proofs.lemmas.Bool.Decides.{nat_tests}
use Rattle.own.specs.Lines.{fits}
use Rattle.own.proofs.operands.fits.Goals as goal

contained : (start end x : ℕ) → (is_le (nat_cmp start x) && is_lt (nat_cmp x end)) ≡ (leb start x && ltb x end)
contained start end x = grind (arith, nat_tests)

pub returns : goal.returns
unfolding fits
returns c =
    let x = c.args.x in
    let line = c.args.line in
    let a = c.contains.ensures.value ∙ contained line.a.start line.a.end x.a in
    let b = c.contains-2.ensures.value ∙ contained line.b.start line.b.end x.b in
    let c' = c.contains-3.ensures.value ∙ contained line.c.start line.c.end x.c in
    let d = c.contains-4.ensures.value ∙ contained line.d.start line.d.end x.d in
    rw (a, b, c', d) refl
