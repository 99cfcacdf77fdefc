-- `memory::find_line`: each return has the number that the tests before it leave. Assumes nothing.
use mathlib.Core.Path.{◌≡◌}
use mathlib.Core.Bool.{true, false, ◌&&◌}
use lib.Dec.{eqb, ltb}
use borrow.Author.Tests.{eq-eqb, ne_eqb}
use Rattle.numbers.specs.Numbers.{first}
use Rattle.layout.specs.Memory.{size, line_tests, line_number, line_placed}
use Rattle.layout.proofs.memory.find_line.Goals as goal

pub returns-then-length-pages : goal.returns-then-length-pages
unfolding line_placed line_number line_tests first size
returns-then-length-pages c =
    let wrong : eqb c.args.length (size c.args.pages) ≡ false = ne_eqb _ _ c.if-length-pages.true in
    rw wrong

pub returns-then-not-named-pages : goal.returns-then-not-named-pages
unfolding line_placed line_number line_tests first size
returns-then-not-named-pages c =
    let right : eqb c.args.length (size c.args.pages) ≡ true = eq-eqb _ _ c.if-length-pages.false in
    let outside : (ltb c.args.named.bank 4 && ltb c.args.named.page c.args.pages && ltb c.args.named.line 16) ≡ false = c.if-not-named-pages.true in
    rw (right, outside)

pub returns : goal.returns
unfolding line_placed line_number line_tests first size
returns c =
    let right : eqb c.args.length (size c.args.pages) ≡ true = eq-eqb _ _ c.if-length-pages.false in
    let inside : (ltb c.args.named.bank 4 && ltb c.args.named.page c.args.pages && ltb c.args.named.line 16) ≡ true = c.if-not-named-pages.false in
    rw (right, inside, c.line_start.ensures.0)
