-- `lines::printer::put_line`: the line's bytes stand from the place on, and no other byte is changed. Assumes nothing.
use mathlib.Core.Path.{◌≡◌, ap, ◌∙◌}
use mathlib.Core.List.{List, [], ◌∷◌}
use Prim.Native.Nat.{ℕ, ◌+◌, ◌-◌}
use native.Mathlib.Omega.{arith}
use borrow.Author.Rules.{rules}
use lib.ListN.{length}
use Rattle.lists.proofs.RowStores.{part_put}
use Rattle.lines.proofs.Digits.{line_count}
use Rattle.lines.specs.Printing.{printed_line}
use Rattle.lines.proofs.printer.put_line.Goals as goal

pub returns : goal.returns
returns c =
    let a = c.args in
    let line = line_count a.number a.value a.pass a.written in
    let held : c.push_line.new.output.bytes ≡ printed_line (a.number ∷ a.value ∷ a.pass ∷ a.written ∷ []) = c.push_line.ensures ∙ search rules in
    let long : c.len.result ≡ length (printed_line (a.number ∷ a.value ∷ a.pass ∷ a.written ∷ [])) = c.len.ensures.value ∙ ap length held in
    record {
      place = ap (λ (n : ℕ). a.at + n) long;
      buffer = part_put a.output.now _ _ a.at _ (omega (arith, line, c.requires)) (c.copy_from_slice.ensures.after ∙ c.as_bytes.ensures.value ∙ c.deref.ensures.0 ∙ held) (omega (arith, long));
    }
