-- `bank::copy_page`: the page's bytes, one behind the other, by `pasted`. Assumes nothing.
use native.Mathlib.Omega.{arith}
use Prim.Native.Nat.{◌+◌, ◌*◌, ◌-◌}
use mathlib.Core.Path.{◌≡◌}
use Rattle.layout.specs.Memory.{in_bank}
use Rattle.bank.specs.Work.{copied}
use Rattle.bank.proofs.Copies.{pasted}
use Rattle.bank.proofs.copy_page.Goals as goal

pub returns : goal.returns
unfolding copied in_bank
returns c =
    let a = c.args in
    let page : a.from * 1280 + 1280 - a.from * 1280 ≡ 1280 = omega arith in
    rw (c.copy_within.ensures.after, page)
    (pasted 1280 (a.to * 1280) (a.from * 1280) a.part.now c.requires.1 c.requires.0)
