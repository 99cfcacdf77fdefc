-- `runs::five_of`: five numbers of an answer that is refused, or done. Assumes nothing.
use Rattle.runs.proofs.Tellings.{done_five, refused_five}
use Rattle.runs.proofs.five_of.Goals as goal

pub returns-in_default : goal.returns-in_default
returns-in_default c =
    let a = c.args in
    refused_five a.answer _ a.hit _ _ c.in_default.is c.number.ensures c.digit_of-flag.ensures

pub returns : goal.returns
returns c =
    let a = c.args in
    done_five a.answer _ a.hit _ _ _ c.in-Ok.is c.digit_of.ensures c.digit_of-2.ensures c.digit_of-flag.ensures
