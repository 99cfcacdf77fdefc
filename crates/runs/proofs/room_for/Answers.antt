-- `runs::room_for`: there is a call for each six numbers. Assumes nothing.
use Rattle.runs.specs.Runs.{room_for}
use Rattle.runs.proofs.EachCall.{calls_counted}
use Rattle.runs.proofs.room_for.Goals as goal

pub returns : goal.returns
unfolding room_for
returns c = rw (calls_counted c.args.numbers.now)
