-- Assumes nothing.
use Rattle.std.proofs.Common.{arith}
use Rattle.money.proofs.HalfUp.{half_up_above, half_up_below}
use Rattle.money.proofs.rounding.half_up.Goals as goal

pub returns-then-rest-y : goal.returns-then-rest-y
returns-then-rest-y c = half_up_above c.args.x c.args.y c.requires (omega arith)

pub returns-else-rest-y : goal.returns-else-rest-y
returns-else-rest-y c = half_up_below c.args.x c.args.y c.requires (omega arith)
