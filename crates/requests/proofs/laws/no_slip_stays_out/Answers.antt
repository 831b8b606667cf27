-- Assumes nothing.
use Rattle.requests.proofs.Parking.{line_leaves_none_out}
use Rattle.requests.proofs.laws.no_slip_stays_out.Goals as goal

pub returns : goal.returns
returns c = line_leaves_none_out
