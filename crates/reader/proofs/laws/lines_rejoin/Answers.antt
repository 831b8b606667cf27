-- Assumes nothing.
use Rattle.reader.proofs.Rejoining.{lines_rejoin}
use Rattle.reader.proofs.laws.lines_rejoin.Goals as goal

pub returns : goal.returns
returns c = lines_rejoin
