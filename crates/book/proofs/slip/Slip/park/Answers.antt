-- The step, and with it the law. Assumes nothing.
use Rattle.std.proofs.Common.{Ok}
use Rattle.model.specs.Calls.{park}
use Rattle.model.proofs.Runs.{still_conserved}
use Rattle.book.specs.View.{state_of}
use Rattle.book.proofs.slip.Slip.park.Goals as goal

pub returns : goal.returns
returns g c =
    let s = state_of g.L.Balances c.args.book.now in
    let t = state_of g.L.Balances c.park_slip-parked.new.self in
    record { step = c.park_slip-parked.ensures; law = still_conserved s (park c.args.self.mark c.args.self.number) (Ok c.park_slip-parked.result) t c.park_slip-parked.ensures }
