-- The step, and with it the law. Assumes nothing.
use Rattle.model.specs.Calls.{sweep}
use Rattle.model.proofs.Runs.{still_conserved}
use Rattle.book.specs.View.{state_of}
use Rattle.book.proofs.book.Book.sweep.Goals as goal

pub returns : goal.returns
returns g c =
    let s = state_of g.L.Balances c.args.self.now in
    let t = state_of g.L.Balances c.enter_sweep.new.self in
    record { step = c.enter_sweep.ensures; law = still_conserved s (sweep c.args.account c.args.column) _ t c.enter_sweep.ensures }
