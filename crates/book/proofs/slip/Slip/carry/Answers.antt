-- The step, and with it the law. Assumes nothing.
use Rattle.std.proofs.Common.{refl}
use Rattle.model.specs.Calls.{carry}
use Rattle.model.proofs.Runs.{still_conserved}
use Rattle.book.specs.View.{state_of}
use Rattle.book.proofs.slip.Slip.carry.Goals as goal

pub returns-in-Ok : goal.returns-in-Ok
returns-in-Ok g c =
    let s = state_of g.L.Balances c.args.book.now in
    let t = state_of g.L.Balances c.carry_slip.new.self in
    let e = c.in-Ok.ensures in
    record { step = e; law = still_conserved s (carry c.args.self.mark c.args.self.number c.args.account) _ t e; back = tt }

pub returns-in-Err : goal.returns-in-Err
returns-in-Err g c =
    let s = state_of g.L.Balances c.args.book.now in
    let t = state_of g.L.Balances c.carry_slip.new.self in
    let e = c.in-Err.ensures in
    record { step = e; law = still_conserved s (carry c.args.self.mark c.args.self.number c.args.account) _ t e; back = refl }
