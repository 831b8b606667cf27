-- Assumes nothing.
use Rattle.model.specs.Calls.{room}
use Rattle.book.specs.View.{state_of}
use Rattle.book.proofs.Asked.{asked_conserves}
use Rattle.book.proofs.book.Book.room.Goals as goal

pub returns : goal.returns
returns g c =
    let s = state_of g.L.Balances c.args.self.now in
    record { value = c.room.ensures; law = asked_conserves s room _ c.room.ensures }
