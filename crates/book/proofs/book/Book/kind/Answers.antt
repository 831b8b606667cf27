-- Assumes nothing.
use Rattle.model.specs.Calls.{kind}
use Rattle.book.specs.View.{state_of}
use Rattle.book.proofs.Asked.{asked_conserves}
use Rattle.book.proofs.book.Book.kind.Goals as goal

pub returns : goal.returns
returns g c =
    let s = state_of g.L.Balances c.args.self.now in
    record { value = c.kind_letter.ensures; law = asked_conserves s kind _ c.kind_letter.ensures }
