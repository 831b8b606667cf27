-- Assumes nothing.
use Rattle.std.proofs.Common.{◌∙◌, w64, SFits, rules}
use Rattle.std.proofs.lemmas.Int.{to_z-of_z}
use Rattle.model.specs.Calls.{cell}
use Rattle.book.specs.View.{state_of}
use Rattle.book.proofs.Asked.{asked_conserves}
use Rattle.book.proofs.book.Book.cell.Goals as goal

pub returns : goal.returns
returns g c =
    let s = state_of g.L.Balances c.args.self.now in
    let fits : SFits w64 c.cell.result = search rules in
    let value = to_z-of_z w64 c.cell.result fits ∙ c.cell.ensures.value in
    record { value = value; law = asked_conserves s (cell c.args.account c.args.column) _ value }
