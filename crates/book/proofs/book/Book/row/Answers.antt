-- The ledger's row, and the law of each of its cells. Assumes nothing.
use Rattle.std.proofs.Common.{List, get_or, ℤ, pos, ap, ◌∙◌}
use Rattle.ledger.proofs.Meanings.{row_reads}
use Rattle.model.specs.Calls.{cell}
use Rattle.book.specs.View.{state_of}
use Rattle.book.proofs.Asked.{asked_conserves}
use Rattle.book.proofs.book.Book.row.Goals as goal

pub returns : goal.returns
returns g c =
    let s = state_of g.L.Balances c.args.self.now in
    let a = c.args.account in
    record {
      value = c.row.ensures;
      law = λ k h. asked_conserves s (cell a k) _ (ap (λ (xs : List ℤ). get_or xs k (pos 0)) c.row.ensures ∙ row_reads s.ledger a k (pos 0) h);
    }
