-- A state just opened, and the law of all its runs. Assumes nothing.
use Rattle.std.proofs.Common.{◌≡◌}
use Rattle.model.specs.State.{opened}
use Rattle.model.proofs.Runs.{opened_conserves}
use Rattle.book.specs.View.{state_of}
use Rattle.book.proofs.book.Book.open.Goals as goal

pub returns : goal.returns
returns g c =
    let m = g.L.Balances.meaning c.args.ledger in
    let same : state_of g.L.Balances (record { ledger = c.args.ledger; mark = c.args.mark; fit = c.is_clear-fit.result; given = 0; docket = c.new.result }) ≡ opened m g.L.Balances.letter c.args.mark = λ i. record { ledger = m; kind = g.L.Balances.letter; fit = c.is_clear-fit.ensures i; mark = c.args.mark; given = 0; docket = c.new.ensures i } in
    record { state = same; law = opened_conserves _ m g.L.Balances.letter c.args.mark same }
