-- One column more, all columns, or one that is not clear. Assumes nothing.
use Rattle.std.proofs.Common.{sym, ap, ◌∙◌, arith}
use Rattle.model.specs.State.{all_below, clear_at}
use Rattle.book.proofs.Below.{below_none, below_more, below_not}
use Rattle.book.proofs.book.is_clear.Goals as goal

pub loop-column-init : goal.loop-column-init
loop-column-init g c = below_none (clear_at (g.L.Balances.meaning c.args.ledger.now))

pub loop-column-preserved : goal.loop-column-preserved
loop-column-preserved g c =
    below_more (clear_at (g.L.Balances.meaning c.args.ledger.now)) c.loop-column.column c.loop-column.invariant (sym c.if-not-is_clear_at.ensures)

pub returns-then-not-is_clear_at : goal.returns-then-not-is_clear_at
returns-then-not-is_clear_at g c =
    sym (below_not (clear_at (g.L.Balances.meaning c.args.ledger.now)) _ c.loop-column.column c.loop-column-test.true (sym c.if-not-is_clear_at.ensures))

pub returns : goal.returns
returns g c = sym c.loop-column.invariant ∙ ap (all_below (clear_at (g.L.Balances.meaning c.args.ledger.now))) (omega arith)
