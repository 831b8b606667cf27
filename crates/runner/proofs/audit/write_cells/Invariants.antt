-- The cells of the accounts so far are written and counted. Assumes nothing.
use Rattle.std.proofs.Common.{◌≡◌, ◌*◌, ◌≤◌, ◌++◌, length, string_bytes}
use Rattle.std.specs.List.{flat_map}
use Rattle.ledger.specs.Limits.{columns}
use Rattle.book.specs.View.{state_of}
use Rattle.transcript.specs.Text.{cell_text}
use Rattle.runner.specs.Audit.{cells_below}
use Rattle.runner.proofs.audit.write_cells.Given as goal

abbrev pub invariant-loop-account : goal.invariant-loop-account
invariant-loop-account g l =
    (string_bytes l.transcript ≡ string_bytes l.initial.transcript ++ flat_map cell_text (cells_below (state_of g.L.Balances l.book) l.account))
    × (l.cells ≡ length (cells_below (state_of g.L.Balances l.book) l.account))
    × (l.cells ≤ l.account * columns)
