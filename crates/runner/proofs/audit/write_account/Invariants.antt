-- The cells of the columns so far are written and counted. Assumes nothing.
use Rattle.std.proofs.Common.{◌≡◌, ◌≤◌, ◌++◌, length, string_bytes}
use Rattle.std.specs.List.{flat_map}
use Rattle.book.specs.View.{state_of}
use Rattle.transcript.specs.Text.{cell_text}
use Rattle.runner.specs.Audit.{cells_of}
use Rattle.runner.proofs.audit.write_account.Given as goal

abbrev pub invariant-loop-column : goal.invariant-loop-column
invariant-loop-column g l =
    (string_bytes l.transcript ≡ string_bytes l.initial.transcript ++ flat_map cell_text (cells_of (state_of g.L.Balances l.book) l.account l.column))
    × (l.cells ≡ length (cells_of (state_of g.L.Balances l.book) l.account l.column))
    × (l.cells ≤ l.column)
