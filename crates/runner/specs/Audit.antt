-- The text of an audit. Assumes nothing.
use Rattle.std.specs.Prelude.{ℕ, Bool, not, List, ◌++◌, map, length, filter}
use Rattle.std.specs.List.{range_with_len, flat_map}
use Rattle.ledger.specs.Entries.{is_zero}
use Rattle.ledger.specs.Limits.{accounts, columns}
use Rattle.model.specs.State.{State}
use Rattle.transcript.specs.declared.audit.Cell.{Cell}
use Rattle.transcript.specs.Text.{heading_text, cell_text, open_text, end_text}

-- a cell and what it holds
abbrev pub cell_at : State → (account column : ℕ) → Cell
cell_at s a k = record { account = a; column = k; amount = s.ledger.cell a k }

abbrev pub holds_some : Cell → Bool
holds_some x = not (is_zero x.amount)

-- the cells of an account in the first n columns that are not zero, by column
unfoldable pub cells_of : State → (account n : ℕ) → List Cell
cells_of s a n = filter holds_some (map (cell_at s a) (range_with_len 0 n))

-- the cells of the first n accounts that are not zero, by account and then by column
unfoldable pub cells_below : State → (n : ℕ) → List Cell
cells_below s n = flat_map (λ a. cells_of s a columns) (range_with_len 0 n)

-- heading, cells, docket records, and how many of both
unfoldable pub audit_text : State → List ℕ
audit_text s =
    heading_text (record { kind = s.kind; room = s.ledger.room })
    ++ (flat_map cell_text (cells_below s accounts)
    ++ (flat_map open_text s.docket
    ++ end_text (record { cells = length (cells_below s accounts); records = length s.docket })))
