-- The books that the programs open. Assumes nothing.
use Rattle.std.specs.Prelude.{ℕ, pos}
use Rattle.ledger.specs.Limits.{floor_of, ceiling_of}
use Rattle.ledger.specs.Meaning.{Meaning}
use Rattle.model.specs.State.{State, opened}
use Rattle.sheet.specs.declared.sheet.Sheet.{Sheet}
use Rattle.sheet.specs.Sheet.{sheet_meaning}
use Rattle.journal.specs.declared.journal.Journal.{Journal}
use Rattle.journal.specs.Journal.{journal_meaning}
use Rattle.book.specs.declared.book.Book.{Book}
use Rattle.book.specs.View.{state_of}

-- what a ledger means that has taken nothing
abbrev pub empty_ledger : (room : ℕ) → Meaning
empty_ledger room = record { room = room; cell = λ a k. pos 0; floor = floor_of; ceiling = ceiling_of }

-- the state of a book on a sheet, and of one on a journal
abbrev pub sheet_state : Book Sheet → State
sheet_state b = state_of (record { letter = 83; meaning = sheet_meaning }) b

abbrev pub journal_state : Book Journal → State
journal_state b = state_of (record { letter = 74; meaning = journal_meaning }) b

-- a book on a sheet of room 4,000,000, and one on a journal of 4,096 records; both bear the mark 1
unfoldable pub sheet_book : State
sheet_book = opened (empty_ledger 4_000_000) 83 1

unfoldable pub journal_book : State
journal_book = opened (empty_ledger 4_096) 74 1
