-- What a book is, and how it opens. Assumes nothing.
use Rattle.std.specs.Prelude.{ℕ, zero, suc, Bool, true, ◌&&◌, List, []}
use Rattle.ledger.specs.Entries.{is_zero}
use Rattle.ledger.specs.Limits.{columns}
use Rattle.ledger.specs.Meaning.{Meaning}
use Rattle.model.specs.declared.record.Record.{Record}

-- the account through which money is exchanged
abbrev pub exchange_account : ℕ
exchange_account = 0

-- the account that holds the residues of the docket's records
abbrev pub docket_account : ℕ
docket_account = 1

-- What a book's ledger means, the letter of its ledger's type, whether the book is fit, its mark, how many slips it has
-- given, and its docket.
pub record State : Type 0 where
  pub ledger : Meaning
  pub kind : ℕ
  pub fit : Bool
  pub mark : ℕ
  pub given : ℕ
  pub docket : List Record

-- whether every number below n passes the test
unfoldable pub all_below : (ℕ → Bool) → ℕ → Bool
all_below p zero = true
all_below p (suc n) = all_below p n && p n

-- whether the exchange account and the docket account are zero in a column
abbrev pub clear_at : Meaning → ℕ → Bool
clear_at m k = is_zero (m.cell exchange_account k) && is_zero (m.cell docket_account k)

-- a book just opened: never refused, and fit if both accounts are zero in every column
abbrev pub opened : Meaning → ℕ → ℕ → State
opened m kind mark = record {
  ledger = m;
  kind = kind;
  fit = all_below (clear_at m) columns;
  mark = mark;
  given = 0;
  docket = [];
}
