-- What a journal means, and what its list holds once an entry was taken or refused. Assumes nothing.
use Rattle.std.specs.Prelude.{◌≡◌, ℕ, ◌+◌, ◌-◌, min, cond, List, [], ◌∷◌, ◌++◌, length, take, drop, ℤ, pos, ◌+ℤ◌, Result, MatchResult}
use Rattle.register.specs.declared.fault.LedgerFault.{LedgerFault}
use Rattle.ledger.specs.declared.leg.Leg.{Leg}
use Rattle.ledger.specs.Entries.{in_range}
use Rattle.ledger.specs.Legs.{in_cell}
use Rattle.ledger.specs.Limits.{where_listed, floor_of, ceiling_of}
use Rattle.ledger.specs.Meaning.{Meaning, verdict, settled}
use Rattle.journal.specs.declared.journal.Journal.{Journal}

-- the most records that a journal uses of its list
abbrev pub most_records : ℕ
most_records = 65_536

-- the records taken, if n of the list are
abbrev pub records_taken : List Leg → ℕ → List Leg
records_taken rs n = take (min n most_records) rs

-- what a record adds to the cell of account a in column k: nothing unless it is a leg by its bounds
unfoldable pub in_record : Leg → ℕ → ℕ → ℤ
in_record r a k = cond (in_range r) (in_cell r a k) (pos 0)

-- the records' sum in the cell of account a in column k
unfoldable pub recorded : List Leg → ℕ → ℕ → ℤ
recorded [] a k = pos 0
recorded (r ∷ rs) a k = in_record r a k +ℤ recorded rs a k

-- the meaning of a list of records of which n are taken
abbrev pub journal_over : List Leg → ℕ → Meaning
journal_over rs n = record {
  room = min (length rs) most_records - n;
  cell = where_listed (recorded (records_taken rs n));
  floor = floor_of;
  ceiling = ceiling_of;
}

-- the records that a journal has taken
abbrev pub journal_records : Journal → List Leg
journal_records j = records_taken j.records.now j.taken

-- the meaning of a journal
abbrev pub journal_meaning : Journal → Meaning
journal_meaning j = journal_over j.records.now j.taken

-- the meaning at opening: room for a leg to each record, and every cell zero
abbrev pub journal_opened : List Leg → Meaning
journal_opened rs = record { room = min (length rs) most_records; cell = λ a k. pos 0; floor = floor_of; ceiling = ceiling_of }

-- the list with the legs ls after the first n records: those before and those behind are as they were
abbrev pub written : List Leg → ℕ → List Leg → List Leg
written rs n ls = take n rs ++ (ls ++ drop (n + length ls) rs)

-- A journal only grows: the legs of an accepted entry follow the records taken before, and a refusal adds none.
abbrev pub Appended : Journal → Journal → List Leg → Result (Unit {0}) LedgerFault → Type 0
Appended j i ls r = MatchResult r (λ _. journal_records i ≡ journal_records j ++ ls) (λ _. journal_records i ≡ journal_records j)

-- the list once the legs were taken or refused: a refusal writes nothing
abbrev pub records_after : List Leg → ℕ → List Leg → List Leg
records_after rs n ls = settled (verdict (journal_over rs n) ls) (written rs n ls) rs

-- how many records are then taken
abbrev pub taken_after : List Leg → ℕ → List Leg → ℕ
taken_after rs n ls = settled (verdict (journal_over rs n) ls) (n + length ls) n
