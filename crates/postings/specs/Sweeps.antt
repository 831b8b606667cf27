-- What a sweep may take of a cell, in the subject's terms. Assumes nothing.
use Rattle.std.specs.Prelude.{ℕ, ◌+◌, ◌*◌, ◌<◌, ◌≤◌, ℤ, pos, ◌≤ℤ◌, unsigned_abs}
use Rattle.ledger.specs.declared.column.FractionColumn.{FractionColumn}
use Rattle.ledger.specs.Columns.{whole_parts}
use Rattle.model.specs.Postings.{most_swept}

-- no column has more parts to a minor unit
abbrev pub most_parts : ℕ
most_parts = 10_000_000

-- q minor units are swept of a cell of parts:
pub record Swept (f : FractionColumn) (cell q : ℤ) : Type 0 where
  -- at most 1,000 either way
  pub most : unsigned_abs q ≤ most_swept
  -- no more parts than the cell holds, or owes
  pub covered : unsigned_abs q * whole_parts f ≤ unsigned_abs cell
  -- every whole unit, unless the limit is reached
  pub every : unsigned_abs q < most_swept → unsigned_abs cell < (unsigned_abs q + 1) * whole_parts f
  -- what is held is taken, and what is owed is paid
  pub held : pos 0 ≤ℤ cell → pos 0 ≤ℤ q
  pub owed : cell ≤ℤ pos 0 → q ≤ℤ pos 0
