-- What a sheet means. Assumes nothing.
use Rattle.ledger.specs.Meaning.{Meaning}
use Rattle.sheet.specs.declared.sheet.Sheet.{Sheet}
use Rattle.sheet.specs.Cells.{sheet_over}

-- what the sheet's list and room mean
abbrev pub sheet_meaning : Sheet → Meaning
sheet_meaning s = sheet_over s.cells.now s.room
