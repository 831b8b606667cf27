-- The records that a docket holds. Assumes nothing.
use Rattle.std.specs.Prelude.{List}
use Rattle.model.specs.declared.record.Record.{Record}
use Rattle.docket.specs.declared.docket.Docket.{Docket}

-- the records of a docket, in the order of issue
abbrev pub records_of : Docket → List Record
records_of d = d.records.items
