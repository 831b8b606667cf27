-- One record more. Assumes nothing.
use Rattle.std.proofs.Common.{◌≡◌, ◌<◌, true, List, [], ◌∷◌, ◌++◌, length, arith}
use Rattle.model.specs.declared.record.Record.{Record}
use Rattle.model.specs.Docket.{most_records}
use Rattle.docket.specs.Records.{Bounded, appended}

-- a record that fits is appended
pub appended_one : (rs : List Record) (r : Record) → length rs < most_records → Bounded r → appended rs r ≡ (true, rs ++ r ∷ [])
appended_one rs r l b = grind arith
