-- The legs that an entry holds. Assumes nothing.
use Rattle.std.specs.Prelude.{List}
use Rattle.ledger.specs.declared.leg.Leg.{Leg}
use Rattle.ledger.specs.declared.entry.Entry.{Entry}

-- the legs of an entry, in order
abbrev pub legs_of : Entry → List Leg
legs_of e = e.legs.items
