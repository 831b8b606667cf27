-- Lists of records: bounds, and one record more. Assumes nothing.
use Rattle.std.specs.Prelude.{◌≤◌, Bool, true, false, cond, ◌&&◌, List, [], ◌∷◌, ◌++◌, length, nat_le, nat_lt, unsigned_abs}
use Rattle.money.specs.Conversions.{most_amount}
use Rattle.model.specs.declared.record.Record.{Record}
use Rattle.model.specs.Docket.{most_records}

-- Both residues are at most T either way.
pub record Bounded (r : Record) : Type 0 where
  pub euro : unsigned_abs r.euro.0 ≤ most_amount
  pub national : unsigned_abs r.national.0 ≤ most_amount

-- the test whether both residues are
abbrev pub residues_bounded : Record → Bool
residues_bounded r = nat_le (unsigned_abs r.euro.0) most_amount && nat_le (unsigned_abs r.national.0) most_amount

-- one record more, if there is room and its residues are bounded; else nothing changes
abbrev pub appended : List Record → Record → Bool × List Record
appended rs r = cond (nat_lt (length rs) most_records && residues_bounded r) (true, rs ++ r ∷ []) (false, rs)
