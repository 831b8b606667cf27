-- The docket: its records by number, and the fractions that a record holds. Assumes nothing.
use Rattle.std.specs.Prelude.{ℕ, Bool, true, false, cond, List, [], ◌∷◌, ◌++◌, pos, Some, None, Option, ◌==◌}
use Rattle.money.specs.declared.conversion.Conversion.{Conversion}
use Rattle.money.specs.declared.conversion.Conversion.TheVariants.{IntoEuro as GaveEuro, FromEuro as GaveNational, Between as GaveBoth}
use Rattle.money.specs.declared.currency.Currency.{Currency}
use Rattle.money.specs.declared.currency.Currency.TheVariants.{Euro, National as Of}
use Rattle.money.specs.declared.quantity.Parts.{Parts}
use Rattle.ledger.specs.declared.column.FractionColumn.{FractionColumn}
use Rattle.ledger.specs.declared.column.FractionColumn.TheVariants.{Euro as EuroOf, National as NationalOf}
use Rattle.model.specs.declared.record.Record.{Record}
use Rattle.model.specs.declared.record.Standing.{Standing}
use Rattle.model.specs.declared.record.Standing.TheVariants.{Out, Parked}

-- the most records that a docket may have
abbrev pub most_records : ℕ
most_records = 64

-- the last number that a slip may bear
abbrev pub most_slips : ℕ
most_slips = 999_999

-- whether a slip is out
abbrev pub is_out : Standing → Bool
is_out Out = true
is_out Parked = false

-- the record of that number
abbrev pub found : ℕ → List Record → Option Record
found n [] = None
found n (r ∷ rs) = cond (r.number == n) (Some r) (found n rs)

-- the docket without the record of that number
abbrev pub without : ℕ → List Record → List Record
without n [] = []
without n (r ∷ rs) = cond (r.number == n) rs (r ∷ without n rs)

-- the record in another standing
abbrev pub with_standing : Standing → Record → Record
with_standing t r = record { number = r.number; from = r.from; to = r.to; euro = r.euro; national = r.national; standing = t }

-- the docket with the record of that number in another standing
abbrev pub restated : ℕ → Standing → List Record → List Record
restated n t [] = []
restated n t (r ∷ rs) = cond (r.number == n) (with_standing t r ∷ rs) (r ∷ restated n t rs)

-- no parts
abbrev pub no_parts : Parts
no_parts = record { 0 = pos 0 }

-- the euro residue of a conversion, 0 where absent
abbrev pub euro_left : Conversion → Parts
euro_left (GaveEuro b z) = z
euro_left (GaveNational b z) = no_parts
euro_left (GaveBoth m y b z) = y

-- the national residue of a conversion, 0 where absent
abbrev pub national_left : Conversion → Parts
national_left (GaveEuro b z) = no_parts
national_left (GaveNational b z) = z
national_left (GaveBoth m y b z) = z

-- the record of a conversion whose slip, of that number, has just been given
abbrev pub record_of : ℕ → Currency → Currency → Conversion → Record
record_of n from to c = record { number = n; from = from; to = to; euro = euro_left c; national = national_left c; standing = Out }

-- parts in a fraction column
pub record Residue : Type 0 where
  pub column : FractionColumn
  pub parts : Parts

-- parts in the euro fraction column of a currency; the euro itself has none
abbrev pub euro_fraction : Currency → Parts → List Residue
euro_fraction Euro z = []
euro_fraction (Of i) z = record { column = EuroOf i; parts = z } ∷ []

-- parts in the national fraction column of a currency; the euro itself has none
abbrev pub national_fraction : Currency → Parts → List Residue
national_fraction Euro z = []
national_fraction (Of j) z = record { column = NationalOf j; parts = z } ∷ []

-- the residues of a record, euro first: of the currency converted from, and of that converted to
abbrev pub residues_of : Record → List Residue
residues_of r = euro_fraction r.from r.euro ++ national_fraction r.to r.national
