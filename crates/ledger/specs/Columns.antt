-- The columns of the ledger: their numbers, and the parts and the currency of a fraction column. Assumes nothing.
use Rattle.std.specs.Prelude.{◌≡◌, ℕ, ◌+◌, ◌-◌, ◌*◌, ◌≤◌, cond, Some, None, Option, nat_le}
use Rattle.money.specs.declared.currency.National.{National}
use Rattle.money.specs.declared.currency.Currency.{Currency}
use Rattle.money.specs.declared.currency.Currency.TheVariants.{Euro, National as Of}
use Rattle.money.specs.Table.{table, rate, parts, number_of, numbered}
use Rattle.ledger.specs.declared.column.FractionColumn.{FractionColumn}
use Rattle.ledger.specs.declared.column.FractionColumn.TheVariants.{Euro as EuroOf, National as NationalOf}
use Rattle.ledger.specs.declared.column.Column.{Column}
use Rattle.ledger.specs.declared.column.Column.TheVariants.{Money, Fraction}

-- the euro fraction of national currency i is column 11 + i, its national fraction 22 + i
abbrev pub fraction_number : FractionColumn → ℕ
fraction_number (EuroOf i) = 11 + (table i).number
fraction_number (NationalOf i) = 22 + (table i).number

-- the money of currency i is column i
abbrev pub column_number : Column → ℕ
column_number (Money c) = number_of c
column_number (Fraction f) = fraction_number f

-- D: the parts to a whole minor unit, 10 × R in a euro fraction column and P in a national one
abbrev pub whole_parts : FractionColumn → ℕ
whole_parts (EuroOf i) = 10 * rate i
whole_parts (NationalOf i) = parts i

-- the currency of whose minor unit the column counts parts
abbrev pub currency_of : FractionColumn → Currency
currency_of (EuroOf i) = Euro
currency_of (NationalOf i) = Of i

-- the national currency, if it is one
abbrev pub national_in : Option Currency → Option National
national_in None = None
national_in (Some Euro) = None
national_in (Some (Of i)) = Some i

-- the national currency of that number in the table
abbrev pub national_numbered : ℕ → Option National
national_numbered n = national_in (numbered n)

-- a fraction column of one kind
abbrev pub fraction_in : (National → FractionColumn) → Option National → Option FractionColumn
fraction_in kind None = None
fraction_in kind (Some i) = Some (kind i)

-- the fraction column of that number; there is no national currency 0
abbrev pub fraction_numbered : ℕ → Option FractionColumn
fraction_numbered n = cond (nat_le n 22) (fraction_in EuroOf (national_numbered (n - 11))) (fraction_in NationalOf (national_numbered (n - 22)))

-- The numbers 0 to 33 and the columns go together one to one, and so do 12 to 33 and the fraction columns.
pub record ColumnsNumbered : Type 0 where
  pub within : (c : Column) → column_number c ≤ 33
  pub every : (n : ℕ) → n ≤ 33 → (c : Column) × (column_number c ≡ n)
  pub apart : (c d : Column) → column_number c ≡ column_number d → c ≡ d
  pub fraction : (f : FractionColumn) → fraction_numbered (fraction_number f) ≡ Some f
  pub fraction_is : (n : ℕ) (f : FractionColumn) → fraction_numbered n ≡ Some f → fraction_number f ≡ n
