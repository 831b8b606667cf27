-- Which lists of legs make an entry. Assumes nothing.
use Rattle.std.specs.Prelude.{◌≡◌, ℕ, ◌≤◌, Bool, true, false, ◌&&◌, List, [], ◌∷◌, length, ℤ, pos, negsuc, ◌==◌, nat_le, unsigned_abs}
use Rattle.std.specs.List.{AllByRecursion}
use Rattle.money.specs.Conversions.{most_amount}
use Rattle.ledger.specs.declared.leg.Leg.{Leg}
use Rattle.ledger.specs.Legs.{column_sum}

-- the most legs of an entry
abbrev pub most_legs : ℕ
most_legs = 16

-- the last account and the last column
abbrev pub most_account : ℕ
most_account = 127

abbrev pub most_column : ℕ
most_column = 33

-- Account and column are among the ledger's, and the amount is at most T either way.
pub record InRange (l : Leg) : Type 0 where
  pub account : l.account ≤ most_account
  pub column : l.column ≤ most_column
  pub amount : unsigned_abs l.amount ≤ most_amount

-- The legs make an entry: they are few enough, each is in range, and every column sums to zero.
pub record EntryLegs (ls : List Leg) : Type 0 where
  pub few : length ls ≤ most_legs
  pub each : AllByRecursion InRange ls
  pub balanced : (k : ℕ) → column_sum ls k ≡ pos 0

-- the test whether a leg is in range
abbrev pub in_range : Leg → Bool
in_range l = nat_le l.account most_account && (nat_le l.column most_column && nat_le (unsigned_abs l.amount) most_amount)

-- whether every leg is
unfoldable pub all_in_range : List Leg → Bool
all_in_range [] = true
all_in_range (l ∷ ls) = in_range l && all_in_range ls

-- whether a sum is zero
abbrev pub is_zero : ℤ → Bool
is_zero (pos n) = n == 0
is_zero (negsuc n) = false

-- the columns of the legs qs each sum to zero over the legs ls
unfoldable pub zero_at_each : List Leg → List Leg → Bool
zero_at_each ls [] = true
zero_at_each ls (q ∷ qs) = is_zero (column_sum ls q.column) && zero_at_each ls qs

-- the test whether legs make an entry: a column in which no leg stands need not be added up
unfoldable pub is_entry : List Leg → Bool
is_entry ls = nat_le (length ls) most_legs && (all_in_range ls && zero_at_each ls ls)
