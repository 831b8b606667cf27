-- Which cells there are, and the limits of a ledger that stands on no other. Assumes nothing.
use Rattle.std.specs.Prelude.{ℕ, Bool, cond, ◌&&◌, ℤ, pos, neg_ℤ, nat_lt}

-- the accounts are 0 to 127, the columns 0 to 33
abbrev pub accounts : ℕ
accounts = 128

abbrev pub columns : ℕ
columns = 34

-- account and column are among the ledger's
abbrev pub listed : ℕ → ℕ → Bool
listed a k = nat_lt a accounts && nat_lt k columns

-- a number for each cell, and 0 outside the accounts and columns
abbrev pub where_listed : (ℕ → ℕ → ℤ) → ℕ → ℕ → ℤ
where_listed f a k = cond (listed a k) (f a k) (pos 0)

-- how far a cell may go from zero, either way: 10^15
abbrev pub most_held : ℕ
most_held = 1_000_000_000_000_000

abbrev pub floor_of : ℕ → ℕ → ℤ
floor_of = where_listed (λ a k. neg_ℤ (pos most_held))

abbrev pub ceiling_of : ℕ → ℕ → ℤ
ceiling_of = where_listed (λ a k. pos most_held)
