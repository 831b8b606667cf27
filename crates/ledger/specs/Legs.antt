-- Legs, and what they add to a cell and to a column; over any number of legs. Assumes nothing.
use Rattle.std.specs.Prelude.{ℕ, zero, suc, cond, List, [], ◌∷◌, ℤ, pos, ◌+ℤ◌, ◌==◌}
use Rattle.ledger.specs.declared.leg.Leg.{Leg}

-- the leg of amount x in account a and column k; plus is debit
abbrev pub leg : ℕ → ℕ → ℤ → Leg
leg a k x = record { account = a; column = k; amount = x }

-- what the leg adds to column k
unfoldable pub in_column : Leg → ℕ → ℤ
in_column l k = cond (l.column == k) l.amount (pos 0)

-- what the leg adds to the cell of account a in column k
unfoldable pub in_cell : Leg → ℕ → ℕ → ℤ
in_cell l a k = cond (l.account == a) (in_column l k) (pos 0)

-- the legs' sum in column k
unfoldable pub column_sum : List Leg → ℕ → ℤ
column_sum [] k = pos 0
column_sum (l ∷ ls) k = in_column l k +ℤ column_sum ls k

-- the legs' sum in the cell of account a in column k
unfoldable pub rise : List Leg → ℕ → ℕ → ℤ
rise [] a k = pos 0
rise (l ∷ ls) a k = in_cell l a k +ℤ rise ls a k

-- the sum of f over 0 .. n − 1
unfoldable pub sum_to : ℕ → (ℕ → ℤ) → ℤ
sum_to zero f = pos 0
sum_to (suc n) f = sum_to n f +ℤ f n
