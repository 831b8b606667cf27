-- What taking an entry keeps, for every ledger. Assumes nothing.
use Rattle.std.specs.Prelude.{◌≡◌, ℕ, ◌+◌, true, List, length, ◌+ℤ◌, Result, MatchResult}
use Rattle.std.specs.List.{AllByRecursion}
use Rattle.register.specs.declared.fault.LedgerFault.{LedgerFault}
use Rattle.ledger.specs.declared.leg.Leg.{Leg}
use Rattle.ledger.specs.Legs.{rise, sum_to}
use Rattle.ledger.specs.Limits.{accounts}
use Rattle.ledger.specs.Meaning.{Meaning, fits}

-- The legs ls turned the meaning m into n: double entry keeps every column's sum over all accounts.
pub record Accepted (m n : Meaning) (ls : List Leg) : Type 0 where
  pub columns : (k : ℕ) → sum_to accounts (λ a. n.cell a k) ≡ sum_to accounts (λ a. m.cell a k)
  pub cells : (a k : ℕ) → n.cell a k ≡ m.cell a k +ℤ rise ls a k
  pub limits : AllByRecursion (λ l. fits n l ≡ true) ls
  pub room : n.room + length ls ≡ m.room
  pub floors : n.floor ≡ m.floor
  pub ceilings : n.ceiling ≡ m.ceiling

-- An accepted entry moves what its legs say and no column's sum; a refused one leaves everything as it was.
abbrev pub Conserved : Meaning → Meaning → List Leg → Result (Unit {0}) LedgerFault → Type 0
Conserved m n ls r = MatchResult r (λ _. Accepted m n ls) (λ _. n ≡ m)
