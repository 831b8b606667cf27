-- Which amounts can be converted. Assumes nothing.
use Rattle.std.specs.Prelude.{◌≡◌, true, false, Result, MatchResult, unsigned_abs}
use Rattle.register.specs.declared.cause.BookCause.{BookCause}
use Rattle.register.specs.declared.cause.BookCause.TheVariants.{AmountOutOfRange}
use Rattle.money.specs.declared.amount.Amount.{Amount}
use Rattle.money.specs.declared.quantity.Minor.{Minor}
use Rattle.money.specs.Conversions.{convertible}

-- An amount from 1 to T is taken as it is, and any other is refused.
abbrev pub Admits : Minor → Result Amount BookCause → Type 0
Admits m r = MatchResult r (λ a. (convertible m.0 ≡ true) × (a.units ≡ unsigned_abs m.0)) (λ cause. (convertible m.0 ≡ false) × (cause ≡ AmountOutOfRange))
