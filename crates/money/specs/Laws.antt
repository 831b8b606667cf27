-- What conversions keep, in the subject's terms. Assumes nothing.
use Rattle.std.specs.Prelude.{◌≡◌, ℕ, ◌*◌, ℤ, pos, ◌+ℤ◌, ◌*ℤ◌, neg_ℤ, ◌≤ℤ◌, ◌<ℤ◌, Result, MatchResult, ◌≢◌, unsigned_abs}
use Rattle.register.specs.Register.{BookFault}
use Rattle.money.specs.declared.currency.Currency.{Currency}
use Rattle.money.specs.declared.currency.Currency.TheVariants.{Euro, National as Of}
use Rattle.money.specs.declared.conversion.Route.{Route}
use Rattle.money.specs.declared.conversion.Route.TheVariants.{IntoEuro, FromEuro, Between}
use Rattle.money.specs.declared.conversion.Conversion.{Conversion}
use Rattle.money.specs.declared.conversion.Conversion.TheVariants.{IntoEuro as GaveEuro, FromEuro as GaveNational, Between as GaveBoth}
use Rattle.money.specs.Conversions.{exact_from, exact_into, mills_of_cents}
use Rattle.money.specs.Rounding.{Nearest}
use Rattle.money.specs.Table.{rate, parts}

-- The exact x parts are b whole units of d parts each and z parts more, with b the nearest whole number; so twice z
-- lies from −d up to, but not including, d.
pub record Accounted (x d b : ℕ) (z : ℤ) : Type 0 where
  pub adds : pos x ≡ pos (d * b) +ℤ z
  pub nearest : Nearest x d b
  pub low : neg_ℤ (pos d) ≤ℤ (pos 2 *ℤ z)
  pub high : (pos 2 *ℤ z) <ℤ pos d

-- No part of an exact amount is lost or made on the way: M is the cents booked, or the mills passed on, and the euro
-- residue; N is the minor units booked and the national residue.
abbrev pub Lossless : Route → ℕ → Conversion → Type 0
Lossless (IntoEuro i) amount (GaveEuro b z) = Accounted (exact_from i amount) (10 * rate i) (unsigned_abs b.0) z.0
Lossless (IntoEuro i) amount (GaveNational b z) = ⊥
Lossless (IntoEuro i) amount (GaveBoth m y b z) = ⊥
Lossless (FromEuro j) amount (GaveEuro b z) = ⊥
Lossless (FromEuro j) amount (GaveNational b z) = Accounted (exact_into j (mills_of_cents amount)) (parts j) (unsigned_abs b.0) z.0
Lossless (FromEuro j) amount (GaveBoth m y b z) = ⊥
Lossless (Between i j) amount (GaveEuro b z) = ⊥
Lossless (Between i j) amount (GaveNational b z) = ⊥
Lossless (Between i j) amount (GaveBoth m y b z) =
    Accounted (exact_from i amount) (rate i) m.0 y.0 × Accounted (exact_into j m.0) (parts j) (unsigned_abs b.0) z.0

-- where a route begins and ends
abbrev pub start : Route → Currency
start (IntoEuro i) = Of i
start (FromEuro j) = Euro
start (Between i j) = Of i

abbrev pub end : Route → Currency
end (IntoEuro i) = Euro
end (FromEuro j) = Of j
end (Between i j) = Of j

-- There is a route exactly between two different currencies, and it joins them.
abbrev pub Joins : Currency → Currency → Result Route BookFault → Type 0
Joins from to r = MatchResult r (λ route. (from ≢ to) × (start route ≡ from) × (end route ≡ to)) (λ fault. from ≡ to)

-- the same law for a conversion between two currencies: some route that joins them carries it
abbrev pub LosslessBetween : Currency → Currency → ℕ → Conversion → Type 0
LosslessBetween from to amount c = (route : Route) × (start route ≡ from) × (end route ≡ to) × Lossless route amount c
