-- Every conversion accounts for its exact amounts. Assumes nothing.
use Rattle.std.proofs.Common.{◌≡◌, ℕ, ◌*◌, ◌<◌, sym, subst, arith}
use Rattle.std.proofs.lemmas.Int.{ints}
use Rattle.money.specs.declared.conversion.Route.{Route}
use Rattle.money.specs.declared.conversion.Route.TheVariants.{IntoEuro, FromEuro, Between}
use Rattle.money.specs.declared.conversion.Conversion.{Conversion}
use Rattle.money.specs.Conversions.{exchanged, exact_from, exact_into, mills_from, mills_of_cents}
use Rattle.money.specs.Laws.{Accounted, Lossless}
use Rattle.money.specs.Rounding.{half_up, residue_of}
use Rattle.money.specs.Table.{rate, parts}
use Rattle.money.proofs.Bounds.{rate_bounds, parts_bounds}
use Rattle.money.proofs.HalfUp.{Rounds, half_up_rounds, nearest_from}

-- one fact for every divisor
pub accounted : (x d : ℕ) → 0 < d → Accounted x d (half_up x d) (residue_of x d)
unfolding residue_of
accounted x d h =
    let r : Rounds x d (half_up x d) = half_up_rounds x d h in
    record { adds = omega (arith, ints); nearest = nearest_from x d (half_up x d) r; low = omega (arith, ints); high = omega (arith, ints) }

pub lossless : (route : Route) (amount : ℕ) → Lossless route amount (exchanged route amount)
lossless (IntoEuro i) amount = accounted (exact_from i amount) (10 * rate i) (omega (arith, rate_bounds i))
lossless (FromEuro j) amount = accounted (exact_into j (mills_of_cents amount)) (parts j) (omega (arith, parts_bounds j))
lossless (Between i j) amount = (
  accounted (exact_from i amount) (rate i) (omega (arith, rate_bounds i)),
  accounted (exact_into j (mills_from i amount)) (parts j) (omega (arith, parts_bounds j)),
)

pub lossless_at : (route : Route) (amount : ℕ) (c : Conversion) → c ≡ exchanged route amount → Lossless route amount c
lossless_at route amount c e = subst (Lossless route amount) (sym e) (lossless route amount)
