-- Conversions reckoned by hand: what is booked, the mills on the way, and the residues. Assumes nothing.
use Rattle.std.specs.Prelude.{◌≡◌, ℕ, pos, neg_ℤ, Ok}
use Rattle.money.specs.declared.currency.National.TheVariants.{Bef, Dem, Frf, Itl, Luf}
use Rattle.money.specs.declared.currency.Currency.{Currency}
use Rattle.money.specs.declared.currency.Currency.TheVariants.{Euro, National as Of}
use Rattle.money.specs.declared.quantity.Parts.{Parts}
use Rattle.money.specs.declared.conversion.Conversion.{Conversion}
use Rattle.money.specs.declared.conversion.Conversion.TheVariants.{IntoEuro as GaveEuro, FromEuro as GaveNational, Between as GaveBoth}
use Rattle.money.specs.Conversions.{converting, minors, thousandths}

-- parts above what is booked, and parts below it
abbrev more : ℕ → Parts
more n = record { 0 = pos n }

abbrev less : ℕ → Parts
less n = record { 0 = neg_ℤ (pos n) }

-- the amount in the first currency converts to that in the second
abbrev Gives : Currency → ℕ → Currency → Conversion → Type 0
Gives from amount to c = converting from to (pos amount) ≡ Ok c

pub record ReckonedConversions : Type 0 where
  -- 100 marks
  pub mark : Gives (Of Dem) 10000 Euro (GaveEuro (minors 5113) (less 158790))
  -- exactly half a pfennig: the upper one
  pub half : Gives Euro 150000 (Of Dem) (GaveNational (minors 293375) (less 500000))
  -- nothing is booked, and the residue stands all the same
  pub nine_lire : Gives (Of Itl) 9 Euro (GaveEuro (minors 0) (more 900000))
  pub ten_lire : Gives (Of Itl) 10 Euro (GaveEuro (minors 1) (less 936270))
  -- through mills; a cross rate would book 33539
  pub through_mills : Gives (Of Dem) 10000 (Of Frf) (GaveBoth (thousandths 51129) (more 36793) (minors 33538) (more 425453))
  -- the two francs, one for one, through the euro
  pub francs : Gives (Of Bef) 1000 (Of Luf) (GaveBoth (thousandths 24789) (more 142189) (minors 1000) (less 142189))
