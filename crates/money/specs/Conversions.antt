-- The conversions and their exact amounts. Assumes nothing.
use Rattle.std.specs.Prelude.{ℕ, ◌*◌, Bool, cond, ◌&&◌, ℤ, pos, Ok, Err, Result, ◌==◌, int_le, unsigned_abs}
use Rattle.register.specs.Register.{Refusal, by_book}
use Rattle.money.specs.declared.currency.National.{National}
use Rattle.money.specs.declared.currency.Currency.{Currency}
use Rattle.money.specs.declared.currency.Currency.TheVariants.{Euro, National as Of}
use Rattle.money.specs.declared.quantity.Minor.{Minor}
use Rattle.money.specs.declared.quantity.Mills.{Mills}
use Rattle.money.specs.declared.quantity.Parts.{Parts}
use Rattle.money.specs.declared.rounding.Rounded.{Rounded}
use Rattle.money.specs.declared.conversion.Route.{Route}
use Rattle.money.specs.declared.conversion.Route.TheVariants.{IntoEuro, FromEuro, Between}
use Rattle.money.specs.declared.conversion.Conversion.{Conversion}
use Rattle.money.specs.declared.conversion.Conversion.TheVariants.{IntoEuro as GaveEuro, FromEuro as GaveNational, Between as GaveBoth}
use Rattle.money.specs.Rounding.{half_up, residue_of}
use Rattle.money.specs.Table.{table, rate, parts}

-- T: the most minor units that an amount may have
abbrev pub most_amount : ℕ
most_amount = 99_999_999_999

-- no amount comes to more mills, in any currency
abbrev pub most_mills : ℕ
most_mills = 7_267_300_000_000

-- a count of minor units, of mills, and the parts that rounding x parts to whole units of d parts leaves
abbrev pub minors : ℕ → Minor
minors n = record { 0 = pos n }

abbrev pub thousandths : ℕ → Mills
thousandths n = record { 0 = n }

abbrev pub leftover : ℕ → ℕ → Parts
leftover x d = record { 0 = residue_of x d }

-- x parts as whole units of d parts each, and the parts left
abbrev pub rounded_to : ℕ → ℕ → Rounded
rounded_to x d = record { whole = half_up x d; residue = leftover x d }

-- M: an amount of currency i in parts of its euro fraction column, 10 × R to a cent
abbrev pub exact_from : National → ℕ → ℕ
exact_from i amount = amount * parts i

-- m: the mills of an amount of currency i that goes on into another national currency; R parts are a mill
abbrev pub mills_from : National → ℕ → ℕ
mills_from i amount = half_up (exact_from i amount) (rate i)

-- m: the mills of an amount in cents
abbrev pub mills_of_cents : ℕ → ℕ
mills_of_cents cents = 10 * cents

-- N: mills in parts of currency j's national fraction column, P to a minor unit
abbrev pub exact_into : National → ℕ → ℕ
exact_into j mills = mills * rate j

-- what a conversion books, b, and leaves along each route
abbrev pub exchanged : Route → ℕ → Conversion
exchanged (IntoEuro i) amount =
    GaveEuro (minors (half_up (exact_from i amount) (10 * rate i))) (leftover (exact_from i amount) (10 * rate i))
exchanged (FromEuro j) amount =
    GaveNational (minors (half_up (exact_into j (mills_of_cents amount)) (parts j)))
    (leftover (exact_into j (mills_of_cents amount)) (parts j))
exchanged (Between i j) amount =
    GaveBoth (thousandths (mills_from i amount)) (leftover (exact_from i amount) (rate i))
    (minors (half_up (exact_into j (mills_from i amount)) (parts j))) (leftover (exact_into j (mills_from i amount)) (parts j))

abbrev pub booked : Conversion → Minor
booked (GaveEuro b z) = b
booked (GaveNational b z) = b
booked (GaveBoth m y b z) = b

-- an amount from 1 to T
abbrev pub convertible : ℤ → Bool
convertible amount = int_le (pos 1) amount && int_le amount (pos most_amount)

-- 9 where more than T would be booked
abbrev pub bounded : Conversion → Result Conversion Refusal
bounded c = cond (int_le (booked c).0 (pos most_amount)) (Ok c) (Err (by_book 9 0))

-- 5 for an amount out of range
abbrev pub converted : Route → ℤ → Result Conversion Refusal
converted route amount = cond (convertible amount) (bounded (exchanged route (unsigned_abs amount))) (Err (by_book 5 0))

-- 3 for equal currencies
abbrev pub route_of : Currency → Currency → Result Route Refusal
route_of Euro Euro = Err (by_book 3 0)
route_of Euro (Of j) = Ok (FromEuro j)
route_of (Of i) Euro = Ok (IntoEuro i)
route_of (Of i) (Of j) = cond ((table i).number == (table j).number) (Err (by_book 3 0)) (Ok (Between i j))

abbrev along : Result Route Refusal → ℤ → Result Conversion Refusal
along (Err refusal) amount = Err refusal
along (Ok route) amount = converted route amount

-- a conversion from one currency to another: refused 3, 5 or 9, in this order, or else carried out
abbrev pub converting : Currency → Currency → ℤ → Result Conversion Refusal
converting from to amount = along (route_of from to) amount
