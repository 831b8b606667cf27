-- What calls and their answers, told from the latest back, say of slips, exact amounts and cells. Assumes nothing.
use Rattle.std.specs.Prelude.{ℕ, zero, suc, ◌+◌, ◌*◌, cond, ◌≢◌, List, [], ◌∷◌, ◌++◌, length, ℤ, pos, ◌+ℤ◌, ◌-ℤ◌, ◌*ℤ◌, neg_ℤ, Some, None, Ok, Err, Option, Result, ◌==◌, unsigned_abs}
use Rattle.register.specs.Register.{Refusal}
use Rattle.money.specs.declared.currency.Currency.{Currency}
use Rattle.money.specs.declared.currency.Currency.TheVariants.{Euro, National as Of}
use Rattle.money.specs.declared.currency.National.{National}
use Rattle.money.specs.declared.quantity.Minor.{Minor}
use Rattle.money.specs.Conversions.{exact_from, exact_into, mills_from, mills_of_cents}
use Rattle.money.specs.Table.{table, rate, parts, number_of, numbered}
use Rattle.ledger.specs.declared.column.FractionColumn.{FractionColumn}
use Rattle.ledger.specs.declared.leg.Leg.{Leg}
use Rattle.ledger.specs.Columns.{whole_parts, currency_of, fraction_numbered}
use Rattle.ledger.specs.Legs.{leg, rise}
use Rattle.apportion.specs.declared.share.Share.{Share}
use Rattle.model.specs.declared.record.Record.{Record}
use Rattle.model.specs.declared.record.Standing.{Standing}
use Rattle.model.specs.declared.record.Standing.TheVariants.{Out, Parked}
use Rattle.model.specs.declared.request.Exchange.{Exchange}
use Rattle.model.specs.declared.request.Posting.{Posting}
use Rattle.model.specs.Calls.{Call, post, convert, split, carry, park, take_up, sweep, ask, Reply}
use Rattle.model.specs.State.{State, exchange_account, docket_account}
use Rattle.model.specs.Step.{step}

-- a call with its answer
pub data Event : Type 0 where
  event : (c : Call) → Result (Reply c) Refusal → Event

-- the state after calls, told from the latest back
unfoldable pub after : State → List Call → State
after s [] = s
after s (c ∷ cs) = (step (after s cs) c).1

-- the calls with their answers
unfoldable pub events : State → List Call → List Event
events s [] = []
events s (c ∷ cs) = event c (step (after s cs) c).0 ∷ events s cs

-- ---- the numbers of slips

-- what an accepted call says of a number: a conversion gives it, a parking answers it, a take-up answers it, a carry
-- takes it to an account; or it speaks of none
pub data Mention : Type 0 where
  none : Mention
  gives : (number : ℕ) → Mention
  parks : (number : ℕ) → Mention
  retakes : (number : ℕ) → Mention
  carries : (number account : ℕ) → Mention

-- a parking that answers 0 speaks of no number
abbrev pub parking_of : ℕ → Mention
parking_of zero = none
parking_of (suc n) = parks (suc n)

-- what an accepted call says of a number, by its answer
abbrev pub mention : (c : Call) → Reply c → Mention
mention (post ps) r = none
mention (convert x) r = gives r.1
mention (split tie law d shares m n) r = none
mention (carry m n a) r = carries n a
mention (park m n) r = parking_of r
mention (take_up n) r = retakes r
mention (sweep a k) r = none
mention (ask q) r = none

-- what became of a number: never given, on the docket, or carried to an account
pub data Status : Type 0 where
  never : Status
  held : Standing → Status
  carried : (account : ℕ) → Status

-- a number that is given is out, one that is parked parked, one taken up out again, one carried carried to the account
abbrev pub becomes : Mention → ℕ → Status → Status
becomes none n t = t
becomes (gives k) n t = cond (k == n) (held Out) t
becomes (parks k) n t = cond (k == n) (held Parked) t
becomes (retakes k) n t = cond (k == n) (held Out) t
becomes (carries k a) n t = cond (k == n) (carried a) t

-- what became of a number in a history
unfoldable pub status : List Event → ℕ → Status
status [] n = never
status (event c (Ok r) ∷ h) n = becomes (mention c r) n (status h n)
status (event c (Err f) ∷ h) n = status h n

-- the number that a call gives
abbrev pub given_by : Mention → List ℕ
given_by none = []
given_by (gives k) = k ∷ []
given_by (parks k) = []
given_by (retakes k) = []
given_by (carries k a) = []

-- the numbers given, in order
unfoldable pub numbers_given : List Event → List ℕ
numbers_given [] = []
numbers_given (event c (Ok r) ∷ h) = numbers_given h ++ given_by (mention c r)
numbers_given (event c (Err f) ∷ h) = numbers_given h

-- the account to which a call carries the number n
abbrev pub carried_by : Mention → ℕ → List ℕ
carried_by none n = []
carried_by (gives k) n = []
carried_by (parks k) n = []
carried_by (retakes k) n = []
carried_by (carries k a) n = cond (k == n) (a ∷ []) []

-- the accounts to which a number was carried, in order
unfoldable pub carries_of : List Event → ℕ → List ℕ
carries_of [] n = []
carries_of (event c (Ok r) ∷ h) n = carries_of h n ++ carried_by (mention c r) n
carries_of (event c (Err f) ∷ h) n = carries_of h n

-- the account of a status that is carried
abbrev pub account_of : Status → List ℕ
account_of never = []
account_of (held t) = []
account_of (carried a) = a ∷ []

-- another number is spoken of, or none
abbrev pub Elsewhere : Mention → ℕ → Type 0
Elsewhere none n = Unit {0}
Elsewhere (gives k) n = k ≢ n
Elsewhere (parks k) n = k ≢ n
Elsewhere (retakes k) n = k ≢ n
Elsewhere (carries k a) n = k ≢ n

-- the call is refused, or speaks of another number or none
abbrev pub Unconcerned : ℕ → Event → Type 0
Unconcerned n (event c (Ok r)) = Elsewhere (mention c r) n
Unconcerned n (event c (Err f)) = Unit {0}

-- ---- exact amounts

-- the currency of a number; an accepted call names one
abbrev pub currency_in : Option Currency → Currency
currency_in None = Euro
currency_in (Some c) = c

-- the currency that is converted
abbrev pub source_of : Exchange → Currency
source_of x = currency_in (numbered x.source)

-- the currency that it is converted to
abbrev pub target_of : Exchange → Currency
target_of x = currency_in (numbered x.target)

-- the amount that is converted
abbrev pub amount_of : Exchange → ℕ
amount_of x = unsigned_abs x.amount.0

-- m: the mills on the way into a national currency
abbrev pub mills_of : Currency → ℕ → ℕ
mills_of Euro amount = mills_of_cents amount
mills_of (Of i) amount = mills_from i amount

-- what M has above the cents booked, or above the mills passed on
abbrev pub euro_residue : Currency → Currency → ℕ → ℤ → ℤ
euro_residue Euro to amount b = pos 0
euro_residue (Of i) Euro amount b = pos (exact_from i amount) -ℤ pos (10 * rate i) *ℤ b
euro_residue (Of i) (Of j) amount b = pos (exact_from i amount) -ℤ pos (rate i * mills_from i amount)

-- what N has above the units booked
abbrev pub national_residue : Currency → Currency → ℕ → ℤ → ℤ
national_residue from Euro amount b = pos 0
national_residue from (Of j) amount b = pos (exact_into j (mills_of from amount)) -ℤ pos (parts j) *ℤ b

-- with what a number was given: the currencies, and both residues, 0 where absent
pub record Origin : Type 0 where
  pub from : Currency
  pub to : Currency
  pub euro : ℤ
  pub national : ℤ

-- with what a conversion that books b gives its number
abbrev pub origin_of : Exchange → ℤ → Origin
origin_of x b = record {
  from = source_of x;
  to = target_of x;
  euro = euro_residue (source_of x) (target_of x) (amount_of x) b;
  national = national_residue (source_of x) (target_of x) (amount_of x) b;
}

-- with what the number n was given, by a call and its answer or else as before
abbrev pub origin_by : (c : Call) → Reply c → ℕ → Origin → Origin
origin_by (post ps) r n w = w
origin_by (convert x) r n w = cond (r.1 == n) (origin_of x r.0.0) w
origin_by (split tie law d shares j k) r n w = w
origin_by (carry m k a) r n w = w
origin_by (park m k) r n w = w
origin_by (take_up k) r n w = w
origin_by (sweep a k) r n w = w
origin_by (ask q) r n w = w

-- with what a number was given in a history
unfoldable pub origin : List Event → ℕ → Origin
origin [] n = record { from = Euro; to = Euro; euro = pos 0; national = pos 0 }
origin (event c (Ok r) ∷ h) n = origin_by c r n (origin h n)
origin (event c (Err f) ∷ h) n = origin h n

-- ---- the docket that the numbers make: those given and not carried, each once, by rising number

-- the record of a number that is given and not carried
abbrev pub record_for : Status → ℕ → Origin → List Record
record_for never n w = []
record_for (held t) n w =
    record { number = n; from = w.from; to = w.to; euro = record { 0 = w.euro }; national = record { 0 = w.national }; standing = t } ∷ []
record_for (carried a) n w = []

-- those of the numbers 1 to n
unfoldable pub not_carried : (ℕ → Status) → (ℕ → Origin) → ℕ → List Record
not_carried t w zero = []
not_carried t w (suc n) = not_carried t w n ++ record_for (t (suc n)) (suc n) (w (suc n))

-- ---- residues in the fraction columns

-- a residue of a currency, of those whose columns follow column `base`
abbrev pub residue_at : ℕ → Currency → ℤ → ℕ → ℤ
residue_at base Euro z k = pos 0
residue_at base (Of i) z k = cond (base + (table i).number == k) z (pos 0)

-- the residues of an origin in column k: 11 + i is the euro fraction of i, 22 + j the national fraction of j
abbrev pub residue_in : Origin → ℕ → ℤ
residue_in w k = residue_at 11 w.from w.euro k +ℤ residue_at 22 w.to w.national k

-- what a number has in the docket account: its residues unless it is carried
abbrev pub held_in : Status → Origin → ℕ → ℤ
held_in never w k = pos 0
held_in (held t) w k = residue_in w k
held_in (carried a) w k = pos 0

-- ---- legs

-- a residue of a currency leaves account p and goes to account q, in its column after `base`
abbrev pub residue_legs : ℕ → ℕ → ℕ → Currency → ℤ → List Leg
residue_legs p q base Euro z = []
residue_legs p q base (Of i) z = leg p (base + (table i).number) (neg_ℤ z) ∷ leg q (base + (table i).number) z ∷ []

-- each residue leaves account p and goes to account q, euro first
abbrev pub origin_legs : ℕ → ℕ → Origin → List Leg
origin_legs p q w = residue_legs p q 11 w.from w.euro ++ residue_legs p q 22 w.to w.national

-- a post's legs are as given
abbrev pub post_legs : List Posting → List Leg
post_legs [] = []
post_legs (p ∷ ps) = leg p.account p.currency p.amount.0 ∷ post_legs ps

-- each share gets its portion, in list order
abbrev pub share_legs : ℕ → List Share → List Minor → List Leg
share_legs k [] given = []
share_legs k (s ∷ shares) [] = []
share_legs k (s ∷ shares) (b ∷ given) = leg s.account k b.0 ∷ share_legs k shares given

-- the account gets q units of the column's currency and gives their parts; the exchange account the other way
abbrev pub swept_legs : ℕ → ℕ → ℤ → Option FractionColumn → List Leg
swept_legs a k q None = []
swept_legs a k q (Some f) =
    leg a (number_of (currency_of f)) q
    ∷ leg exchange_account (number_of (currency_of f)) (neg_ℤ q)
    ∷ leg a k (neg_ℤ (q *ℤ pos (whole_parts f)))
    ∷ leg exchange_account k (q *ℤ pos (whole_parts f))
    ∷ []

-- the legs of an accepted call by what it answered, where w says with what each number was given
abbrev pub legs_by : (ℕ → Origin) → (c : Call) → Reply c → List Leg
legs_by w (post ps) r = post_legs ps
legs_by w (convert x) r =
    leg x.from x.source (neg_ℤ x.amount.0)
    ∷ leg exchange_account x.source x.amount.0
    ∷ leg exchange_account x.target (neg_ℤ r.0.0)
    ∷ leg x.to x.target r.0.0
    ∷ origin_legs exchange_account docket_account (origin_of x r.0.0)
legs_by w (split tie law d shares m n) r =
    leg d.account d.currency (neg_ℤ d.amount.0) ∷ share_legs d.currency shares r.0
legs_by w (carry m n a) r = origin_legs docket_account a (w n)
legs_by w (park m n) r = []
legs_by w (take_up n) r = []
legs_by w (sweep a k) q = swept_legs a k q.0 (fraction_numbered k)
legs_by w (ask q) r = []

-- what the legs of all accepted calls add to a cell
unfoldable pub risen : List Event → ℕ → ℕ → ℤ
risen [] a k = pos 0
risen (event c (Ok r) ∷ h) a k = rise (legs_by (origin h) c r) a k +ℤ risen h a k
risen (event c (Err f) ∷ h) a k = risen h a k

-- how many legs all accepted calls have
unfoldable pub legs_taken : List Event → ℕ
legs_taken [] = 0
legs_taken (event c (Ok r) ∷ h) = length (legs_by (origin h) c r) + legs_taken h
legs_taken (event c (Err f) ∷ h) = legs_taken h

-- ---- sums over accepted calls

-- the sum over accepted calls
unfoldable pub tally : ((c : Call) → Reply c → ℤ) → List Event → ℤ
tally f [] = pos 0
tally f (event c (Ok r) ∷ h) = f c r +ℤ tally f h
tally f (event c (Err e) ∷ h) = tally f h

-- of a conversion, v of its currencies, its amount and what it answered as booked; of any other call 0
abbrev pub of_conversions : (Currency → Currency → ℕ → ℤ → ℤ) → (c : Call) → Reply c → ℤ
of_conversions v (post ps) r = pos 0
of_conversions v (convert x) r = v (source_of x) (target_of x) (amount_of x) r.0.0
of_conversions v (split tie law d shares m n) r = pos 0
of_conversions v (carry m n a) r = pos 0
of_conversions v (park m n) r = pos 0
of_conversions v (take_up n) r = pos 0
of_conversions v (sweep a k) r = pos 0
of_conversions v (ask q) r = pos 0

-- z if the two are one currency, else 0
abbrev pub if_same : National → National → ℤ → ℤ
if_same i k z = cond ((table k).number == (table i).number) z (pos 0)

-- M, of a conversion from i
abbrev pub exact_out : National → Currency → Currency → ℕ → ℤ → ℤ
exact_out i Euro to amount b = pos 0
exact_out i (Of k) to amount b = if_same i k (pos (exact_from k amount))

-- the cents booked, of a conversion from i into the euro
abbrev pub cents_booked : National → Currency → Currency → ℕ → ℤ → ℤ
cents_booked i Euro to amount b = pos 0
cents_booked i (Of k) Euro amount b = if_same i k b
cents_booked i (Of k) (Of j) amount b = pos 0

-- the mills passed on, of a conversion from i into another national currency
abbrev pub mills_passed : National → Currency → Currency → ℕ → ℤ → ℤ
mills_passed i Euro to amount b = pos 0
mills_passed i (Of k) Euro amount b = pos 0
mills_passed i (Of k) (Of j) amount b = if_same i k (pos (mills_from k amount))

-- N, of a conversion into j
abbrev pub exact_in : National → Currency → Currency → ℕ → ℤ → ℤ
exact_in j from Euro amount b = pos 0
exact_in j from (Of k) amount b = if_same j k (pos (exact_into k (mills_of from amount)))

-- the units booked, of a conversion into j
abbrev pub units_booked : National → Currency → Currency → ℕ → ℤ → ℤ
units_booked j from Euro amount b = pos 0
units_booked j from (Of k) amount b = if_same j k b

-- q, of a sweep of column k
abbrev pub swept_from : ℕ → (c : Call) → Reply c → ℤ
swept_from k (post ps) r = pos 0
swept_from k (convert x) r = pos 0
swept_from k (split tie law d shares m n) r = pos 0
swept_from k (carry m n a) r = pos 0
swept_from k (park m n) r = pos 0
swept_from k (take_up n) r = pos 0
swept_from k (sweep a l) q = cond (l == k) q.0 (pos 0)
swept_from k (ask q) r = pos 0
