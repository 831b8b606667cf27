-- What a book does with each call: it refuses it, and nothing moves, or answers it and moves. Assumes nothing.
use Rattle.std.specs.Prelude.{ℕ, ◌+◌, Bool, cond, not, ◌&&◌, List, [], ◌∷◌, ◌++◌, length, ℤ, Some, None, Ok, Err, Option, Result, ◌==◌, nat_le, nat_lt, unsigned_abs}
use Rattle.register.specs.Register.{Refusal, by_book}
use Rattle.money.specs.declared.conversion.Conversion.{Conversion}
use Rattle.money.specs.declared.currency.Currency.{Currency}
use Rattle.money.specs.declared.quantity.Minor.{Minor}
use Rattle.money.specs.Conversions.{most_amount, booked, converted, route_of}
use Rattle.money.specs.Table.{number_of, numbered, currencies, first_that}
use Rattle.ledger.specs.declared.column.FractionColumn.{FractionColumn}
use Rattle.ledger.specs.declared.leg.Leg.{Leg}
use Rattle.ledger.specs.Columns.{fraction_numbered}
use Rattle.ledger.specs.Entries.{most_legs, is_zero}
use Rattle.ledger.specs.Legs.{leg, column_sum}
use Rattle.ledger.specs.Meaning.{Meaning, entered, verdict}
use Rattle.apportion.specs.declared.fraction.Fraction.{Fraction}
use Rattle.apportion.specs.declared.share.Share.{Share}
use Rattle.apportion.specs.Accounts.{named}
use Rattle.apportion.specs.Refusals as apportion
use Rattle.apportion.specs.Splits.{portions, fractions}
use Rattle.apportion.specs.Ties.{Tie}
use Rattle.model.specs.declared.record.Record.{Record}
use Rattle.model.specs.declared.record.Standing.{Standing}
use Rattle.model.specs.declared.record.Standing.TheVariants.{Out, Parked}
use Rattle.model.specs.declared.request.Division.{Division}
use Rattle.model.specs.declared.request.Exchange.{Exchange}
use Rattle.model.specs.declared.request.Posting.{Posting}
use Rattle.model.specs.Calls.{Question, cell, room, kind, fit, mark, given, records, audit, Answer, Call, post, convert, split, carry, park, take_up, sweep, ask, Reply}
use Rattle.model.specs.Docket.{most_records, most_slips, is_out, found, without, restated, record_of}
use Rattle.model.specs.Postings.{conversion_legs, carry_legs, split_legs, sweepable, sweep_legs}
use Rattle.model.specs.Results.{and_then, unless, present}
use Rattle.model.specs.State.{State}

-- What an accepted call does to the docket: nothing; it adds records; it puts one into another standing; or it strikes
-- one, whose residues go to an account.
pub data Change : Type 0 where
  unchanged : Change
  issues : List Record → Change
  restates : (number : ℕ) → Standing → Change
  strikes : (number account : ℕ) → Change

-- the docket after a change
abbrev pub docket_after : List Record → Change → List Record
docket_after d unchanged = d
docket_after d (issues rs) = d ++ rs
docket_after d (restates n t) = restated n t d
docket_after d (strikes n a) = without n d

-- how many slips are given after a change
abbrev pub given_after : ℕ → Change → ℕ
given_after g unchanged = g
given_after g (issues rs) = g + length rs
given_after g (restates n t) = g
given_after g (strikes n a) = g

-- What a call that the book does not refuse would answer and do: the legs that it puts to the ledger, if any, and the
-- docket's change.
pub record Movement (A : Type 0) : Type 0 where
  pub answer : A
  pub legs : Option (List Leg)
  pub change : Change

-- an answer, with which nothing moves
abbrev pub still : {A : Type 0} → A → Movement A
still x = record { answer = x; legs = None; change = unchanged }

-- ---- refusals that several calls share

-- 1 for a book that is not fit
abbrev pub fitness : State → Result (Unit {0}) Refusal
fitness s = unless s.fit 1 0

-- 2 for a number that is no currency's
abbrev pub currency_at : ℕ → ℕ → Result Currency Refusal
currency_at n place = present (numbered n) 2 place

-- 4 for an account that is not named
abbrev pub account_at : ℕ → ℕ → Result (Unit {0}) Refusal
account_at a place = unless (named a) 4 place

-- ---- posting

-- an amount from 1 to T, either way
abbrev pub postable : ℤ → Bool
postable z = nat_le 1 (unsigned_abs z) && nat_le (unsigned_abs z) most_amount

-- a leg of a post: 4, 2 or 5 at its place
abbrev pub posted_leg : ℕ → Posting → Result Leg Refusal
posted_leg place p =
    and_then (account_at p.account place) (λ _.
    and_then (currency_at p.currency place) (λ c.
    and_then (unless (postable p.amount.0) 5 place) (λ _.
    Ok (leg p.account (number_of c) p.amount.0))))

-- the legs of a post in turn, the first at a place
abbrev pub posted_legs : ℕ → List Posting → Result (List Leg) Refusal
posted_legs place [] = Ok []
posted_legs place (p ∷ ps) =
    and_then (posted_leg place p) (λ l.
    and_then (posted_legs (place + 1) ps) (λ ls.
    Ok (l ∷ ls)))

-- the least legs of a post
abbrev pub least_legs : ℕ
least_legs = 2

-- the lowest currency that does not sum to zero
abbrev pub unbalanced : List Leg → Option Currency
unbalanced ls = first_that (λ c. not (is_zero (column_sum ls (number_of c)))) currencies

-- 7, with the currency's number for the place
abbrev pub balance : Option Currency → Result (Unit {0}) Refusal
balance None = Ok tt
balance (Some c) = Err (by_book 7 (number_of c))

-- 1, 6, each leg 4, 2, 5, then 7
abbrev pub posting : State → List Posting → Result (Movement (Unit {0})) Refusal
posting s ps =
    and_then (fitness s) (λ _.
    and_then (unless (nat_le least_legs (length ps) && nat_le (length ps) most_legs) 6 0) (λ _.
    and_then (posted_legs 1 ps) (λ ls.
    and_then (balance (unbalanced ls)) (λ _.
    Ok (record { answer = tt; legs = Some ls; change = unchanged })))))

-- ---- converting

-- the movement of a conversion: its record is numbered one more than the slips given
abbrev pub converts : State → Exchange → Currency → Currency → Conversion → Movement (Minor × ℕ)
converts s x from to c = record {
  answer = (booked c, s.given + 1);
  legs = Some (conversion_legs x from to (booked c) (record_of (s.given + 1) from to c));
  change = issues (record_of (s.given + 1) from to c ∷ []);
}

-- 1, 2, 3, 4, 5, 9, 10, 11
abbrev pub converting : State → Exchange → Result (Movement (Minor × ℕ)) Refusal
converting s x =
    and_then (fitness s) (λ _.
    and_then (currency_at x.source 0) (λ from.
    and_then (currency_at x.target 0) (λ to.
    and_then (route_of from to) (λ route.
    and_then (account_at x.from 0) (λ _.
    and_then (account_at x.to 0) (λ _.
    and_then (converted route x.amount.0) (λ c.
    and_then (unless (nat_lt (length s.docket) most_records) 10 0) (λ _.
    and_then (unless (nat_lt s.given most_slips) 11 0) (λ _.
    Ok (converts s x from to c))))))))))

-- ---- splitting

-- the movement of a split
abbrev pub splits : Tie → Division → Currency → List Share → Movement (List Minor × List Fraction)
splits tie d c shares = record {
  answer = (portions tie (unsigned_abs d.amount.0) shares, fractions tie (unsigned_abs d.amount.0) shares);
  legs = Some (split_legs d c shares (portions tie (unsigned_abs d.amount.0) shares));
  change = unchanged;
}

-- 1, 2, 4, then the refusals of the apportionment
abbrev pub splitting : State → Tie → Division → List Share → ℕ → ℕ → Result (Movement (List Minor × List Fraction)) Refusal
splitting s tie d shares m n =
    and_then (fitness s) (λ _.
    and_then (currency_at d.currency 0) (λ c.
    and_then (account_at d.account 0) (λ _.
    and_then (apportion.verdict d.amount.0 shares m n) (λ _.
    Ok (splits tie d c shares)))))

-- ---- slips

-- the record, if its slip is out
abbrev pub if_out : Option Record → Option Record
if_out None = None
if_out (Some r) = cond (is_out r.standing) (Some r) None

-- the record of a slip that is this book's: the mark agrees, and the number is on the docket as out
abbrev pub slip_record : State → ℕ → ℕ → Option Record
slip_record s m n = cond (m == s.mark) (if_out (found n s.docket)) None

-- 1, 12, 4
abbrev pub carrying : State → ℕ → ℕ → ℕ → Result (Movement (Unit {0})) Refusal
carrying s m n account =
    and_then (fitness s) (λ _.
    and_then (present (slip_record s m n) 12 0) (λ r.
    and_then (account_at account 0) (λ _.
    Ok (record { answer = tt; legs = Some (carry_legs r account); change = strikes n account }))))

-- never refused: the number, and the record is parked; 0, and nothing moves, if the slip is not this book's
abbrev pub parking : ℕ → Option Record → Movement ℕ
parking n None = still 0
parking n (Some r) = record { answer = n; legs = None; change = restates n Parked }

-- 1, 13, 14
abbrev pub taking_up : State → ℕ → Result (Movement ℕ) Refusal
taking_up s n =
    and_then (fitness s) (λ _.
    and_then (present (found n s.docket) 13 0) (λ r.
    and_then (unless (not (is_out r.standing)) 14 0) (λ _.
    Ok (record { answer = n; legs = None; change = restates n Out }))))

-- ---- sweeping

-- the movement of a sweep of q minor units
abbrev pub sweeps : ℕ → FractionColumn → ℤ → Movement Minor
sweeps account f q = record { answer = record { 0 = q }; legs = Some (sweep_legs account f q); change = unchanged }

-- 1, 4, 16, 15
abbrev pub sweeping : State → ℕ → ℕ → Result (Movement Minor) Refusal
sweeping s account k =
    and_then (fitness s) (λ _.
    and_then (account_at account 0) (λ _.
    and_then (present (fraction_numbered k) 16 0) (λ f.
    and_then (unless (not (is_zero (sweepable f (s.ledger.cell account k)))) 15 0) (λ _.
    Ok (sweeps account f (sweepable f (s.ledger.cell account k)))))))

-- ---- questions

-- each answers the state's own value
abbrev pub asked : State → (q : Question) → Answer q
asked s (cell a k) = s.ledger.cell a k
asked s room = s.ledger.room
asked s kind = s.kind
asked s fit = s.fit
asked s mark = s.mark
asked s given = s.given
asked s records = s.docket
asked s audit = record { kind = s.kind; room = s.ledger.room; records = length s.docket }

-- ---- one call

-- the book's refusal of a call, or what it would answer and do
abbrev pub movement : State → (c : Call) → Result (Movement (Reply c)) Refusal
movement s (post ps) = posting s ps
movement s (convert x) = converting s x
movement s (split tie law d shares m n) = splitting s tie d shares m n
movement s (carry m n a) = carrying s m n a
movement s (park m n) = Ok (parking n (slip_record s m n))
movement s (take_up n) = taking_up s n
movement s (sweep a k) = sweeping s a k
movement s (ask q) = Ok (still (asked s q))

-- the ledger's answer to the legs, if there are any
abbrev pub ledger_verdict : Meaning → Option (List Leg) → Result (Unit {0}) Refusal
ledger_verdict m None = Ok tt
ledger_verdict m (Some ls) = verdict m ls

-- the ledger with the legs, if there are any
abbrev pub ledger_after : Meaning → Option (List Leg) → Meaning
ledger_after m None = m
ledger_after m (Some ls) = entered m ls

-- the state after a movement
abbrev pub moved : {A : Type 0} → State → Movement A → State
moved s v = record {
  ledger = ledger_after s.ledger v.legs;
  kind = s.kind;
  fit = s.fit;
  mark = s.mark;
  given = given_after s.given v.change;
  docket = docket_after s.docket v.change;
}

-- the movement is made if the ledger takes its legs; a refusal leaves the state itself
abbrev pub settled : {A : Type 0} → State → Movement A → Result (Unit {0}) Refusal → Result A Refusal × State
settled s v (Ok taken) = (Ok v.answer, moved s v)
settled s v (Err refusal) = (Err refusal, s)

-- the book's refusal stands before the ledger's
abbrev pub performed : {A : Type 0} → State → Result (Movement A) Refusal → Result A Refusal × State
performed s (Ok v) = settled s v (ledger_verdict s.ledger v.legs)
performed s (Err refusal) = (Err refusal, s)

-- one call: what it answers, and the state that it leaves
abbrev pub step : State → (c : Call) → Result (Reply c) Refusal × State
step s c = performed s (movement s c)
