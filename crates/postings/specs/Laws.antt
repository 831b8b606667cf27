-- What the calls that a book accepts put to its ledger: an entry, always. Assumes nothing.
use Rattle.std.specs.Prelude.{◌≡◌, ℕ, ◌≤◌, true, List, ℤ, Ok, unsigned_abs}
use Rattle.money.specs.declared.conversion.Conversion.{Conversion}
use Rattle.money.specs.declared.conversion.Route.{Route}
use Rattle.money.specs.declared.currency.Currency.{Currency}
use Rattle.money.specs.Conversions.{most_amount, booked, converted}
use Rattle.ledger.specs.declared.column.FractionColumn.{FractionColumn}
use Rattle.ledger.specs.declared.leg.Leg.{Leg}
use Rattle.ledger.specs.Entries.{EntryLegs, most_account}
use Rattle.apportion.specs.declared.share.Share.{Share}
use Rattle.apportion.specs.Accounts.{named}
use Rattle.apportion.specs.Refusals.{verdict}
use Rattle.apportion.specs.Splits.{portions}
use Rattle.apportion.specs.Ties.{Tie, Lawful}
use Rattle.model.specs.declared.record.Record.{Record}
use Rattle.model.specs.declared.request.Division.{Division}
use Rattle.model.specs.declared.request.Exchange.{Exchange}
use Rattle.model.specs.declared.request.Posting.{Posting}
use Rattle.model.specs.Docket.{record_of}
use Rattle.model.specs.Postings.{conversion_legs, carry_legs, split_legs, sweep_legs, most_swept}
use Rattle.postings.specs.Posts.{posted}

-- Both residues of a record are at most T, either way.
pub record SmallResidues (r : Record) : Type 0 where
  pub euro : unsigned_abs r.euro.0 ≤ most_amount
  pub national : unsigned_abs r.national.0 ≤ most_amount

-- The legs of every accepted call are at most 16, each in range, and sum to zero in every column.
pub record CallsMakeEntries : Type 0 where
  -- a conversion that is carried out, between named accounts
  pub conversion : (x : Exchange) (from to : Currency) (route : Route) (c : Conversion) (number : ℕ)
      → named x.from ≡ true → named x.to ≡ true → converted route x.amount.0 ≡ Ok c
      → EntryLegs (conversion_legs x from to (booked c) (record_of number from to c))
  -- the record that it makes has small residues
  pub records : (route : Route) (amount : ℤ) (c : Conversion) (number : ℕ) (from to : Currency)
      → converted route amount ≡ Ok c → SmallResidues (record_of number from to c)
  -- a carry of such a record to an account of the ledger
  pub carry : (r : Record) (account : ℕ) → SmallResidues r → account ≤ most_account → EntryLegs (carry_legs r account)
  -- a sweep of at most 1,000 minor units either way
  pub sweep : (account : ℕ) (f : FractionColumn) (q : ℤ) → account ≤ most_account → unsigned_abs q ≤ most_swept → EntryLegs (sweep_legs account f q)
  -- a split from a named account
  pub split : (tie : Tie) → Lawful tie → (d : Division) (c : Currency) (shares : List Share) (m n : ℕ)
      → named d.account ≡ true → verdict d.amount.0 shares m n ≡ Ok tt
      → EntryLegs (split_legs d c shares (portions tie (unsigned_abs d.amount.0) shares))
  -- a post
  pub post : (ps : List Posting) (ls : List Leg) → posted ps ≡ Ok ls → EntryLegs ls
