-- The legs of the calls are drawn up whole, since they make entries. Assumes nothing.
use Rattle.std.proofs.Common.{◌≡◌, ℕ, true, List, ℤ, Ok}
use Rattle.std.proofs.lemmas.Bool.{cond-true}
use Rattle.money.specs.declared.conversion.Conversion.{Conversion}
use Rattle.money.specs.declared.conversion.Route.{Route}
use Rattle.money.specs.declared.currency.Currency.{Currency}
use Rattle.money.specs.Conversions.{converted}
use Rattle.ledger.specs.declared.column.FractionColumn.{FractionColumn}
use Rattle.ledger.specs.declared.leg.Leg.{Leg}
use Rattle.ledger.specs.Entries.{EntryLegs}
use Rattle.ledger.proofs.Entries.{legs_entry}
use Rattle.apportion.specs.Accounts.{named}
use Rattle.docket.specs.Records.{Bounded}
use Rattle.model.specs.declared.record.Record.{Record}
use Rattle.model.specs.Docket.{record_of}
use Rattle.model.specs.Postings.{carry_legs, sweep_legs}
use Rattle.postings.specs.Drafts.{entry_legs}
use Rattle.postings.specs.Sweeps.{Swept}
use Rattle.postings.proofs.Valid.{carry_entry, named_within, record_small, sweep_entry}

-- legs that make an entry are drawn up whole
pub drawn_whole : (ls : List Leg) → EntryLegs ls → entry_legs ls ≡ ls
drawn_whole ls h = cond-true _ _ _ (legs_entry ls h)

pub carry_whole : (r : Record) (a : ℕ) → Bounded r → named a ≡ true → entry_legs (carry_legs r a) ≡ carry_legs r a
carry_whole r a b h = drawn_whole _ (carry_entry r a (record { euro = b.euro; national = b.national }) (named_within a h))

pub sweep_whole : (a : ℕ) (f : FractionColumn) (t q : ℤ) → Swept f t q → named a ≡ true → entry_legs (sweep_legs a f q) ≡ sweep_legs a f q
sweep_whole a f t q s h = drawn_whole _ (sweep_entry a f q (named_within a h) s.most)

pub record_bounded : (route : Route) (z : ℤ) (from to : Currency) (c : Conversion) (n : ℕ) → converted route z ≡ Ok c → Bounded (record_of n from to c)
record_bounded route z from to c n h = let s = record_small route z c n from to h in record { euro = s.euro; national = s.national }
