-- A conversion that the book does not refuse, and the movement of its issue. Assumes nothing.
use Rattle.std.proofs.Common.{◌≡◌, ◌+◌, ◌<◌, true, [], ◌∷◌, length, Some, Ok, ◌∙◌}
use Rattle.std.proofs.lemmas.Bool.{lt-ltb}
use Rattle.money.specs.declared.conversion.Conversion.{Conversion}
use Rattle.money.specs.declared.conversion.Route.{Route}
use Rattle.money.specs.declared.currency.Currency.{Currency}
use Rattle.money.specs.declared.quantity.Minor.{Minor}
use Rattle.money.specs.Conversions.{booked, converted, route_of}
use Rattle.apportion.specs.Accounts.{named}
use Rattle.ledger.specs.declared.entry.Entry.{Entry}
use Rattle.ledger.specs.Entries.{EntryLegs}
use Rattle.ledger.specs.Held.{legs_of}
use Rattle.model.specs.declared.record.Record.{Record}
use Rattle.model.specs.declared.request.Exchange.{Exchange}
use Rattle.model.specs.Docket.{most_records, most_slips, record_of}
use Rattle.model.specs.Postings.{conversion_legs}
use Rattle.model.specs.State.{State}
use Rattle.model.specs.Step.{issues, currency_at, converts, converting}
use Rattle.postings.specs.Drafts.{entry_legs}
use Rattle.book.specs.Proposals.{entering}
use Rattle.book.proofs.Drawn.{drawn_whole}

module _ (s : State) (x : Exchange) (from to : Currency) (c : Conversion) where
  pub converting_passes : (route : Route) → s.fit ≡ true → currency_at x.source 0 ≡ Ok from → currency_at x.target 0 ≡ Ok to → route_of from to ≡ Ok route → named x.from ≡ true → named x.to ≡ true → converted route x.amount.0 ≡ Ok c → length s.docket < most_records → s.given < most_slips → converting s x ≡ Ok (converts s x from to c)
  converting_passes route fit source target joins a b done room left = rw (fit, source, target, joins, a, b, done, lt-ltb _ _ room, lt-ltb _ _ left)

  pub issue_converts : (b : Minor) (r : Record) (e : Entry) → b ≡ booked c → r ≡ record_of (s.given + 1) from to c → legs_of e ≡ entry_legs (conversion_legs x from to b r) → EntryLegs (conversion_legs x from to (booked c) (record_of (s.given + 1) from to c)) → entering (b, r.number) e (issues (r ∷ [])) ≡ converts s x from to c
  issue_converts b r e p q drawn is =
      let whole : legs_of e ≡ conversion_legs x from to (booked c) (record_of (s.given + 1) from to c) = drawn ∙ (λ i. entry_legs (conversion_legs x from to (p i) (q i))) ∙ drawn_whole _ is in
      λ i. record { answer = (p i, (q i).number); legs = Some (whole i); change = issues (q i ∷ []) }
