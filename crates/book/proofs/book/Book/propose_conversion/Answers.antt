-- The entry has the legs of the conversion, and the docket takes its record. Assumes nothing.
use Rattle.std.proofs.Common.{◌+◌, ◌<◌, length, Ok, sym, ap, ◌∙◌, subst, arith}
use Rattle.docket.specs.Records.{Bounded}
use Rattle.model.specs.Docket.{most_records}
use Rattle.postings.proofs.Valid.{conversion_entry}
use Rattle.book.specs.View.{state_of}
use Rattle.book.proofs.Admitted.{fit_passes, named_passes}
use Rattle.book.proofs.Conversions.{converting_passes, issue_converts}
use Rattle.book.proofs.Drawn.{record_bounded}
use Rattle.book.proofs.book.Book.propose_conversion.Goals as goal

pub returns : goal.returns
returns g c =
    let x = c.args.exchange in
    let from = c.in_ok-from.from in
    let to = c.in_ok-to.to in
    let done = c.in_ok-conversion.conversion in
    let n = c.args.self.now.given + 1 in
    let converts = sym c.in_ok-conversion.ensures.value in
    let joins = sym c.in_ok-route.ensures.value in
    let named_from = named_passes x.from c.in_ok-check_named.ensures in
    let named_to = named_passes x.to c.in_ok-check_named-2.ensures in
    let is = conversion_entry x from to c.in_ok-route.route done n named_from named_to converts in
    let s = state_of g.L.Balances c.args.self.now in
    let room : length s.docket < most_records = omega (arith, c.len.ensures) in
    record {
      value =
          ap Ok (issue_converts s x from to done c.booked-booked.result c.record_of-docketed.result c.conversion_entry-entry.result c.booked-booked.ensures c.record_of-docketed.ensures c.conversion_entry-entry.ensures is)
          ∙ sym (converting_passes s x from to done c.in_ok-route.route (fit_passes s c.in_ok-check_fit.ensures) (sym c.in_ok-from.ensures) (sym c.in_ok-to.ensures) joins named_from named_to converts room c.if-self-ge-MOST_SLIPS.false);
      issuable = record {
        number = ap (λ r. r.number) c.record_of-docketed.ensures;
        residues = subst Bounded (sym c.record_of-docketed.ensures) (record_bounded c.in_ok-route.route x.amount.0 from to done n converts);
        room = room;
      };
    }
