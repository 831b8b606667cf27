-- The entry has the legs of the carry. Assumes nothing.
use Rattle.std.proofs.Common.{◌≡◌, ◌∙◌, rules}
use Rattle.ledger.specs.Held.{legs_of}
use Rattle.docket.specs.Records.{Bounded}
use Rattle.model.specs.Postings.{carry_legs}
use Rattle.book.proofs.Admitted.{named_passes, found_passes}
use Rattle.book.proofs.Drawn.{carry_whole}
use Rattle.book.proofs.book.Book.propose_carry.Goals as goal

pub returns : goal.returns
returns g c =
    let r = c.in_ok-docketed.docketed in
    let bounded : Bounded r = found_passes Bounded c.slip_record.result _ r c.in_ok-docketed.ensures.value c.slip_record.ensures.bounded in
    let whole : legs_of c.carry_entry.result ≡ carry_legs r c.args.account = c.carry_entry.ensures ∙ carry_whole r c.args.account bounded (named_passes c.args.account c.in_ok-check_named.ensures) in
    search rules
