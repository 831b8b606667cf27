-- The ledger took the entry, and the docket takes the record. Assumes nothing.
use Rattle.std.proofs.Common.{◌≡◌, [], ◌∷◌, ◌++◌, ap, ◌∙◌, rules}
use Rattle.docket.specs.Held.{records_of}
use Rattle.docket.proofs.Appending.{appended_one}
use Rattle.book.proofs.book.Book.issue.Goals as goal

pub returns : goal.returns
returns g c =
    let r = c.in_ok-booked.field-0.docketed in
    let fits = c.in_ok-booked.ensures.issuable in
    let number = fits.number in
    let docket : records_of c.append.new.self ≡ records_of c.args.self.now.docket ++ r ∷ [] = ap (λ p. p.1) (c.append.ensures.value ∙ appended_one _ r fits.room fits.residues) in
    search rules
