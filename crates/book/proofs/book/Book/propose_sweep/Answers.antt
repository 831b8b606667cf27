-- The entry has the legs of the sweep. Assumes nothing.
use Rattle.std.proofs.Common.{◌≡◌, ◌∙◌, rules}
use Rattle.ledger.specs.Held.{legs_of}
use Rattle.model.specs.Postings.{sweep_legs}
use Rattle.book.proofs.Admitted.{named_passes}
use Rattle.book.proofs.Drawn.{sweep_whole}
use Rattle.book.proofs.book.Book.propose_sweep.Goals as goal

pub returns : goal.returns
returns g c =
    let f = c.in_ok-fraction.fraction in
    let a = c.args.account in
    let q = c.sweepable-swept.result.0 in
    let whole : legs_of c.sweep_entry.result ≡ sweep_legs a f q = c.sweep_entry.ensures ∙ sweep_whole a f _ q c.sweepable-swept.ensures.swept (named_passes c.args.account c.in_ok-check_named.ensures) in
    search rules
