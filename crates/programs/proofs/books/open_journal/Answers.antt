use Rattle.std.proofs.Common.{◌≡◌, ℕ, min, length, ap, ◌∙◌}
use Rattle.ledger.specs.Meaning.{Meaning}
use Rattle.model.specs.State.{opened}
use Rattle.programs.specs.Books.{empty_ledger, journal_book}
use Rattle.programs.proofs.books.open_journal.Goals as goal

pub returns : goal.returns
unfolding journal_book
returns c =
    let all : length c.args.records.now ≡ 4096 = c.told-records in
    c.open-2.ensures.state
    ∙ ap (λ (m : Meaning). opened m 74 1) (c.open.ensures.meaning ∙ ap (λ (n : ℕ). empty_ledger (min n 65536)) all)
