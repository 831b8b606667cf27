use Rattle.std.proofs.Common.{◌≡◌, ℕ, true, leb, length, ap, ◌∙◌, arith}
use Rattle.std.proofs.lemmas.Bool.{le-leb, cond-true}
use Rattle.ledger.specs.Meaning.{Meaning}
use Rattle.model.specs.State.{opened}
use Rattle.programs.specs.Books.{empty_ledger, sheet_book}
use Rattle.programs.proofs.books.open_sheet.Goals as goal

pub returns : goal.returns
unfolding sheet_book
returns c =
    let all : length c.args.cells.now ≡ 4352 = c.told-cells in
    let long : leb 4352 (length c.args.cells.now) ≡ true = le-leb _ _ (omega (arith, all)) in
    c.open-2.ensures.state
    ∙ ap (λ (m : Meaning). opened m 83 1) (c.open.ensures.meaning ∙ ap (λ (n : ℕ). empty_ledger n) (cond-true _ 4000000 0 long))
