-- The first currency that is not balanced. Assumes nothing.
use Rattle.std.proofs.Common.{Bool, not, ◌∙◌, rules}
use borrow.Author.Tests.{tests}
use Rattle.std.proofs.lemmas.Iterator.{YieldsList-from_slice}
use Rattle.std.proofs.lemmas.Iterator.Search.{find_from_yields_List}
use Rattle.money.specs.declared.currency.Currency.{Currency}
use Rattle.money.specs.Table.{number_of, currencies}
use Rattle.ledger.specs.Entries.{is_zero}
use Rattle.ledger.specs.Legs.{column_sum}
use Rattle.postings.specs.Posts.{lowest_unbalanced}
use Rattle.postings.proofs.Posting.{find_first}
use Rattle.postings.proofs.post.lowest_unbalanced.Goals as goal

pub returns : goal.returns
unfolding lowest_unbalanced
returns c =
    let open_in : Currency → Bool = λ k. not (is_zero (column_sum c.args.legs.now (number_of k))) in
    c.copied.ensures
    ∙ find_from_yields_List open_in _ _ _ c.find.ensures.ran (YieldsList-from_slice currencies c.iter.ensures.rest) (λ x b q k. search (rules, tests))
    ∙ find_first open_in currencies
