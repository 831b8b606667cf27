-- The first record of that number. Assumes nothing.
use Rattle.std.proofs.Common.{◌∙◌, rules}
use borrow.Author.Tests.{tests}
use Rattle.std.proofs.lemmas.Iterator.{YieldsList-from_slice}
use Rattle.std.proofs.lemmas.Iterator.Search.{find_from_yields_List}
use Rattle.docket.specs.Held.{records_of}
use Rattle.docket.proofs.Numbers.{bears, find_found}
use Rattle.docket.proofs.docket.Docket.find.Goals as goal

pub returns-clause-value : goal.returns-clause-value
returns-clause-value c =
    let n = c.args.number in
    let xs = records_of c.args.self.now in
    c.copied.ensures
    ∙ find_from_yields_List (bears n) _ _ _ c.find.ensures.ran (YieldsList-from_slice xs (c.iter.ensures.rest ∙ c.records.ensures)) (λ x b q k. search (rules, tests))
    ∙ find_found n xs
