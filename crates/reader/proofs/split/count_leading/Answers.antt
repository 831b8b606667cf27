-- Assumes nothing.
use Rattle.std.proofs.Common.{eqb, not, ◌∙◌, rules, tests}
use Rattle.std.proofs.lemmas.Iterator.{YieldsList-from_slice}
use Rattle.std.proofs.lemmas.Iterator.Search.{position_from_yields_List}
use Rattle.reader.proofs.Parts.{counts_leading}
use Rattle.reader.proofs.split.count_leading.Goals as goal

pub returns-clause-value : goal.returns-clause-value
returns-clause-value c =
    let is = position_from_yields_List (λ b. not (eqb b c.args.skipped)) _ _ c.position.result c.position.ensures.ran (YieldsList-from_slice c.args.text.now cc) (λ x b q k. search (rules, tests)) in
    c.unwrap_or.ensures ∙ counts_leading c.args.skipped c.args.text.now c.position.result is
