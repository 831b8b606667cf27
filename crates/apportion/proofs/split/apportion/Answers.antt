-- Assumes nothing.
use Rattle.std.proofs.Common.{w64, SFits, rules}
use Rattle.std.proofs.lemmas.Int.{to_z-of_z}
use Rattle.apportion.proofs.Bounds.{weighs}
use Rattle.apportion.proofs.Fairness.{fair_lists}
use Rattle.apportion.proofs.split.apportion.Goals as goal

pub returns-clause-fair : goal.returns-clause-fair
returns-clause-fair g c =
    let z = c.args.amount.0 in
    let fits : SFits w64 z = search rules in
    let ok = c.in_ok-weights.ensures.exactly in
    fair_lists (g.R.TieRule.tie c.args.rule.now) (g.met.R.TieRule.lawful c.args.rule.now) z ok.0 c.args.shares.now ok.1 (weighs ok.0 c.args.shares.now _ ok.2) _ _ _ _
    (rw (to_z-of_z w64 z fits) at c.fill.ensures.portions)
    (rw (to_z-of_z w64 z fits) at c.fill.ensures.fractions)
