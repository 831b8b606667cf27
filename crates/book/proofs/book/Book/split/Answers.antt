-- The step, and with it the law. Assumes nothing.
use Rattle.std.proofs.Common.{length}
use Rattle.apportion.specs.Ties.{Lawful}
use Rattle.model.specs.Calls.{Call, split}
use Rattle.model.proofs.Runs.{still_conserved}
use Rattle.book.specs.View.{state_of}
use Rattle.book.proofs.book.Book.split.Goals as goal

pub returns : goal.returns
returns g c =
    let s = state_of g.L.Balances c.args.self.now in
    let t = state_of g.L.Balances c.enter_split.new.self in
    let facts = c.enter_split.ensures in
    let tie = g.R.TieRule.tie c.args.rule.now in
    let call : Lawful tie → Call = λ law. split tie law c.args.division c.args.shares.now (length c.args.portions.now) (length c.args.fractions.now) in
    record {
      step = facts.step;
      portions = facts.portions;
      fractions = facts.fractions;
      law = λ law. still_conserved s (call law) _ t (facts.step law);
    }
