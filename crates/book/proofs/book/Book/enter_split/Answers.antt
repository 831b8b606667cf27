-- The ledger took the entry, and both lists are written. Assumes nothing.
use Rattle.std.proofs.Common.{◌≡◌, ◌++◌, length, take, drop, nat_abs, sym, refl, ap, ◌∙◌}
use Rattle.std.proofs.lemmas.Result.{err_from_is_err_and}
use Rattle.apportion.specs.Splits.{portions, fractions}
use Rattle.apportion.proofs.Fairness.{length-portions, length-fractions}
use Rattle.book.specs.View.{state_of}
use Rattle.book.proofs.Settled.{taken_settles, refused_settles}
use Rattle.book.proofs.Splits.{front_of, written}
use Rattle.book.proofs.book.Book.enter_split.Goals as goal

pub returns-in_err-take : goal.returns-in_err-take
returns-in_err-take g c =
    let s = state_of g.L.Balances c.args.self.now in
    let k = length c.args.shares.now in
    let given = c.in_ok-given.given in
    let facts = c.in_ok-given.ensures in
    let kept = c.in_err-take.ensures in
    let f = err_from_is_err_and c.from_residual-in_err-take.result c.from_residual-in_err-take.ensures.1 in
    rw (f.1, f.2)
    (record {
      step = λ law. refused_settles s (take k given.portions, take k given.fractions) given.entry _ (g.L.Balances.meaning c.take.new.self) facts.value _ kept.refused kept.kept;
      portions = refl;
      fractions = refl;
    })

pub returns : goal.returns
returns g c =
    let tie = g.R.TieRule.tie c.args.rule.now in
    let shares = c.args.shares.now in
    let k = length shares in
    let amount = nat_abs c.args.division.amount.0 in
    let given = c.in_ok-given.given in
    let facts = c.in_ok-given.ensures in
    let ps : c.copy_over.new.into ≡ portions tie amount shares ++ drop k c.args.portions.now = written given.portions _ c.args.portions.now _ k facts.portions.front (length-portions tie amount shares) c.copy_over.ensures in
    let fs : c.copy_over-2.new.into ≡ fractions tie amount shares ++ drop k c.args.fractions.now = written given.fractions _ c.args.fractions.now _ k facts.fractions.front (length-fractions tie amount shares) c.copy_over-2.ensures in
    let p : take k c.copy_over.new.into ≡ take k given.portions = ap (take k) ps ∙ front_of _ _ k (length-portions tie amount shares) ∙ sym facts.portions.front in
    let q : take k c.copy_over-2.new.into ≡ take k given.fractions = ap (take k) fs ∙ front_of _ _ k (length-fractions tie amount shares) ∙ sym facts.fractions.front in
    let s = state_of g.L.Balances c.args.self.now in
    let took = c.in_ok-take.ensures in
    record {
      step = λ law. taken_settles s (take k given.portions, take k given.fractions) given.entry _ (g.L.Balances.meaning c.take.new.self) facts.value _ (λ i. (p i, q i)) took.refused took.meaning;
      portions = ps;
      fractions = fs;
    }
