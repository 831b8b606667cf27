-- The step of a split, with lists as long as there may be shares. Assumes nothing.
use Rattle.std.proofs.Common.{List, Result, ap}
use Rattle.std.proofs.lemmas.Result.{err_from_is_err_and}
use Rattle.register.specs.Register.{Refusal}
use Rattle.money.specs.declared.quantity.Minor.{Minor}
use Rattle.apportion.specs.declared.fraction.Fraction.{Fraction}
use Rattle.apportion.specs.Refusals.{most_shares}
use Rattle.apportion.specs.Ties.{Lawful}
use Rattle.model.specs.Calls.{Call, split}
use Rattle.reader.specs.Requests.{given_by}
use Rattle.book.specs.View.{state_of}
use Rattle.requests.specs.Requests.{amounts}
use Rattle.requests.proofs.Sequences.{answered, one_call}
use Rattle.requests.proofs.performing.split_among.Goals as goal

pub returns-in_err-split : goal.returns-in_err-split
returns-in_err-split g c =
    let s = state_of g.L.Balances c.args.book.now in
    let t = state_of g.L.Balances c.split.new.self in
    let p = err_from_is_err_and c.from_residual.result c.from_residual.ensures.1 in
    let tie = g.R.TieRule.tie c.args.rule.now in
    let call : Lawful tie → Call = λ law. split tie law c.args.division c.args.shares.now most_shares most_shares in
    let facts = c.in_err-split.ensures in
    rw (p.1, p.2) (record {
      value = λ law. ap (λ (r : Result (List Minor × List Fraction) Refusal). given_by (λ given. amounts given.0) r) (answered s (call law) _ t (facts.step law));
      state = λ law. one_call s (call law) _ t (facts.step law);
    })

pub returns : goal.returns
returns g c =
    let s = state_of g.L.Balances c.args.book.now in
    let t = state_of g.L.Balances c.split.new.self in
    let tie = g.R.TieRule.tie c.args.rule.now in
    let call : Lawful tie → Call = λ law. split tie law c.args.division c.args.shares.now most_shares most_shares in
    let facts = c.in_ok-split.ensures in
    rw (c.truncate.ensures.items, c.from_array_in-portions.ensures.items) (record {
      value = λ law. ap (λ (r : Result (List Minor × List Fraction) Refusal). given_by (λ given. amounts given.0) r) (answered s (call law) _ t (facts.step law));
      state = λ law. one_call s (call law) _ t (facts.step law);
    })
