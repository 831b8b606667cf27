-- The apportionment refuses, or the entry has the legs of the split. Assumes nothing.
use Rattle.std.proofs.Common.{◌≡◌, ◌-◌, ◌≤◌, length, take, nat_abs, Ok, sym, ap, ◌∙◌, arith}
use Rattle.std.proofs.lemmas.Result.{err_from_is_err_and}
use Rattle.apportion.specs.Refusals.{verdict}
use Rattle.apportion.specs.Splits.{portions, fractions}
use Rattle.apportion.proofs.Fairness.{length-portions, length-fractions}
use Rattle.ledger.proofs.Entries.{entry_legs_lem}
use Rattle.postings.proofs.Valid.{split_is_entry}
use Rattle.book.specs.View.{state_of}
use Rattle.book.proofs.Admitted.{fit_passes, named_passes}
use Rattle.book.proofs.Splits.{front_of, holds_front, wide_passes, splitting_refused, splitting_passes, entering_splits}
use Rattle.book.proofs.book.Book.propose_split.Goals as goal

pub returns-in_err-apportion : goal.returns-in_err-apportion
returns-in_err-apportion g c =
    let p = err_from_is_err_and c.from_residual-in_err-apportion.result c.from_residual-in_err-apportion.ensures.1 in
    let s = state_of g.L.Balances c.args.self.now in
    let tie = g.R.TieRule.tie c.args.rule.now in
    rw (p.1, p.2)
    (record {
      value = splitting_refused s tie c.args.division c.args.shares.now c.args.lent.portions c.args.lent.fractions c.in_ok-currency.currency (fit_passes s c.in_ok-check_fit.ensures) (sym c.in_ok-currency.ensures) (named_passes c.args.division.account c.in_ok-check_named.ensures) _ c.in_err-apportion.ensures.value;
      portions = tt;
      fractions = tt;
    })

-- the portions are as many as the shares
pub slice_bounds-split_entry-end : goal.slice_bounds-split_entry-end
slice_bounds-split_entry-end g c =
    let given = portions (g.R.TieRule.tie c.args.rule.now) (nat_abs c.args.division.amount.0) c.args.shares.now in
    let k = length c.args.shares.now in
    let long : length given ≡ k = length-portions (g.R.TieRule.tie c.args.rule.now) (nat_abs c.args.division.amount.0) c.args.shares.now in
    holds_front c.apportion.new.portions given k (ap (take k) c.in_ok-apportion.ensures.portions ∙ front_of given _ k long) long

pub returns : goal.returns
returns g c =
    let s = state_of g.L.Balances c.args.self.now in
    let tie = g.R.TieRule.tie c.args.rule.now in
    let d = c.args.division in
    let shares = c.args.shares.now in
    let m = c.args.lent.portions in
    let n = c.args.lent.fractions in
    let k = length shares in
    let amount = nat_abs d.amount.0 in
    let made = c.in_ok-apportion.ensures in
    let kind = c.in_ok-currency.currency in
    let account = named_passes c.args.division.account c.in_ok-check_named.ensures in
    let long : k ≤ m = c.if-lent-shares.false in
    let wide : k ≤ n = c.if-lent-shares-2.false in
    let passes : Ok tt ≡ verdict d.amount.0 shares m n = wide_passes d.amount.0 shares m n made.value long wide in
    let ps : take k c.apportion.new.portions ≡ portions tie amount shares = ap (take k) made.portions ∙ front_of (portions tie amount shares) _ k (length-portions tie amount shares) in
    let fs : take k c.apportion.new.fractions ≡ fractions tie amount shares = ap (take k) made.fractions ∙ front_of (fractions tie amount shares) _ k (length-fractions tie amount shares) in
    let is = entry_legs_lem _ (split_is_entry tie (g.met.R.TieRule.lawful c.args.rule.now) d kind shares m n account (sym passes)) in
    record {
      value =
          ap Ok (entering_splits tie d kind shares (take k c.apportion.new.portions) (take (k - 0) c.apportion.new.portions) (take k c.apportion.new.fractions) c.split_entry-entry.result ps (ap (λ j. take j c.apportion.new.portions) (omega arith)) fs c.split_entry-entry.ensures is)
          ∙ splitting_passes s tie d shares m n kind (fit_passes s c.in_ok-check_fit.ensures) (sym c.in_ok-currency.ensures) account passes;
      portions = record { front = ps; enough = holds_front _ _ k ps (length-portions tie amount shares); room = long };
      fractions = record { front = fs; enough = holds_front _ _ k fs (length-fractions tie amount shares); room = wide };
    }
