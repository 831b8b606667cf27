-- A split that is reckoned into lists of its own, and the lists lent. Assumes nothing.
use Rattle.std.proofs.Common.{◌≡◌, ℕ, ◌-◌, ◌≤◌, true, false, ltb, List, ◌++◌, length, take, drop, ℤ, nat_abs, Some, Ok, Err, sym, refl, ap, ◌∙◌, arith}
use Rattle.std.proofs.lemmas.List.{length-take, take_all, take-append-le}
use Rattle.std.proofs.lemmas.Bool.{le-ltb}
use Rattle.register.specs.Register.{Refusal}
use Rattle.money.specs.declared.currency.Currency.{Currency}
use Rattle.money.specs.declared.quantity.Minor.{Minor}
use Rattle.ledger.specs.declared.entry.Entry.{Entry}
use Rattle.ledger.specs.Entries.{EntryLegs}
use Rattle.ledger.specs.Held.{legs_of}
use Rattle.apportion.specs.declared.fraction.Fraction.{Fraction}
use Rattle.apportion.specs.declared.share.Share.{Share}
use Rattle.apportion.specs.Accounts.{named}
use Rattle.apportion.specs.Refusals.{most_shares, checked, verdict}
use Rattle.apportion.specs.Splits.{portions, fractions}
use Rattle.apportion.specs.Ties.{Tie}
use Rattle.apportion.proofs.Passing.{divisible}
use Rattle.model.specs.declared.request.Division.{Division}
use Rattle.model.specs.Postings.{split_legs}
use Rattle.model.specs.Results.{and_then}
use Rattle.model.specs.State.{State}
use Rattle.model.specs.Step.{unchanged, currency_at, splits, splitting}
use Rattle.postings.specs.Drafts.{entry_legs}
use Rattle.book.specs.Proposals.{entering}
use Rattle.book.proofs.Drawn.{drawn_whole}

-- the front of a list that begins with xs
pub front_of : {X : Type 0} (xs ys : List X) (n : ℕ) → length xs ≡ n → take n (xs ++ ys) ≡ xs
front_of xs ys n e = take-append-le n xs ys (omega arith) ∙ take_all n xs (omega arith)

-- a list that begins with n elements is that long
pub holds_front : {X : Type 0} (xs front : List X) (n : ℕ) → take n xs ≡ front → length front ≡ n → n ≤ length xs
holds_front xs front n e l = omega (arith, ap length e, length-take n xs)

-- what is written over the front of a list stands there, and the rest is as it was
pub written : {X : Type 0} (stored given lent after : List X) (n : ℕ) → take n stored ≡ given → length given ≡ n → after ≡ take (n - 0) stored ++ drop (length (take (n - 0) stored)) lent → after ≡ given ++ drop n lent
written stored given lent after n front l e =
    let all : take (n - 0) stored ≡ given = ap (λ j. take j stored) (omega arith) ∙ front in
    e ∙ (λ i. all i ++ drop (length (all i)) lent) ∙ ap (λ j. given ++ drop j lent) l

module _ (z : ℤ) (shares : List Share) (m n : ℕ) where
  few : (w : ℕ) → checked z shares ≡ Ok w → ltb most_shares (length shares) ≡ false
  few w q = le-ltb most_shares (length shares) (divisible z shares w q).1.shares_most

  -- lists for 15 shares are never too short, so what refuses them refuses all
  pub wide_refused : (f : Refusal) → Err f ≡ verdict z shares most_shares most_shares → Err f ≡ verdict z shares m n
  wide_refused f e =
      (elim (checked z shares) as (λ r. checked z shares ≡ r → Err f ≡ verdict z shares m n) [
        | Ok w ↦ λ q. absurd (let y = rw (q, few w q) at e in let clash : ◌≡◌ {A = ℕ} 0 1 = cc y in omega arith)
        | Err g ↦ λ q. rw q (rw q at e)
      ]) refl

  pub wide_passes : Ok tt ≡ verdict z shares most_shares most_shares → length shares ≤ m → length shares ≤ n → Ok tt ≡ verdict z shares m n
  wide_passes e a b =
      (elim (checked z shares) as (λ r. checked z shares ≡ r → Ok tt ≡ verdict z shares m n) [
        | Ok w ↦ λ q. rw (q, le-ltb m (length shares) a, le-ltb n (length shares) b)
        | Err g ↦ λ q. absurd (let y = rw q at e in let clash : ◌≡◌ {A = ℕ} 0 1 = cc y in omega arith)
      ]) refl

module _ (s : State) (tie : Tie) (d : Division) (shares : List Share) (m n : ℕ) (c : Currency) (fit : s.fit ≡ true) (currency : currency_at d.currency 0 ≡ Ok c) (account : named d.account ≡ true) where
  -- the apportionment decides
  splitting_is : splitting s tie d shares m n ≡ and_then (verdict d.amount.0 shares m n) (λ _. Ok (splits tie d c shares))
  splitting_is = rw (fit, currency, account)

  pub splitting_refused : (f : Refusal) → Err f ≡ verdict d.amount.0 shares most_shares most_shares → Err f ≡ splitting s tie d shares m n
  splitting_refused f e =
      ap (λ v. and_then v (λ _. Ok (splits tie d c shares))) (wide_refused d.amount.0 shares m n f e) ∙ sym splitting_is

  pub splitting_passes : Ok tt ≡ verdict d.amount.0 shares m n → Ok (splits tie d c shares) ≡ splitting s tie d shares m n
  splitting_passes e = ap (λ v. and_then v (λ _. Ok (splits tie d c shares))) e ∙ sym splitting_is

pub entering_splits : (tie : Tie) (d : Division) (c : Currency) (shares : List Share) (ps qs : List Minor) (fs : List Fraction) (e : Entry) → ps ≡ portions tie (nat_abs d.amount.0) shares → qs ≡ ps → fs ≡ fractions tie (nat_abs d.amount.0) shares → legs_of e ≡ entry_legs (split_legs d c shares qs) → EntryLegs (split_legs d c shares (portions tie (nat_abs d.amount.0) shares)) → entering (ps, fs) e unchanged ≡ splits tie d c shares
entering_splits tie d c shares ps qs fs e p q f drawn is =
    let whole : legs_of e ≡ split_legs d c shares (portions tie (nat_abs d.amount.0) shares) = drawn ∙ ap (λ l. entry_legs (split_legs d c shares l)) (q ∙ p) ∙ drawn_whole _ is in
    λ i. record { answer = (p i, f i); legs = Some (whole i); change = unchanged }
