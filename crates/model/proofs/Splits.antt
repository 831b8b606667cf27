-- What splits owe. Assumes nothing.
use Rattle.std.proofs.Common.{◌≡◌, ℕ, suc, ◌<◌, ◌≤◌, true, false, cond, eqb, ◌≢◌, List, [], ◌∷◌, map, length, ℤ, pos, ◌+ℤ◌, neg_ℤ, nat_abs, Ok, Err, fold, sym, refl, ap, ◌∙◌, subst, ap₂, arith}
use borrow.Author.Differences.{ints}
use Rattle.std.specs.List.{AllByRecursion}
use Rattle.std.proofs.ByRecursion.{All-weaker}
use Rattle.money.specs.declared.currency.Currency.{Currency}
use Rattle.money.specs.declared.quantity.Minor.{Minor}
use Rattle.money.specs.Table.{number_of}
use Rattle.ledger.specs.declared.leg.Leg.{Leg}
use Rattle.ledger.specs.Legs.{leg, in_column, column_sum, rise}
use Rattle.ledger.specs.Limits.{accounts}
use Rattle.apportion.specs.declared.fraction.Fraction.{Fraction}
use Rattle.apportion.specs.declared.share.Share.{Share}
use Rattle.apportion.specs.Accounts.{named}
use Rattle.apportion.specs.Laws.{int_sum, Fair}
use Rattle.apportion.specs.Refusals.{checked, verdict}
use Rattle.apportion.specs.Splits.{share_at, all_weights, portions, fractions}
use Rattle.apportion.specs.Ties.{Tie, Lawful}
use Rattle.apportion.proofs.Fairness.{always_fair}
use Rattle.apportion.proofs.Passing.{divisible}
use Rattle.model.specs.declared.request.Division.{Division}
use Rattle.model.specs.Calls.{split}
use Rattle.model.specs.History.{Event, status, origin, share_legs}
use Rattle.model.specs.Postings.{portion_legs}
use Rattle.model.specs.State.{State}
use Rattle.model.specs.Step.{Movement, fitness, currency_at, account_at, splits, splitting}
use Rattle.model.proofs.Accepted.{and_then_lem, ok_same, Named, is_named, account_named, currency_named}
use Rattle.model.proofs.Kept.{Sound}
use Rattle.model.proofs.Legs.{at, at_opposite, in_column_lem, rise_elsewhere}
use Rattle.model.proofs.Sums.{nothing_euro, nothing_national}

-- ---- what a split has passed

is_checked : (amount : ℤ) (shares : List Share) (m n : ℕ) (x : Unit {0}) → verdict amount shares m n ≡ Ok x → (w : ℕ) × (checked amount shares ≡ Ok w)
is_checked amount shares m n x e =
    (elim (checked amount shares) as (λ r. checked amount shares ≡ r → (w : ℕ) × (checked amount shares ≡ Ok w)) [
      | Ok w ↦ λ q. (w, q)
      | Err f ↦ λ q. absurd (let y = rw q at e in let z : ◌≡◌ {A = ℕ} 0 1 = cc y in omega arith)
    ]) refl

all_named : (shares : List Share) → ((i : ℕ) → i < length shares → named (share_at shares i).account ≡ true) → AllByRecursion (λ s. Named s.account) shares
all_named [] f = tt
all_named (s ∷ shares) f = (is_named s.account (f 0 (omega arith)), all_named shares (λ i l. f (suc i) (omega arith)))

-- ---- the legs

portions_told : (k : ℕ) (shares : List Share) (given : List Minor) → portion_legs k shares given ≡ share_legs k shares given
portions_told k [] given = refl
portions_told k (s ∷ shares) [] = refl
portions_told k (s ∷ shares) (b ∷ given) = ap (λ (ls : List Leg). leg s.account k b.0 ∷ ls) (portions_told k shares given)

at_add : (c k : ℕ) (x y : ℤ) → at c x k +ℤ at c y k ≡ at c (x +ℤ y) k
at_add c k x y = elim (eqb c k) as (λ t. cond t x (pos 0) +ℤ cond t y (pos 0) ≡ cond t (x +ℤ y) (pos 0)) [ true ↦ refl | false ↦ refl ]

sum_from : (a : ℤ) (zs : List ℤ) → fold ◌+ℤ◌ a zs ≡ a +ℤ int_sum zs
sum_from a [] = omega (arith, ints)
sum_from a (z ∷ zs) =
    let l : fold ◌+ℤ◌ (a +ℤ z) zs ≡ (a +ℤ z) +ℤ int_sum zs = sum_from (a +ℤ z) zs in
    let r : fold ◌+ℤ◌ (pos 0 +ℤ z) zs ≡ (pos 0 +ℤ z) +ℤ int_sum zs = sum_from (pos 0 +ℤ z) zs in
    omega (arith, ints)

shares_column : (c : ℕ) (shares : List Share) (given : List Minor) (k : ℕ) → length given ≡ length shares → column_sum (share_legs c shares given) k ≡ at c (int_sum (map (λ m. m.0) given)) k
unfolding column_sum
shares_column c [] [] k e = elim (eqb c k) as (λ t. pos 0 ≡ cond t (pos 0) (pos 0)) [ true ↦ refl | false ↦ refl ]
shares_column c [] (b ∷ given) k e = absurd (omega arith)
shares_column c (s ∷ shares) [] k e = absurd (omega arith)
shares_column c (s ∷ shares) (b ∷ given) k e =
    let i : column_sum (share_legs c shares given) k ≡ at c (int_sum (map (λ m. m.0) given)) k = shares_column c shares given k (omega arith) in
    let h : in_column (leg s.account c b.0) k ≡ at c b.0 k = in_column_lem s.account c b.0 k in
    let a : at c b.0 k +ℤ at c (int_sum (map (λ m. m.0) given)) k ≡ at c (b.0 +ℤ int_sum (map (λ m. m.0) given)) k = at_add c k b.0 (int_sum (map (λ m. m.0) given)) in
    let f : fold ◌+ℤ◌ (pos 0 +ℤ b.0) (map (λ m. m.0) given) ≡ (pos 0 +ℤ b.0) +ℤ int_sum (map (λ m. m.0) given) = sum_from (pos 0 +ℤ b.0) (map (λ m. m.0) given) in
    let g : b.0 +ℤ int_sum (map (λ m. m.0) given) ≡ fold ◌+ℤ◌ (pos 0 +ℤ b.0) (map (λ m. m.0) given) = omega (arith, ints) in
    let w : at c (b.0 +ℤ int_sum (map (λ m. m.0) given)) k ≡ at c (fold ◌+ℤ◌ (pos 0 +ℤ b.0) (map (λ m. m.0) given)) k = ap (λ (z : ℤ). at c z k) g in
    omega (arith, ints)

shares_all : (P : ℕ → Type 0) (c : ℕ) (shares : List Share) (given : List Minor) → AllByRecursion (λ s. P s.account) shares → AllByRecursion (λ l. P l.account) (share_legs c shares given)
shares_all P c [] given h = tt
shares_all P c (s ∷ shares) [] h = tt
shares_all P c (s ∷ shares) (b ∷ given) h = (h.0, shares_all P c shares given h.1)

-- ---- the split

abbrev legs_for : Division → List Share → List Minor → List Leg
legs_for d shares given = leg d.account d.currency (neg_ℤ d.amount.0) ∷ share_legs d.currency shares given

split_column : (d : Division) (shares : List Share) (given : List Minor) (k : ℕ) → length given ≡ length shares → int_sum (map (λ m. m.0) given) ≡ d.amount.0 → column_sum (legs_for d shares given) k ≡ pos 0
unfolding column_sum
split_column d shares given k e w =
    let s : column_sum (share_legs d.currency shares given) k ≡ at d.currency (int_sum (map (λ m. m.0) given)) k = shares_column d.currency shares given k e in
    let a : at d.currency (int_sum (map (λ m. m.0) given)) k ≡ at d.currency d.amount.0 k = ap (λ (z : ℤ). at d.currency z k) w in
    let o : in_column (leg d.account d.currency (neg_ℤ d.amount.0)) k ≡ neg_ℤ (at d.currency d.amount.0 k) = in_column_lem d.account d.currency (neg_ℤ d.amount.0) k ∙ at_opposite d.currency k d.amount.0 in
    omega (arith, ints)

split_past : (d : Division) (shares : List Share) (given : List Minor) (p k : ℕ) → p < 2 → Named d.account → AllByRecursion (λ s. Named s.account) shares → rise (legs_for d shares given) p k ≡ pos 0
split_past d shares given p k h n all =
    let lo : 2 ≤ d.account = n.low in
    rise_elsewhere (legs_for d shares given) p k
    ((omega arith), shares_all (λ a. a ≢ p) d.currency shares given (All-weaker (λ s. Named s.account) (λ s. s.account ≢ p) (λ s m. let l : 2 ≤ s.account = m.low in omega arith) shares all))

split_sound : (o s : State) (h : List Event) (tie : Tie) (law : Lawful tie) (d : Division) (shares : List Share) (m n : ℕ) (c : Currency)
    → Named d.account → number_of c ≡ d.currency → AllByRecursion (λ s. Named s.account) shares
    → Fair tie d.amount.0 shares (portions tie (nat_abs d.amount.0) shares) (fractions tie (nat_abs d.amount.0) shares)
    → Sound o s h (split tie law d shares m n) (splits tie d c shares)
unfolding status origin
split_sound o s h tie law d shares m n c a e all f =
    let given : List Minor = portions tie (nat_abs d.amount.0) shares in
    record {
      makes = record { statuses = λ n. refl; origins = λ n. refl };
      count = omega arith;
      timely = tt;
      told =
          ap₂ (λ (k : ℕ) (ls : List Leg). leg d.account k (neg_ℤ d.amount.0) ∷ ls) e
          (portions_told (number_of c) shares given ∙ ap (λ (k : ℕ). share_legs k shares given) e);
      balanced = record {
        within = (a.high, shares_all (λ x. x < accounts) d.currency shares given (All-weaker (λ s. Named s.account) (λ s. s.account < accounts) (λ s p. p.high) shares all));
        columns = λ k. split_column d shares given k f.portion_each f.whole;
        euro = λ i. nothing_euro _ _ _ (split_past d shares given 0 _ (omega arith) a all);
        national = λ j. nothing_national _ _ (split_past d shares given 0 _ (omega arith) a all);
      };
      residues = λ k. split_past d shares given 1 k (omega arith) a all;
      due = tt;
      fair = f;
    }

pub split_accepted : (o s : State) (h : List Event) (tie : Tie) (law : Lawful tie) (d : Division) (shares : List Share) (m n : ℕ) (v : Movement (List Minor × List Fraction))
    → splitting s tie d shares m n ≡ Ok v → Sound o s h (split tie law d shares m n) v
split_accepted o s h tie law d shares m n v e =
    let x = and_then_lem (fitness s) _ v e in
    let y = and_then_lem (currency_at d.currency 0) _ v x.2 in
    let z = and_then_lem (account_at d.account 0) _ v y.2 in
    let u = and_then_lem (verdict d.amount.0 shares m n) _ v z.2 in
    let w = is_checked d.amount.0 shares m n u.0 u.1 in
    let p = divisible d.amount.0 shares w.0 w.1 in
    let some : 0 < all_weights shares = subst (λ (k : ℕ). 0 < k) p.1.sum p.1.sum_least in
    let fair = always_fair tie law (nat_abs d.amount.0) shares some in
    subst (Sound o s h (split tie law d shares m n)) (ok_same _ v u.2)
    (split_sound o s h tie law d shares m n y.0 (account_named d.account 0 z.0 z.1) (currency_named d.currency 0 y.0 y.1).number
    (all_named shares p.1.account)
    (subst (λ (k : ℤ). Fair tie k shares (portions tie (nat_abs d.amount.0) shares) (fractions tie (nat_abs d.amount.0) shares)) (sym p.0) fair))
