-- The legs of a split, one share after the other. Assumes nothing.
use Rattle.std.proofs.Common.{◌≡◌, ℕ, ◌+◌, ◌<◌, ◌≤◌, true, ◌≢◌, ◌⊎◌, List, [], ◌∷◌, map, length, ℤ, pos, ◌+ℤ◌, neg_ℤ, nat_abs, Ok, Err, fold, Result, sym, refl, ap, ◌∙◌, subst, ⊎_elim, arith}
use Rattle.std.specs.List.{range_with_len, AllByRecursion}
use Rattle.std.proofs.ByRecursion.{All-from_get_or}
use Rattle.std.proofs.lemmas.Int.{ints}
use Rattle.register.specs.Register.{Refusal}
use Rattle.money.specs.declared.currency.Currency.{Currency}
use Rattle.money.specs.declared.quantity.Minor.{Minor}
use Rattle.money.specs.Conversions.{minors, most_amount}
use Rattle.money.specs.Table.{number_of}
use Rattle.apportion.specs.declared.share.Share.{Share}
use Rattle.apportion.specs.Accounts.{named}
use Rattle.apportion.specs.Laws.{int_sum}
use Rattle.apportion.specs.Places.{sum_below}
use Rattle.apportion.specs.Refusals.{checked, verdict}
use Rattle.apportion.specs.Splits.{no_share, all_weights, portion, portions}
use Rattle.apportion.specs.Ties.{Tie, Lawful}
use Rattle.apportion.proofs.Bounds.{weighs}
use Rattle.apportion.proofs.Checks.{sum_more}
use Rattle.apportion.proofs.Counts.{sum_part}
use Rattle.apportion.proofs.Fairness.{always_fair, length-portions, portion_listed}
use Rattle.apportion.proofs.Passing.{divisible}
use Rattle.apportion.proofs.Sums.{int_sum-map, int_sum_listed}
use Rattle.ledger.specs.declared.column.Column.TheVariants.{Money}
use Rattle.ledger.specs.declared.leg.Leg.{Leg}
use Rattle.ledger.specs.Entries.{InRange, EntryLegs, most_column}
use Rattle.ledger.specs.Legs.{leg, in_column, column_sum}
use Rattle.ledger.proofs.Columns.{columns_numbered}
use Rattle.ledger.proofs.Rises.{by_equal, in_column_here, in_column_off, column_off}
use Rattle.model.specs.declared.request.Division.{Division}
use Rattle.model.specs.Postings.{portion_legs, split_legs}
use Rattle.postings.proofs.Pairing.{named_within}

-- where no share or no portion is left, no leg is
pub no_legs : (k : ℕ) (shares : List Share) (given : List Minor) → (shares ≡ []) ⊎ (given ≡ []) → portion_legs k shares given ≡ []
no_legs k [] given e = refl
no_legs k (s ∷ shares) [] e = refl
no_legs k (s ∷ shares) (m ∷ given) e = absurd (⊎_elim (λ h. let n = ap length h in omega arith) (λ h. let n = ap length h in omega arith) e)

-- ---- a split makes an entry

portions_range : (k : ℕ) → k ≤ most_column → (shares : List Share) (given : List Minor) → AllByRecursion (λ s. named s.account ≡ true) shares → AllByRecursion (λ m. nat_abs m.0 ≤ most_amount) given
    → AllByRecursion InRange (portion_legs k shares given)
portions_range k h [] given a b = tt
portions_range k h (s ∷ shares) [] a b = tt
portions_range k h (s ∷ shares) (m ∷ given) a b = (
  record { account = named_within s.account a.0; column = h; amount = b.0 },
  portions_range k h shares given a.1 b.1,
)

portions_few : (k : ℕ) (shares : List Share) (given : List Minor) → length (portion_legs k shares given) ≤ length shares
portions_few k [] given = omega arith
portions_few k (s ∷ shares) [] = omega arith
portions_few k (s ∷ shares) (m ∷ given) = omega (arith, portions_few k shares given)

-- in their own column the legs sum to what is given, and to zero in any other
portions_sum : (k : ℕ) (shares : List Share) (given : List Minor) (before : ℤ) → length given ≡ length shares
    → before +ℤ column_sum (portion_legs k shares given) k ≡ fold ◌+ℤ◌ before (map (λ (m : Minor). m.0) given)
unfolding column_sum
portions_sum k [] [] before e = omega (arith, ints)
portions_sum k [] (m ∷ given) before e = absurd (omega arith)
portions_sum k (s ∷ shares) [] before e = absurd (omega arith)
portions_sum k (s ∷ shares) (m ∷ given) before e =
    let here : in_column (leg s.account k m.0) k ≡ m.0 = in_column_here (leg s.account k m.0) k refl in
    let rest = column_sum (portion_legs k shares given) k in
    let group : before +ℤ (in_column (leg s.account k m.0) k +ℤ rest) ≡ (before +ℤ m.0) +ℤ rest = omega (arith, ints) in
    group ∙ portions_sum k shares given (before +ℤ m.0) (omega arith)

portions_off : (k j : ℕ) (shares : List Share) (given : List Minor) → k ≢ j → AllByRecursion (λ l. l.column ≢ j) (portion_legs k shares given)
portions_off k j [] given d = tt
portions_off k j (s ∷ shares) [] d = tt
portions_off k j (s ∷ shares) (m ∷ given) d = (d, portions_off k j shares given d)

-- no portion is more than the whole
portion_small : (tie : Tie) → Lawful tie → (amount : ℕ) (shares : List Share) → 0 < all_weights shares → (i : ℕ) → i < length shares → portion tie amount shares i ≤ amount
unfolding portions
portion_small tie law amount shares h i l =
    let f = portion tie amount shares in
    let n = length shares in
    let all : int_sum (map (λ (m : Minor). m.0) (portions tie amount shares)) ≡ pos (sum_below f n) = int_sum-map (λ (m : Minor). m.0) (λ k. minors (f k)) (range_with_len 0 n) ∙ int_sum_listed f n in
    let whole : pos (sum_below f n) ≡ pos amount = sym all ∙ (always_fair tie law amount shares h).whole in
    omega (arith, ints, sum_more f i, sum_part f (i + 1) n (omega arith))

portions_small : (tie : Tie) → Lawful tie → (amount : ℕ) (shares : List Share) → 0 < all_weights shares → amount ≤ most_amount
    → AllByRecursion (λ (m : Minor). nat_abs m.0 ≤ most_amount) (portions tie amount shares)
portions_small tie law amount shares h most =
    All-from_get_or (λ (m : Minor). nat_abs m.0 ≤ most_amount) (portions tie amount shares) (minors 0) (λ i l.
    let n : i < length shares = subst (λ k. i < k) (length-portions tie amount shares) l in
    rw (portion_listed tie amount shares i n) (omega (arith, portion_small tie law amount shares h i n)))

accepted : (amount : ℤ) (shares : List Share) (m n : ℕ) (r : Result ℕ Refusal) → checked amount shares ≡ r → verdict amount shares m n ≡ Ok tt → (w : ℕ) × (checked amount shares ≡ Ok w)
accepted amount shares m n (Ok w) e h = (w, e)
accepted amount shares m n (Err f) e h = absurd (let z : ◌≡◌ {A = ℕ} 0 1 = cc (rw e at h) in omega arith)

pub split_entry : (tie : Tie) → Lawful tie → (d : Division) (c : Currency) (shares : List Share) (m n : ℕ)
    → named d.account ≡ true → verdict d.amount.0 shares m n ≡ Ok tt
    → EntryLegs (split_legs d c shares (portions tie (nat_abs d.amount.0) shares))
unfolding column_sum
split_entry tie law d c shares m n account h =
    let z = d.amount.0 in
    let k = number_of c in
    let given = portions tie (nat_abs z) shares in
    let w = accepted z shares m n (checked z shares) refl h in
    let ok = divisible z shares w.0 w.1 in
    let e : z ≡ pos (nat_abs z) = ok.0 in
    let heavy = weighs (nat_abs z) shares w.0 ok.1 in
    let most = ok.1.amount_most in
    let column : k ≤ most_column = columns_numbered.within (Money c) in
    let first : Leg = leg d.account k (neg_ℤ z) in
    record {
      few = omega (arith, portions_few k shares given, ok.1.shares_most);
      each = (
        record { account = named_within d.account account; column = column; amount = omega (arith, ints, most) },
        portions_range k column shares given (All-from_get_or (λ s. named s.account ≡ true) shares no_share ok.1.account) (portions_small tie law (nat_abs z) shares heavy most),
      );
      balanced = λ j. by_equal k j
          (λ s. subst (λ x. in_column first x +ℤ column_sum (portion_legs k shares given) x ≡ pos 0) s
          (let u : in_column first k ≡ neg_ℤ z = in_column_here first k refl in
          let v = portions_sum k shares given (pos 0) (length-portions tie (nat_abs z) shares) ∙ (always_fair tie law (nat_abs z) shares heavy).whole in
          omega (arith, ints, u, v)))
          (λ o.
          let u : in_column first j ≡ pos 0 = in_column_off first j o in
          let v : column_sum (portion_legs k shares given) j ≡ pos 0 = column_off _ j (portions_off k j shares given o) in
          omega (arith, ints));
    }
