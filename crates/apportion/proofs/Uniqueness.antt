-- A fair split is the split by largest remainders. Assumes nothing.
use Rattle.std.proofs.Common.{◌≡◌, ℕ, ◌+◌, ◌<◌, Bool, true, false, ltb, List, length, ℤ, pos, ◌+ℤ◌, ◌*ℤ◌, nat_abs, sym, refl, ap, ◌∙◌, ⊎_elim, arith}
use Rattle.std.proofs.lemmas.List.{same_lists, get_or_default}
use Rattle.std.proofs.lemmas.Int.{ints}
use Rattle.std.proofs.lemmas.Bool.{cases_Bool, both_ways}
use Rattle.std.proofs.lemmas.Bool.Decides.{nat_tests}
use Rattle.money.specs.declared.quantity.Minor.{Minor}
use Rattle.money.specs.Conversions.{minors}
use Rattle.apportion.specs.declared.fraction.Fraction.{Fraction}
use Rattle.apportion.specs.declared.share.Share.{Share}
use Rattle.apportion.specs.Laws.{units_at, parts_at, DownOrUp, raised, Fair, OnlyFair}
use Rattle.apportion.specs.Places.{one_if}
use Rattle.apportion.specs.Splits.{quotient, before, portions, fractions, fraction_of}
use Rattle.apportion.specs.Ties.{Tie, Lawful}
use Rattle.apportion.proofs.Counts.{passed_by_both}
use Rattle.apportion.proofs.Fairness.{always_fair}
use Rattle.apportion.proofs.Order.{before_strict, from_comes_before}

more_of : (q : ℕ) (z : ℤ) (b : Bool) → z ≡ pos (q + one_if b) → z ≡ pos (q + one_if (ltb q (nat_abs z)))
more_of q z b e = rw e (ap pos (grind (arith, nat_tests)))

-- a portion is the quotient, and one more where it is raised
units_raised : (amount : ℕ) (shares : List Share) (i : ℕ) (z : ℤ) → DownOrUp amount shares i z
    → z ≡ pos (quotient amount shares i + one_if (ltb (quotient amount shares i) (nat_abs z)))
units_raised amount shares i z d =
    ⊎_elim
    (λ e. more_of (quotient amount shares i) z false (e ∙ ap pos (omega arith)))
    (λ e. more_of (quotient amount shares i) z true e.0)
    d

both_same : (a b : Bool) → (a ≡ true → b ≡ true) → (b ≡ true → a ≡ true) → a ≡ b
both_same true b f g = sym (f refl)
both_same false b f g = ⊎_elim (λ t. absurd (both_ways false refl (g t))) (λ e. sym e) (cases_Bool b)

owed_same : (a b x y w : ℤ) → a ≡ b → a *ℤ w +ℤ x ≡ y → (z : ℤ) → b *ℤ w +ℤ z ≡ y → x ≡ z
owed_same a b x y w e f z h = let k : b *ℤ w +ℤ x ≡ y = rw e at f in omega (arith, ints)

module _ (tie : Tie) (law : Lawful tie) (amount : ℕ) (shares : List Share) (given given' : List Minor) (owed owed' : List Fraction)
    (f : Fair tie (pos amount) shares given owed) (g : Fair tie (pos amount) shares given' owed') where
  raised_both : (i : ℕ) → i < length shares → raised amount shares given i ≡ true → raised amount shares given' i ≡ true
  raised_both =
      passed_by_both (before tie amount shares) (length shares) (before_strict tie amount shares law) (raised amount shares given) (raised amount shares given')
      (f.served ∙ sym g.served)
      (λ i j li lj t u. from_comes_before tie amount shares i j (f.largest i j li lj t u))
      (λ i j li lj t u. from_comes_before tie amount shares i j (g.largest i j li lj t u))

pub only_fair : OnlyFair
only_fair tie law amount shares h given owed f =
    let g = always_fair tie law amount shares h in
    let p = portions tie amount shares in
    let q = fractions tie amount shares in
    let same : (i : ℕ) → i < length shares → units_at given i ≡ units_at p i =
    λ i l.
    units_raised amount shares i (units_at given i) (f.rounded i l)
    ∙ ap (λ b. pos (quotient amount shares i + one_if b))
    (both_same (raised amount shares given i) (raised amount shares p i) (raised_both tie law amount shares given p owed q f g i l) (raised_both tie law amount shares p given q owed g f i l))
    ∙ sym (units_raised amount shares i (units_at p i) (g.rounded i l)) in (
      same_lists given p (f.portion_each ∙ sym g.portion_each) (λ k d l.
          let m = f.portion_each in
          let n = g.portion_each in
          get_or_default given k d (minors 0) l ∙ ap (λ (z : ℤ). record { 0 = z }) (same k (omega arith)) ∙ sym (get_or_default p k d (minors 0) (omega arith))),
      same_lists owed q (f.fraction_each ∙ sym g.fraction_each) (λ k d l.
          let m = f.fraction_each in
          let n = g.fraction_each in
          get_or_default owed k d (fraction_of (pos 0)) l
          ∙ ap fraction_of (owed_same (units_at given k) (units_at p k) (parts_at owed k) _ _ (same k (omega arith)) (f.owes k (omega arith)) (parts_at q k) (g.owes k (omega arith)))
          ∙ sym (get_or_default q k d (fraction_of (pos 0)) (omega arith))),
    )
