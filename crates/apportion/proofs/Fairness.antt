-- Every split is fair. Assumes nothing.
use Rattle.std.proofs.Common.{◌≡◌, ℕ, ◌+◌, ◌*◌, ◌<◌, Bool, true, false, cond, ltb, List, map, length, take, drop, ℤ, pos, ◌+ℤ◌, nat_abs, sym, ap, ◌∙◌, inl, inr, ⊎_elim, mul_comm, add-mul, one-mul, mul-zero, zero-mul, mul-one, arith}
use Rattle.std.specs.List.{range_with_len}
use Rattle.std.proofs.lemmas.List.FromFn.{get_or-map-range_with_len, length-map-range_with_len}
use Rattle.std.proofs.lemmas.List.{take_at}
use Rattle.std.proofs.lemmas.Int.{ints}
use Rattle.std.proofs.lemmas.Bool.{both_ways, cases_Bool}
use Rattle.std.proofs.lemmas.Bool.Decides.{nat_tests}
use Rattle.money.specs.declared.quantity.Minor.{Minor}
use Rattle.money.specs.Conversions.{minors}
use Rattle.apportion.specs.declared.fraction.Fraction.{Fraction}
use Rattle.apportion.specs.declared.share.Share.{Share}
use Rattle.apportion.specs.Laws.{int_sum, units_at, parts_at, DownOrUp, raised, Fair, AlwaysFair}
use Rattle.apportion.specs.Places.{sum_below, one_if}
use Rattle.apportion.specs.Splits.{weight_at, all_weights, quotient, remainder, units_left, served, portion, portions, fraction, fractions, fraction_of, over}
use Rattle.apportion.specs.Ties.{Tie, Lawful}
use Rattle.apportion.proofs.Counts.{sum_same, sum_add, sum_scale}
use Rattle.apportion.proofs.Order.{served_left, served_first, even_unserved, comes_before}
use Rattle.apportion.proofs.Remainders.{exact, left_and_quotients, left_is}
use Rattle.apportion.proofs.Sums.{int_sum-map, int_sum_listed, int_sum_differences}

taken_is : (b : Bool) (w : ℕ) → cond b w 0 ≡ w * one_if b
taken_is true w = sym (mul-one w)
taken_is false w = sym (mul-zero w)

more_than : (q : ℕ) (b : Bool) → ltb q (q + one_if b) ≡ b
more_than q true = grind (arith, nat_tests)
more_than q false = grind (arith, nat_tests)

module _ (tie : Tie) (amount : ℕ) (shares : List Share) where
  pub length-portions : length (portions tie amount shares) ≡ length shares
  unfolding portions
  length-portions = length-map-range_with_len (λ k. minors (portion tie amount shares k)) 0 (length shares)

  pub length-fractions : length (fractions tie amount shares) ≡ length shares
  unfolding fractions
  length-fractions = length-map-range_with_len (λ k. fraction_of (fraction tie amount shares k)) 0 (length shares)

  pub portion_listed : (i : ℕ) → i < length shares → units_at (portions tie amount shares) i ≡ pos (portion tie amount shares i)
  unfolding portions
  portion_listed i l =
      ap (λ (m : Minor). m.0) (get_or-map-range_with_len (λ k. minors (portion tie amount shares k)) 0 (length shares) i i (minors 0) l (omega arith))

  fraction_listed : (i : ℕ) → i < length shares → parts_at (fractions tie amount shares) i ≡ fraction tie amount shares i
  unfolding fractions
  fraction_listed i l =
      ap (λ (f : Fraction). f.0) (get_or-map-range_with_len (λ k. fraction_of (fraction tie amount shares k)) 0 (length shares) i i (fraction_of (pos 0)) l (omega arith))

  -- the shares that get more than their quotient are those served
  raised_served : (i : ℕ) → i < length shares → raised amount shares (portions tie amount shares) i ≡ served tie amount shares i
  unfolding portion
  raised_served i l =
      ap (λ z. ltb (quotient amount shares i) (nat_abs z)) (portion_listed i l) ∙ more_than (quotient amount shares i) (served tie amount shares i)

  fraction_owed : (i : ℕ) → fraction tie amount shares i +ℤ pos (portion tie amount shares i * all_weights shares) ≡ pos (amount * weight_at shares i)
  unfolding fraction portion
  fraction_owed i =
      let W = all_weights shares in
      let q = quotient amount shares i in
      let e = exact amount shares i in
      let c = mul_comm W q in
      ⊎_elim
      (λ t. rw t (let d = add-mul q 1 W in let o = one-mul W in omega (arith, ints)))
      (λ f. rw f (let d = add-mul q 0 W in let o = zero-mul W in omega (arith, ints)))
      (cases_Bool (served tie amount shares i))

  module _ (law : Lawful tie) (h : 0 < all_weights shares) where
    whole_given : int_sum (map (λ (m : Minor). m.0) (portions tie amount shares)) ≡ pos amount
    unfolding portions portion
    whole_given =
        let n = length shares in
        let s : units_left amount shares + sum_below (quotient amount shares) n ≡ amount = left_and_quotients amount shares h in
        int_sum-map (λ m. m.0) (λ i. minors (portion tie amount shares i)) (range_with_len 0 n)
        ∙ int_sum_listed (portion tie amount shares) n
        ∙ ap pos (sum_add (quotient amount shares) (λ k. one_if (served tie amount shares k)) n ∙ omega (arith, served_left tie amount shares law h))

    down_or_up : (i : ℕ) → i < length shares → DownOrUp amount shares i (units_at (portions tie amount shares) i)
    unfolding portion
    down_or_up i l =
        ⊎_elim
        (λ t. inr (
          portion_listed i l ∙ ap (λ b. pos (quotient amount shares i + one_if b)) t,
          λ z. both_ways (served tie amount shares i) (even_unserved tie amount shares h i z) t,
        ))
        (λ f. inl (portion_listed i l ∙ ap (λ b. pos (quotient amount shares i + one_if b)) f ∙ ap pos (omega arith)))
        (cases_Bool (served tie amount shares i))

    fractions_cancel : int_sum (map (λ (f : Fraction). f.0) (fractions tie amount shares)) ≡ pos 0
    unfolding fractions fraction
    fractions_cancel =
        let n = length shares in
        let W = all_weights shares in
        let g : ℕ → ℕ = λ k. cond (served tie amount shares k) W 0 in
        let e : sum_below g n ≡ sum_below (remainder amount shares) n =
        sum_same g (λ k. W * one_if (served tie amount shares k)) n (λ k _. taken_is (served tie amount shares k) W)
        ∙ sum_scale W (λ k. one_if (served tie amount shares k)) n
        ∙ ap (λ x. W * x) (served_left tie amount shares law h)
        ∙ left_is amount shares h in
        int_sum-map (λ f. f.0) (λ i. fraction_of (fraction tie amount shares i)) (range_with_len 0 n)
        ∙ int_sum_differences (remainder amount shares) g n
        ∙ omega (arith, ints, e)

    pub fair : Fair tie (pos amount) shares (portions tie amount shares) (fractions tie amount shares)
    fair = record {
      portion_each = length-portions;
      fraction_each = length-fractions;
      whole = whole_given;
      rounded = down_or_up;
      served =
          sum_same (λ k. one_if (raised amount shares (portions tie amount shares) k)) (λ k. one_if (served tie amount shares k)) (length shares) (λ k l. ap one_if (raised_served k l))
          ∙ served_left tie amount shares law h;
      largest = λ i j li lj t f.
          comes_before tie amount shares i j (served_first tie amount shares law i j li lj (sym (raised_served i li) ∙ t) (sym (raised_served j lj) ∙ f));
      owes = λ i l. rw (portion_listed i l, fraction_listed i l) (let e = fraction_owed i in omega (arith, ints));
      cancel = fractions_cancel;
    }

pub always_fair : AlwaysFair
always_fair tie law amount shares h = fair tie amount shares law h

-- two lists that begin with the portions and the fractions
pub fair_lists : (tie : Tie) → Lawful tie → (amount : ℤ) (n : ℕ) (shares : List Share) → amount ≡ pos n → 0 < all_weights shares
    → (out : List Minor) (owed : List Fraction) (out' : List Minor) (owed' : List Fraction)
    → out' ≡ over (portions tie (nat_abs amount) shares) out
    → owed' ≡ over (fractions tie (nat_abs amount) shares) owed
    → Fair tie amount shares (take (length shares) out') (take (length shares) owed')
fair_lists tie law amount n shares z h out owed out' owed' e f =
    let p = portions tie n shares in
    let q = fractions tie n shares in
    let e' = rw z at e in
    let f' = rw z at f in
    rw (z, e', f', take_at p (drop (length p) out) (length shares) (length-portions tie n shares), take_at q (drop (length q) owed) (length shares) (length-fractions tie n shares))
    (always_fair tie law n shares h)
