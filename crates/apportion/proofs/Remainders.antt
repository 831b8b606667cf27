-- Quotients, remainders and the units left. Assumes nothing.
use Rattle.std.proofs.Common.{◌≡◌, ℕ, ◌+◌, ◌*◌, ◌<◌, ◌≤◌, true, ltb, List, length, sym, refl, ap, ◌∙◌, ⊎_elim, mod-lt, mul_comm, mul-zero, mul-one, mul-add, arith}
use native.Mathlib.Nat.{div-add-mod, le_of_mul-le-mul_left}
use Rattle.std.proofs.lemmas.Bool.{cases_Bool, ltb-false}
use Rattle.apportion.specs.declared.share.Share.{Share}
use Rattle.apportion.specs.Places.{sum_below, one_if, count}
use Rattle.apportion.specs.Splits.{weight_at, all_weights, quotient, remainder, units_left}
use Rattle.apportion.proofs.Counts.{sum_mono, sum_same, sum_add, sum_scale, count_mono, count_all}

module _ (amount : ℕ) (shares : List Share) where
  -- a share's exact part in parts of 1 ÷ W
  pub exact : (i : ℕ) → amount * weight_at shares i ≡ all_weights shares * quotient amount shares i + remainder amount shares i
  unfolding quotient remainder
  exact i = sym (div-add-mod (amount * weight_at shares i) (all_weights shares))

  pub remainder_below : 0 < all_weights shares → (i : ℕ) → remainder amount shares i < all_weights shares
  unfolding remainder
  remainder_below h i = mod-lt (amount * weight_at shares i) h

  -- the same over all shares
  exact_all : amount * all_weights shares ≡ all_weights shares * sum_below (quotient amount shares) (length shares) + sum_below (remainder amount shares) (length shares)
  unfolding all_weights
  exact_all =
      let n = length shares in
      sym (sum_scale amount (weight_at shares) n)
      ∙ sum_same (λ k. amount * weight_at shares k) (λ k. all_weights shares * quotient amount shares k + remainder amount shares k) n (λ k _. exact k)
      ∙ sum_add (λ k. all_weights shares * quotient amount shares k) (remainder amount shares) n
      ∙ ap (λ x. x + sum_below (remainder amount shares) n) (sum_scale (all_weights shares) (quotient amount shares) n)

  pub quotients_within : 0 < all_weights shares → sum_below (quotient amount shares) (length shares) ≤ amount
  quotients_within h =
      let le : all_weights shares * sum_below (quotient amount shares) (length shares) ≤ all_weights shares * amount = omega (arith, exact_all, mul_comm amount (all_weights shares)) in
      le_of_mul-le-mul_left le h

  pub left_and_quotients : 0 < all_weights shares → units_left amount shares + sum_below (quotient amount shares) (length shares) ≡ amount
  unfolding units_left
  left_and_quotients h = omega (arith, quotients_within h)

  -- the units left are made of the remainders
  pub left_is : 0 < all_weights shares → all_weights shares * units_left amount shares ≡ sum_below (remainder amount shares) (length shares)
  left_is h =
      let q = sum_below (quotient amount shares) (length shares) in
      let e = left_and_quotients h in
      omega (arith, exact_all, mul_comm amount (all_weights shares), ap (λ x. all_weights shares * x) e, mul-add (all_weights shares) (units_left amount shares) q)

  -- how many shares have a remainder
  abbrev pub uneven : ℕ
  uneven = count (λ k. ltb 0 (remainder amount shares k)) (length shares)

  remainder_le : 0 < all_weights shares → (k : ℕ) → remainder amount shares k ≤ all_weights shares * one_if (ltb 0 (remainder amount shares k))
  remainder_le h k =
      ⊎_elim
      (λ t. rw t (omega (arith, mul-one (all_weights shares), remainder_below h k)))
      (λ f. rw f (omega (arith, mul-zero (all_weights shares), ltb-false 0 (remainder amount shares k) f)))
      (cases_Bool (ltb 0 (remainder amount shares k)))

  pub left_le_uneven : 0 < all_weights shares → units_left amount shares ≤ uneven
  left_le_uneven h =
      let n = length shares in
      let le : all_weights shares * units_left amount shares ≤ all_weights shares * uneven =
      omega (
        arith,
        left_is h,
        sum_mono (remainder amount shares) (λ k. all_weights shares * one_if (ltb 0 (remainder amount shares k))) n (λ k _. remainder_le h k),
        sum_scale (all_weights shares) (λ k. one_if (ltb 0 (remainder amount shares k))) n,
      ) in
      le_of_mul-le-mul_left le h

  pub left_le_length : 0 < all_weights shares → units_left amount shares ≤ length shares
  left_le_length h =
      omega (arith, left_le_uneven h, count_all (length shares), count_mono (λ k. ltb 0 (remainder amount shares k)) (λ _. true) (length shares) (λ _ _ _. refl))
