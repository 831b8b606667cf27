-- The bounds that the arithmetic of a split needs. Assumes nothing.
use Rattle.std.proofs.Common.{◌≡◌, ℕ, ◌+◌, ◌*◌, ◌<◌, ◌≤◌, List, length, pos, ◌-ℤ◌, sym, refl, ap, subst, arith}
use Rattle.std.proofs.lemmas.Nat.{mul-le}
use Rattle.std.proofs.lemmas.Int.{ints}
use Rattle.std.proofs.lemmas.Bool.{lt-ltb, le-ltb}
use Rattle.apportion.specs.declared.share.Share.{Share}
use Rattle.apportion.specs.Places.{sum_below}
use Rattle.apportion.specs.Refusals.{most_weight, most_shares, Divisible}
use Rattle.apportion.specs.Splits.{weight_at, all_weights, quotient, remainder, units_left, rank, served, portion, fraction}
use Rattle.apportion.specs.Ties.{Tie}
use Rattle.apportion.proofs.Checks.{sum_more}
use Rattle.apportion.proofs.Counts.{sum_part, sum_bound}
use Rattle.apportion.proofs.Remainders.{quotients_within}

module _ (amount : ℕ) (shares : List Share) (w : ℕ) (s : Divisible amount shares w) where
  pub weighs : 0 < all_weights shares
  weighs = subst (λ n. 0 < n) s.sum s.sum_least

  -- W is small
  pub weights_small : w ≤ most_shares * most_weight
  unfolding all_weights
  weights_small =
      let b = sum_bound (weight_at shares) most_weight (length shares) s.weight in
      let e = s.sum in
      let f = s.shares_most in
      omega (arith, mul-le (length shares) most_weight most_shares most_weight f (omega arith))

  -- the quotients so far are no more than the amount
  pub quotients_so_far : (i : ℕ) → i ≤ length shares → sum_below (quotient amount shares) i ≤ amount
  quotients_so_far i h = omega (arith, sum_part (quotient amount shares) i (length shares) h, quotients_within amount shares weighs)

  pub units_within : sum_below (quotient amount shares) (length shares) ≤ amount
  units_within = quotients_within amount shares weighs

  pub quotient_small : (i : ℕ) → i < length shares → quotient amount shares i ≤ amount
  quotient_small i h = omega (arith, quotients_so_far (i + 1) (omega arith), sum_more (quotient amount shares) i)

  -- what a share served gets, and one that is not
  pub portion_served : (tie : Tie) (i : ℕ) → rank tie amount shares i < units_left amount shares
      → (portion tie amount shares i ≡ quotient amount shares i + 1) × (fraction tie amount shares i ≡ pos (remainder amount shares i) -ℤ pos w)
  unfolding portion fraction served
  portion_served tie i h =
      let t = lt-ltb (rank tie amount shares i) (units_left amount shares) h in
      let e = s.sum in
      rw t (refl, ap (λ w. pos (remainder amount shares i) -ℤ pos w) (sym e))

  pub portion_unserved : (tie : Tie) (i : ℕ) → units_left amount shares ≤ rank tie amount shares i
      → (portion tie amount shares i ≡ quotient amount shares i) × (fraction tie amount shares i ≡ pos (remainder amount shares i))
  unfolding portion fraction served
  portion_unserved tie i h =
      let t = le-ltb (rank tie amount shares i) (units_left amount shares) h in
      rw t (omega arith, omega (arith, ints))
