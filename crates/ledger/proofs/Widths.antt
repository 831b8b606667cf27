-- Signed numbers of 64 and of 128 bits, read back from their bits. Assumes nothing.
use Rattle.std.proofs.Common.{◌≡◌, ℕ, ◌+◌, ◌*◌, ◌^◌, ◌<◌, ◌≤◌, ℤ, pos, ◌+ℤ◌, nat_abs, sym, ap, ◌∙◌, subst, arith, w64, SFits, to_z, of_z}
use borrow.Author.Differences.{ints, fits_in}
use lib.IntN.{+ℤ_assoc, +ℤ_idr}
use lib.Signed.{mag}
use mir.Syntax.{w128}
use Rattle.std.proofs.lemmas.Int.{to_z-of_z}
use Rattle.ledger.specs.Entries.{most_legs}

pub read_back : (z : ℤ) → mag z < 2 ^ 63 → to_z w64 (of_z w64 z) ≡ z
read_back z h = to_z-of_z w64 z (record { sfits = h })

-- a number of 64 bits, and the sum of a few
module _ (z r : ℤ) (n : ℕ) (h : mag z < 2 ^ 63) (k : nat_abs r ≤ n * 2 ^ 63) (few : n ≤ most_legs) where
  number_fits : SFits w128 z
  number_fits = record { sfits = omega arith }

  rise_fits : SFits w128 r
  rise_fits = fits_in w128 r (omega (arith, ints))

  sum_fits : SFits w128 (z +ℤ r)
  sum_fits = fits_in w128 (z +ℤ r) (omega (arith, ints))

  pub sum_back : to_z w128 (of_z w128 (to_z w128 (of_z w128 (to_z w64 (of_z w64 z))) +ℤ to_z w128 (of_z w128 r))) ≡ z +ℤ r
  sum_back = rw (read_back z h, to_z-of_z w128 z number_fits, to_z-of_z w128 r rise_fits) (to_z-of_z w128 (z +ℤ r) sum_fits)

-- a number of 64 bits is added to the sum s of n
module _ (s x : ℤ) (n : ℕ) (h : mag x < 2 ^ 63) (k : nat_abs s ≤ n * 2 ^ 63) (few : n + 1 < 2 ^ 64) where
  term_fits : SFits w128 x
  term_fits = record { sfits = omega arith }

  total_fits : SFits w128 (s +ℤ x)
  total_fits = fits_in w128 (s +ℤ x) (omega (arith, ints))

  added_back : to_z w128 (of_z w128 (s +ℤ to_z w128 (of_z w128 (to_z w64 (of_z w64 x))))) ≡ s +ℤ x
  added_back = rw (read_back x h, to_z-of_z w128 x term_fits) (to_z-of_z w128 (s +ℤ x) total_fits)

  bounded : nat_abs (s +ℤ x) ≤ (n + 1) * 2 ^ 63
  bounded = omega (arith, ints)

  -- x is the first of what was left of the whole
  pub added : (y left rest whole : ℤ) → x ≡ y → left ≡ y +ℤ rest → s +ℤ left ≡ whole → (to_z w128 (of_z w128 (s +ℤ to_z w128 (of_z w128 (to_z w64 (of_z w64 x))))) +ℤ rest ≡ whole) × (nat_abs (to_z w128 (of_z w128 (s +ℤ to_z w128 (of_z w128 (to_z w64 (of_z w64 x)))))) ≤ (n + 1) * 2 ^ 63)
  added y left rest whole e f g = (
    ap (λ z. z +ℤ rest) added_back ∙ +ℤ_assoc s x rest ∙ ap (λ z. s +ℤ z) (ap (λ z. z +ℤ rest) e ∙ sym f) ∙ g,
    subst (λ z. nat_abs z ≤ (n + 1) * 2 ^ 63) (sym added_back) bounded,
  )

-- nothing is left
pub none_left : (s left whole : ℤ) → left ≡ pos 0 → s +ℤ left ≡ whole → s ≡ whole
none_left s left whole e f = sym (+ℤ_idr s) ∙ ap (λ z. s +ℤ z) (sym e) ∙ f
