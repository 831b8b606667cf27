-- A test of every number below a limit, one number on. Assumes nothing.
use Rattle.std.proofs.Common.{◌≡◌, ℕ, zero, suc, ◌+◌, ◌<◌, Bool, true, false, sym, refl, ap, ◌∙◌, ⊎_elim, add-one, arith}
use Rattle.std.proofs.lemmas.Bool.{and_from, and_left, and_right, cases_eq}
use Rattle.model.specs.State.{all_below}

module _ (p : ℕ → Bool) where
  pub below_none : all_below p 0 ≡ true
  unfolding all_below
  below_none = refl

  pub below_more : (n : ℕ) → all_below p n ≡ true → p n ≡ true → all_below p (n + 1) ≡ true
  unfolding all_below
  below_more n h e = ap (all_below p) (add-one n) ∙ and_from (all_below p n) (p n) h e

  -- one number that fails the test
  pub below_not : (n k : ℕ) → k < n → p k ≡ false → all_below p n ≡ false
  unfolding all_below
  below_not zero k l e = absurd (omega arith)
  below_not (suc n) k l e =
      ⊎_elim
      (λ (s : k ≡ n). and_right (all_below p n) (p n) (ap p (sym s) ∙ e))
      (λ (d : k ≡ n → ⊥). and_left (all_below p n) (p n) (below_not n k (omega arith) e))
      (cases_eq k n)
