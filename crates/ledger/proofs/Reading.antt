-- A list that was made by a function of the place. Assumes nothing.
use Rattle.std.proofs.Common.{◌≡◌, ℕ, zero, suc, ◌+◌, ◌<◌, ◌≤◌, List, slice_index_or, ◌∙◌, subst, arith}
use Rattle.std.specs.Fn.{Called}
use Rattle.std.specs.Array.{IsFromFnResultFrom}
use denote.Param.Members.{Mut}
use Rattle.ledger.proofs.Rises.{by_equal}

module _ {F B : Type 0} (g : Mut F (ℕ × Unit {0}) B) (f : F) (h : ℕ → B) (gives : (i : ℕ) (y : B) (q : F) → Called g f (i, tt) y q → (q ≡ f) × (y ≡ h i)) where
  pub made_at : (ys : List B) (n i : ℕ) → IsFromFnResultFrom g f ys i n → (k : ℕ) (d : B) → i ≤ k → k < i + n → slice_index_or ys k d ≡ h k
  made_at ys zero i e k d low high = absurd (omega arith)
  made_at ys (suc n) i (q, y, is, call, rest) k d low high =
      let p = gives i y q call in
      by_equal i k
      (λ s. subst (λ j. slice_index_or ys j d ≡ h j) s (is.1 d ∙ p.1))
      (λ s. made_at ys n (i + 1) (subst (λ r. IsFromFnResultFrom g r ys (i + 1) n) p.0 rest) k d (omega (arith, s)) (omega arith))
