-- The record of a number: found, struck and restated at the place where `position` finds it. Assumes nothing.
use Rattle.std.proofs.Common.{◌≡◌, ℕ, zero, suc, ◌<◌, true, false, cond, eqb, Bool, List, [], ◌∷◌, ◌++◌, length, get_or, take, drop, set, Some, None, position, find, sym, refl, ap, ◌∙◌, arith}
use Rattle.std.specs.List.{remove, refill}
use Rattle.std.proofs.lemmas.Bool.{cond-true, cond-false}
use Rattle.std.proofs.lemmas.Grind.{common_steps}
use Rattle.std.proofs.lemmas.List.Quantifiers.{position-Some}
use Rattle.std.proofs.lemmas.List.Recursion.{same_from_clauses}
use Rattle.std.proofs.lemmas.List.Sums.{fails_before_first}
use Rattle.model.specs.declared.record.Record.{Record}
use Rattle.model.specs.declared.record.Standing.{Standing}
use Rattle.model.specs.Docket.{found, without, restated, with_standing}

abbrev pub bears : ℕ → Record → Bool
bears n r = eqb r.number n

-- ---- a change at the first record of a number: the record and those after it become others

module _ (n : ℕ) (change : Record → List Record → List Record) (changed : List Record → List Record) (nil : changed [] ≡ []) (step : (x : Record) (xs : List Record) → changed (x ∷ xs) ≡ cond (bears n x) (change x xs) (x ∷ changed xs)) where
  changed_first : (xs : List Record) (i : ℕ) (d : Record) → i < length xs → bears n (get_or xs i d) ≡ true → ((k : ℕ) → k < i → bears n (get_or xs k d) ≡ false) → changed xs ≡ take i xs ++ change (get_or xs i d) (drop (suc i) xs)
  changed_first [] i d l hit others = absurd (omega arith)
  changed_first (x ∷ xs) zero d l hit others = step x xs ∙ cond-true _ _ _ hit
  changed_first (x ∷ xs) (suc i) d l hit others =
      step x xs
      ∙ cond-false _ _ _ (others 0 (omega arith))
      ∙ ap (λ ys. x ∷ ys) (changed_first xs i d (omega arith) hit (λ k h. others (suc k) (omega arith)))

  changed_none : (xs : List Record) → ((k : ℕ) (d : Record) → k < length xs → bears n (get_or xs k d) ≡ false) → changed xs ≡ xs
  changed_none [] others = nil
  changed_none (x ∷ xs) others =
      step x xs
      ∙ cond-false _ _ _ (others 0 x (omega arith))
      ∙ ap (λ ys. x ∷ ys) (changed_none xs (λ k d h. others (suc k) d (omega arith)))

  changed_at : (xs : List Record) (i : ℕ) (d : Record) → position (bears n) xs ≡ Some i → changed xs ≡ take i xs ++ change (get_or xs i d) (drop (suc i) xs)
  changed_at xs i d at = let p = position-Some (bears n) xs i d at in changed_first xs i d p.0 p.1 p.2

  changed_nowhere : (xs : List Record) → position (bears n) xs ≡ None → changed xs ≡ xs
  changed_nowhere xs at = changed_none xs (λ k d l. fails_before_first (bears n) xs k d (grind arith))

set_split : (xs : List Record) (i : ℕ) (r : Record) → i < length xs → set xs i r ≡ take i xs ++ r ∷ drop (suc i) xs
set_split [] i r l = absurd (omega arith)
set_split (x ∷ xs) zero r l = refl
set_split (x ∷ xs) (suc i) r l = ap (λ ys. x ∷ ys) (set_split xs i r (omega arith))

-- ---- the operations of a docket

module _ (n : ℕ) (xs : List Record) where
  pub find_found : find (bears n) xs ≡ found n xs
  find_found = same_from_clauses (find (bears n)) (found n) (λ x o. cond (bears n x) (Some x) o) refl (λ _ _. refl) (λ _ _. refl) xs

  pub without_at : (i : ℕ) (d : Record) → position (bears n) xs ≡ Some i → remove xs i ≡ without n xs
  without_at i d at = sym (changed_at n (λ x ys. ys) (without n) refl (λ _ _. refl) xs i d at)

  pub without_nowhere : position (bears n) xs ≡ None → xs ≡ without n xs
  without_nowhere at = sym (changed_nowhere n (λ x ys. ys) (without n) refl (λ _ _. refl) xs at)

  -- the record is written through the slice of an `ArrayVec`
  pub restated_at : (s : Standing) (ws : List Record) (i : ℕ) (d : Record) → ws ≡ xs → position (bears n) xs ≡ Some i → refill (length xs) xs (set ws i (with_standing s (get_or ws i d))) ≡ restated n s xs
  restated_at s ws i d same at =
      let written : refill (length xs) xs (set xs i (with_standing s (get_or xs i d))) ≡ set xs i (with_standing s (get_or xs i d)) = grind (arith, common_steps) in
      ap (λ l. refill (length xs) xs (set l i (with_standing s (get_or l i d)))) same
      ∙ written
      ∙ set_split xs i _ (position-Some (bears n) xs i d at).0
      ∙ sym (changed_at n (λ x ys. with_standing s x ∷ ys) (restated n s) refl (λ _ _. refl) xs i d at)

  pub restated_nowhere : (s : Standing) → position (bears n) xs ≡ None → xs ≡ restated n s xs
  restated_nowhere s at = sym (changed_nowhere n (λ x ys. with_standing s x ∷ ys) (restated n s) refl (λ _ _. refl) xs at)
