-- The cells of an audit, one column and one account on. Assumes nothing.
use Rattle.std.proofs.Common.{◌≡◌, ℕ, ◌+◌, Bool, true, false, cond, not, List, [], ◌∷◌, ◌++◌, length, ℤ, pos, negsuc, sym, refl, ap, ◌∙◌, append_assoc, append-nil, arith}
use Rattle.std.specs.List.{range_with_len, flat_map}
use Rattle.std.proofs.lemmas.List.FromFn.{filter_of_map_range_with_len_more, length-map-range_with_len, map-range_with_len_more}
use Rattle.std.proofs.lemmas.List.{length-append, length_push, flat_map_more, map-id}
use Rattle.std.proofs.lemmas.Bool.{ne_eqb}
use Rattle.ledger.specs.Entries.{is_zero}
use Rattle.ledger.specs.Limits.{columns}
use Rattle.ledger.specs.Meaning.{Meaning, row_of}
use Rattle.model.specs.State.{State}
use Rattle.transcript.specs.declared.audit.Cell.{Cell}
use Rattle.transcript.specs.Text.{cell_text}
use Rattle.runner.specs.Audit.{cell_at, holds_some, cells_of, cells_below}
use Rattle.runner.proofs.Joining.{joined-append}

module _ (s : State) (a : ℕ) where
  pub cells_none : cells_of s a 0 ≡ []
  unfolding cells_of
  cells_none = refl

  cells_more : (k : ℕ) → cells_of s a (k + 1) ≡ cells_of s a k ++ cond (holds_some (cell_at s a k)) (cell_at s a k ∷ []) []
  unfolding cells_of
  cells_more k = filter_of_map_range_with_len_more holds_some (cell_at s a) 0 k k (omega arith)

  pub cells_kept : (k : ℕ) → is_zero (s.ledger.cell a k) ≡ false → cells_of s a (k + 1) ≡ cells_of s a k ++ (cell_at s a k ∷ [])
  cells_kept k e = cells_more k ∙ ap (λ (b : Bool). cells_of s a k ++ cond (not b) (cell_at s a k ∷ []) []) e

  pub cells_same : (k : ℕ) → is_zero (s.ledger.cell a k) ≡ true → cells_of s a (k + 1) ≡ cells_of s a k
  cells_same k e = cells_more k ∙ ap (λ (b : Bool). cells_of s a k ++ cond (not b) (cell_at s a k ∷ []) []) e ∙ append-nil (cells_of s a k)

  -- the text of one cell more
  pub text_kept : (k : ℕ) (bs : List ℕ) → is_zero (s.ledger.cell a k) ≡ false → (bs ++ flat_map cell_text (cells_of s a k)) ++ cell_text (cell_at s a k) ≡ bs ++ flat_map cell_text (cells_of s a (k + 1))
  text_kept k bs e = flat_map_more cell_text bs (cells_of s a k) (cell_at s a k) ∙ ap (λ (xs : List Cell). bs ++ flat_map cell_text xs) (sym (cells_kept k e))

  pub count_kept : (k : ℕ) → is_zero (s.ledger.cell a k) ≡ false → length (cells_of s a k) + 1 ≡ length (cells_of s a (k + 1))
  count_kept k e = sym (length_push (cells_of s a k) (cell_at s a k)) ∙ ap length (sym (cells_kept k e))

module _ (s : State) where
  pub accounts_none : cells_below s 0 ≡ []
  unfolding cells_below
  accounts_none = refl

  counting_more : (n : ℕ) → range_with_len 0 (n + 1) ≡ range_with_len 0 n ++ (n ∷ [])
  counting_more n = sym (map-id (range_with_len 0 (n + 1))) ∙ map-range_with_len_more (λ (k : ℕ). k) 0 n n (omega arith) ∙ ap (λ (xs : List ℕ). xs ++ (n ∷ [])) (map-id (range_with_len 0 n))

  pub accounts_more : (n : ℕ) → cells_below s (n + 1) ≡ cells_below s n ++ cells_of s n columns
  unfolding cells_below
  accounts_more n =
      ap (flat_map (λ (a : ℕ). cells_of s a columns)) (counting_more n)
      ∙ joined-append (λ (a : ℕ). cells_of s a columns) (range_with_len 0 n) (n ∷ [])
      ∙ ap (λ (xs : List Cell). flat_map (λ (a : ℕ). cells_of s a columns) (range_with_len 0 n) ++ xs) (append-nil (cells_of s n columns))

  pub text_more : (n : ℕ) (bs : List ℕ) → (bs ++ flat_map cell_text (cells_below s n)) ++ flat_map cell_text (cells_of s n columns) ≡ bs ++ flat_map cell_text (cells_below s (n + 1))
  text_more n bs =
      append_assoc bs _ _
      ∙ ap (λ (xs : List ℕ). bs ++ xs) (sym (joined-append cell_text (cells_below s n) (cells_of s n columns)) ∙ ap (flat_map cell_text) (sym (accounts_more n)))

  pub count_more : (n : ℕ) → length (cells_below s n) + length (cells_of s n columns) ≡ length (cells_below s (n + 1))
  count_more n = sym (length-append (cells_below s n) (cells_of s n columns)) ∙ ap length (sym (accounts_more n))

pub zero_is : (z : ℤ) → z ≡ pos 0 → is_zero z ≡ true
zero_is z e = ap is_zero e

pub not_zero : (z : ℤ) → (z ≡ pos 0 → ⊥) → is_zero z ≡ false
not_zero (pos n) h = ne_eqb n 0 (λ (e : n ≡ 0). h (ap pos e))
not_zero (negsuc n) h = refl

-- an account has a cell for each column
pub row_length : (m : Meaning) (a : ℕ) → length (row_of m a) ≡ columns
unfolding row_of
row_length m a = length-map-range_with_len (m.cell a) 0 columns
