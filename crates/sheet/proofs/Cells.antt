-- A leg is added to its own cell and to no other. Assumes nothing.
use Rattle.std.proofs.Common.{◌≡◌, ℕ, ◌<◌, ◌≤◌, true, ◌≢◌, List, [], ◌∷◌, length, get_or, set, ℤ, pos, ◌+ℤ◌, refl, ◌∙◌, arith}
use Rattle.std.specs.List.{AllByRecursion}
use Rattle.std.proofs.lemmas.Int.{ints}
use Rattle.std.proofs.lemmas.List.{length-set, get_or-set_same, get_or-set_other}
use Rattle.std.proofs.lemmas.Bool.{cond-true, le-leb}
use Rattle.std.proofs.lemmas.Bool.Decides.{nat_tests}
use Rattle.ledger.specs.declared.leg.Leg.{Leg}
use Rattle.ledger.specs.Entries.{InRange}
use Rattle.ledger.specs.Legs.{in_column, in_cell, rise}
use Rattle.ledger.specs.Limits.{listed}
use Rattle.ledger.proofs.Rises.{rise_none, rise_first}
use Rattle.sheet.specs.Cells.{sheet_cells, place_of, sheet_cell, added, posted}

-- the cell as the list has it
pub cell_read : (xs : List ℤ) (a k : ℕ) → sheet_cells ≤ length xs → listed a k ≡ true → sheet_cell xs a k ≡ get_or xs (place_of a k) (pos 0)
cell_read xs a k h t = cond-true _ _ _ t ∙ cond-true _ _ _ (le-leb sheet_cells (length xs) h)

module _ (xs : List ℤ) (l : Leg) (range : InRange l) (enough : sheet_cells ≤ length xs) where
  pub place_in : place_of l.account l.column < length xs
  place_in = omega (arith, range.account, range.column, enough)

  pub cell_added : (a k : ℕ) → sheet_cell (added xs l) a k ≡ sheet_cell xs a k +ℤ in_cell l a k
  unfolding in_cell in_column
  cell_added a k =
      let p : ℕ = place_of l.account l.column in
      let v : ℤ = get_or xs p (pos 0) +ℤ l.amount in
      let same : get_or (set xs p v) p (pos 0) ≡ v = get_or-set_same xs p v (pos 0) place_in in
      let other : place_of a k ≢ p → get_or (set xs p v) (place_of a k) (pos 0) ≡ get_or xs (place_of a k) (pos 0) = get_or-set_other xs p (place_of a k) v (pos 0) in
      let still : length (set xs p v) ≡ length xs = length-set xs p v in
      let r = range.account in
      let s = range.column in
      grind (arith, ints, nat_tests)

pub posted_length : (xs : List ℤ) (ls : List Leg) → length (posted xs ls) ≡ length xs
posted_length xs [] = refl
posted_length xs (l ∷ ls) = posted_length (added xs l) ls ∙ length-set xs (place_of l.account l.column) (get_or xs (place_of l.account l.column) (pos 0) +ℤ l.amount)

-- the legs are added each to its own cell
pub cell_posted : (xs : List ℤ) (ls : List Leg) → AllByRecursion InRange ls → sheet_cells ≤ length xs → (a k : ℕ) → sheet_cell (posted xs ls) a k ≡ sheet_cell xs a k +ℤ rise ls a k
cell_posted xs [] r h a k = omega (arith, ints, rise_none a k)
cell_posted xs (l ∷ ls) r h a k =
    let still : sheet_cells ≤ length (added xs l) = omega (arith, h, length-set xs (place_of l.account l.column) (get_or xs (place_of l.account l.column) (pos 0) +ℤ l.amount)) in
    omega (arith, ints, cell_posted (added xs l) ls r.1 still a k, cell_added xs l r.0 h a k, rise_first l ls a k)
