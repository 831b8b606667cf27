-- A list whose first cells are cleared, and the sheet over it. Assumes nothing.
use Rattle.std.proofs.Common.{◌≡◌, ℕ, ◌<◌, ◌≤◌, min, Bool, true, cond, List, ◌++◌, length, get_or, take, drop, replicate, ℤ, pos, sym, refl, ap, ◌∙◌, arith}
use Rattle.std.proofs.lemmas.List.{length-take, length-append, length-replicate, get_or_append_left, get_or-replicate}
use Rattle.std.proofs.lemmas.Bool.{cond-true, le-leb, leb-true, and_parts, ltb-true}
use Rattle.ledger.specs.Limits.{listed, accounts, columns}
use Rattle.ledger.proofs.Meanings.{same_meaning}
use Rattle.sheet.specs.Cells.{sheet_cells, long, place_of, sheet_cell, sheet_over, sheet_opened, cleared, most_room}

-- the first cells as they were filled, and the rest
pub filled : (xs ys : List ℤ) → long xs ≡ true → ys ≡ replicate (length (take sheet_cells xs)) (pos 0) → ys ++ drop sheet_cells xs ≡ cleared xs
filled xs ys h e =
    let enough : sheet_cells ≤ length xs = leb-true _ _ h in
    let n : length (take sheet_cells xs) ≡ sheet_cells = simp length-take (omega arith) in
    ap (λ zs. zs ++ drop sheet_cells xs) (e ∙ ap (λ n. replicate n (pos 0)) n) ∙ sym (cond-true _ _ _ h)

-- each cell has its place among the first 4,352
place_bound : (a k : ℕ) → listed a k ≡ true → place_of a k < sheet_cells
place_bound a k h = omega (arith, ltb-true a accounts (and_parts _ _ h).0, ltb-true k columns (and_parts _ _ h).1)

-- every cell of a list that begins with so many zeros is 0
zero_cells : (xs : List ℤ) (b : Bool) (a k : ℕ) → cond (listed a k) (cond b (get_or (replicate sheet_cells (pos 0) ++ xs) (place_of a k) (pos 0)) (pos 0)) (pos 0) ≡ pos 0
zero_cells xs b a k =
    let first : listed a k ≡ true → get_or (replicate sheet_cells (pos 0) ++ xs) (place_of a k) (pos 0) ≡ pos 0 = λ h.
    get_or_append_left (replicate sheet_cells (pos 0)) xs (pos 0) (place_of a k) (omega (arith, place_bound a k h, length-replicate sheet_cells (pos 0)))
    ∙ get_or-replicate sheet_cells (place_of a k) (pos 0) (pos 0) (place_bound a k h) in
    grind (arith)

pub opened_meaning : (xs ys : List ℤ) (room asked : ℕ) → long xs ≡ true → ys ≡ cleared xs → room ≡ min most_room asked → sheet_over ys room ≡ sheet_opened xs asked
opened_meaning xs ys room asked h e r =
    let is : ys ≡ replicate sheet_cells (pos 0) ++ drop sheet_cells xs = e ∙ cond-true _ _ _ h in
    let still : sheet_cells ≤ length ys = rw is (simp (length-append, length-replicate) (omega arith)) in
    same_meaning (sheet_over ys room) (sheet_opened xs asked)
    (cond-true _ _ _ (le-leb sheet_cells (length ys) still) ∙ r ∙ sym (cond-true _ _ _ h))
    (λ a k. ap (λ zs. sheet_cell zs a k) is ∙ zero_cells (drop sheet_cells xs) _ a k)
    (λ a k. refl)
    (λ a k. refl)
