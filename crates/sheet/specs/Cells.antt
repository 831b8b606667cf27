-- The list of a sheet: a row of columns for each account. Assumes nothing.
use Rattle.std.specs.Prelude.{ℕ, ◌+◌, ◌*◌, min, Bool, cond, List, ◌++◌, length, drop, replicate, ℤ, pos, ◌+ℤ◌, fold, nat_le, slice_index_or, slice_set}
use Rattle.ledger.specs.declared.leg.Leg.{Leg}
use Rattle.ledger.specs.Limits.{accounts, columns, where_listed, floor_of, ceiling_of}
use Rattle.ledger.specs.Meaning.{Meaning, verdict, settled}

-- the cells of a sheet: 4,352
abbrev pub sheet_cells : ℕ
sheet_cells = accounts * columns

-- the most legs that a sheet takes
abbrev pub most_room : ℕ
most_room = 9_000_000

-- the list is long enough for a sheet
abbrev pub long : List ℤ → Bool
long xs = nat_le sheet_cells (length xs)

-- where the cell of account a in column k stands in the list
abbrev pub place_of : ℕ → ℕ → ℕ
place_of a k = a * columns + k

-- what the cell holds; a list that is too short is read as nothing but zeros
abbrev pub sheet_cell : List ℤ → ℕ → ℕ → ℤ
sheet_cell xs = where_listed (λ a k. cond (long xs) (slice_index_or xs (place_of a k) (pos 0)) (pos 0))

-- what a sheet over the list means, with so much room left
abbrev pub sheet_over : List ℤ → ℕ → Meaning
sheet_over xs room = record { room = cond (long xs) room 0; cell = sheet_cell xs; floor = floor_of; ceiling = ceiling_of }

-- what it means when it is opened: every cell is 0
abbrev pub sheet_opened : List ℤ → ℕ → Meaning
sheet_opened xs asked = record {
  room = cond (long xs) (min most_room asked) 0;
  cell = λ a k. pos 0;
  floor = floor_of;
  ceiling = ceiling_of;
}

-- the list then: its first cells cleared, or as it was if it is too short
abbrev pub cleared : List ℤ → List ℤ
cleared xs = cond (long xs) (replicate sheet_cells (pos 0) ++ drop sheet_cells xs) xs

-- the list with a leg added to its cell
abbrev pub added : List ℤ → Leg → List ℤ
added xs l = slice_set xs (place_of l.account l.column) (slice_index_or xs (place_of l.account l.column) (pos 0) +ℤ l.amount)

-- the list with each leg added to its cell, and the rest as it was
abbrev pub posted : List ℤ → List Leg → List ℤ
posted xs ls = fold added xs ls

-- the list once the legs were taken or refused: a refusal writes nothing
abbrev pub cells_after : List ℤ → ℕ → List Leg → List ℤ
cells_after xs room ls = settled (verdict (sheet_over xs room) ls) (posted xs ls) xs
