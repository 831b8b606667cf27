-- Lines given one after the other. Assumes nothing.
use Rattle.std.specs.Prelude.{◌≡◌, ℕ, ◌+◌, List, [], ◌∷◌, Option, MatchOption}
use Rattle.std.specs.Borrow.{Bor}
use Rattle.reader.specs.declared.lines.Lines.{Lines}
use Rattle.reader.specs.Lines.{lines_of}

-- what is left of the input
abbrev pub left_over : Lines → List ℕ
left_over s = s.rest.now

-- The first line of what is left is given with its number, and the next is numbered one more; or nothing is left.
abbrev pub GivesLine : Lines → Option (ℕ × Bor (List ℕ)) → Lines → Type 0
GivesLine s item t =
    MatchOption item (left_over s ≡ []) (λ given.
    (given.0 ≡ s.number) × (t.number ≡ s.number + 1) × (lines_of (left_over s) ≡ given.1.now ∷ lines_of (left_over t)))
