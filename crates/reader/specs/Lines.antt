-- The lines of an input. Assumes nothing.
use Rattle.std.specs.Prelude.{◌≡◌, ℕ, cond, ◌⊎◌, List, [], ◌∷◌, ◌++◌, ◌==◌, ◌≢◌}
use Rattle.std.specs.List.{AllByRecursion}
use Rattle.reader.specs.Bytes.{newline}

-- the byte b in front of the first line
abbrev pub onto : ℕ → List (List ℕ) → List (List ℕ)
onto b [] = (b ∷ []) ∷ []
onto b (l ∷ ls) = (b ∷ l) ∷ ls

-- the lines of an input: each ends with byte 10, which is no part of it, or with the input
abbrev pub lines_of : List ℕ → List (List ℕ)
lines_of [] = []
lines_of (b ∷ bs) = cond (b == newline) ([] ∷ lines_of bs) (onto b (lines_of bs))

-- the lines joined by byte 10
abbrev pub rejoined : List (List ℕ) → List ℕ
rejoined [] = []
rejoined (l ∷ []) = l
rejoined (l ∷ m ∷ ls) = l ++ (newline ∷ rejoined (m ∷ ls))

-- the byte 10 that ends an input, if its last byte is that
abbrev pub last_newline : List ℕ → List ℕ
last_newline [] = []
last_newline (b ∷ []) = cond (b == newline) (newline ∷ []) []
last_newline (b ∷ c ∷ bs) = last_newline (c ∷ bs)

-- no byte of the text is byte 10
abbrev pub OneLine : List ℕ → Type 0
OneLine bs = AllByRecursion (λ b. b ≢ newline) bs

-- A line cut from the front of an input has no byte 10 in it; with the byte 10 that ends it and the rest it is the
-- input, unless it ends with the input: then it is the input, and no rest is left.
pub record Cut (input line rest : List ℕ) : Type 0 where
  pub one_line : OneLine line
  pub joins : (input ≡ line ++ (newline ∷ rest)) ⊎ ((input ≡ line) × (rest ≡ []))
