-- The words of a line. Assumes nothing.
use Rattle.std.specs.Prelude.{ℕ, suc, cond, List, [], ◌∷◌, ◌==◌}
use Rattle.reader.specs.Bytes.{space}

-- a word as it stands in its line: the column of its first byte, from 1, and its bytes
pub record Piece : Type 0 where
  pub column : ℕ
  pub text : List ℕ

-- the byte b in column c goes to the front of the word in the next column, or is a word of its own
abbrev pub extend : ℕ → ℕ → List Piece → List Piece
extend c b [] = record { column = c; text = b ∷ [] } ∷ []
extend c b (w ∷ ws) =
    cond (w.column == suc c)
    (record { column = c; text = b ∷ w.text } ∷ ws)
    (record { column = c; text = b ∷ [] } ∷ (w ∷ ws))

-- the words of bytes of which the first stands in column c: what stands between spaces
abbrev pub words_from : ℕ → List ℕ → List Piece
words_from c [] = []
words_from c (b ∷ bs) = cond (b == space) (words_from (suc c) bs) (extend c b (words_from (suc c) bs))

-- the words of a line
abbrev pub words_of : List ℕ → List Piece
words_of bs = words_from 1 bs
