-- What lines, words and numbers are, in the subject's terms. Assumes nothing.
use Rattle.std.specs.Prelude.{◌≡◌, ℕ, ◌+◌, ◌-◌, ◌^◌, ◌<◌, ◌≤◌, Bool, cond, ◌&&◌, List, [], ◌∷◌, ◌++◌, length, take, drop, Some, decimal, ◌==◌, ◌≢◌, nat_le, nat_lt, slice_index}
use Rattle.std.specs.List.{AllByRecursion}
use Rattle.reader.specs.Bytes.{space}
use Rattle.reader.specs.Limits.{most_digits}
use Rattle.reader.specs.Lines.{OneLine, lines_of, rejoined, last_newline}
use Rattle.reader.specs.Numbers.{number_in}
use Rattle.reader.specs.Words.{Piece, words_of}

-- The lines of an input have no byte 10 in them; joined by byte 10, and with the byte 10 that ends the input, if it ends
-- so, they are the input.
pub record LinesRejoin : Type 0 where
  pub one_line : (input : List ℕ) → AllByRecursion OneLine (lines_of input)
  pub rejoins : (input : List ℕ) → rejoined (lines_of input) ++ last_newline input ≡ input

-- A word is the part of the bytes at its column, the first byte standing in column c; it is not empty and has no space in
-- it.
pub record Stands (c : ℕ) (bs : List ℕ) (w : Piece) : Type 0 where
  pub later : c ≤ w.column
  pub part : take (length w.text) (drop (w.column - c) bs) ≡ w.text
  pub some : 0 < length w.text
  pub solid : AllByRecursion (λ b. b ≢ space) w.text

-- words in rising order of column, with a column between each and the next that belongs to neither
abbrev pub Apart : List Piece → Type 0
Apart [] = Unit {0}
Apart (v ∷ []) = Unit {0}
Apart (v ∷ w ∷ ws) = (v.column + length v.text < w.column) × Apart (w ∷ ws)

-- whether the byte in column k belongs to a word
abbrev pub holds : ℕ → Piece → Bool
holds k w = nat_le w.column k && nat_lt k (w.column + length w.text)

-- how many of the words the byte in column k belongs to
abbrev pub holders : ℕ → List Piece → ℕ
holders k [] = 0
holders k (w ∷ ws) = cond (holds k w) 1 0 + holders k ws

-- Words cover bytes of which the first stands in column c: each is the part at its column, they are apart, and a byte that
-- is a space belongs to none, any other byte to exactly one.
pub record Covers (c : ℕ) (bs : List ℕ) (ws : List Piece) : Type 0 where
  pub parts : AllByRecursion (Stands c bs) ws
  pub apart : Apart ws
  pub whole : (i : ℕ) → i < length bs → holders (c + i) ws ≡ cond (slice_index bs i == space) 0 1

-- the words of a line cover it
abbrev pub WordsCover : Type 0
WordsCover = (line : List ℕ) → Covers 1 line (words_of line)

-- A number of at most 11 digits reads back from its decimal digits, and is read from nothing else.
pub record OneSpelling : Type 0 where
  pub reads_back : (n : ℕ) → n < 10 ^ most_digits → number_in (decimal n) ≡ Some n
  pub nothing_else : (bs : List ℕ) (n : ℕ) → number_in bs ≡ Some n → (bs ≡ decimal n) × (n < 10 ^ most_digits)
