-- The kinds of words. Assumes nothing.
use Rattle.std.specs.Prelude.{ℕ, List, map, ℤ, Some, None, Option}
use Rattle.reader.specs.declared.word.Word.{Word}
use Rattle.reader.specs.declared.word.Word.TheVariants.{Name, Number, Signed, Code, Pair}
use Rattle.reader.specs.Numbers.{number_in, signed_in, code_in, pair_in}
use Rattle.reader.specs.Words.{Piece, words_of}

-- what a word says
pub data Kind : Type 0 where
  name : Kind
  number : ℕ → Kind
  signed : ℤ → Kind
  code : List ℕ → Kind
  pair : ℕ → ℕ → Kind

-- a word as it stands in its line, with what it says
pub record WordRead : Type 0 where
  pub column : ℕ
  pub text : List ℕ
  pub kind : Kind

-- the first that a word can be read as
abbrev pub kind_by : Option ℕ → Option ℤ → Option (List ℕ) → Option (ℕ × ℕ) → Kind
kind_by (Some n) z c p = number n
kind_by None (Some z) c p = signed z
kind_by None None (Some c) p = code c
kind_by None None None (Some p) = pair p.0 p.1
kind_by None None None None = name

-- the kind of a word: a name is what is nothing else
abbrev pub kind_of : List ℕ → Kind
kind_of bs = kind_by (number_in bs) (signed_in bs) (code_in bs) (pair_in bs)

-- a word of a line, read
abbrev pub read_piece : Piece → WordRead
read_piece p = record { column = p.column; text = p.text; kind = kind_of p.text }

-- the words of a line, read
abbrev pub words_in : List ℕ → List WordRead
words_in bs = map read_piece (words_of bs)

-- a word of the program, with the bytes that it borrows as a list
abbrev pub view : Word → WordRead
view (Name s) = record { column = s.column; text = s.text.now; kind = name }
view (Number s n) = record { column = s.column; text = s.text.now; kind = number n }
view (Signed s z) = record { column = s.column; text = s.text.now; kind = signed z }
view (Code s bs) = record { column = s.column; text = s.text.now; kind = code bs }
view (Pair s m n) = record { column = s.column; text = s.text.now; kind = pair m n }
