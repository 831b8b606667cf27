-- A line's words, read by its pattern. Assumes nothing.
use Rattle.std.proofs.Common.{◌≡◌, ℕ, ◌<◌, ◌≤◌, leb, List, [], ◌∷◌, ◌++◌, map, length, None, Ok, Err, Result, sym, refl, ap, ◌∙◌, arith}
use Rattle.std.proofs.lemmas.List.{length-map}
use Rattle.std.proofs.lemmas.Bool.{lt-leb, le-leb, cond-false, cond-true}
use Rattle.reader.specs.declared.word.Word.{Word}
use Rattle.register.specs.Register.{Refusal}
use Rattle.reader.specs.Kinds.{read_piece, view, words_in}
use Rattle.reader.specs.Limits.{most_words}
use Rattle.reader.specs.Requests.{unknown_pattern, read_words, read_line}
use Rattle.reader.specs.Words.{words_of}

-- what was read already, and what is read on
abbrev pub prepend : {X : Type 0} → List X → Result (List X) Refusal → Result (List X) Refusal
prepend xs (Ok ys) = Ok (xs ++ ys)
prepend xs (Err e) = Err e

-- a line that has no more words than there is room for, and one that has more
pub line_read : (line : List ℕ) (words : List Word) → map view words ≡ words_in line → length words ≤ most_words → read_words (map view words) ≡ read_line line
unfolding read_line
line_read line words e few =
    ap read_words e
    ∙ sym (cond-true (leb (length (words_of line)) most_words) _ (Err unknown_pattern) (le-leb _ most_words (omega (arith, ap length e, length-map words view, length-map (words_of line) read_piece))))

pub line_long : (line : List ℕ) → most_words < length (words_of line) → Err unknown_pattern ≡ read_line line
unfolding read_line
line_long line many = sym (cond-false (leb (length (words_of line)) most_words) _ (Err unknown_pattern) (lt-leb _ most_words many))

pub line_empty : (line : List ℕ) → length line ≡ 0 → Ok None ≡ read_line line
unfolding read_line
line_empty [] none = refl
line_empty (b ∷ bs) none = absurd (omega arith)
