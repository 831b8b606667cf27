-- How much a line can hold. Assumes nothing.
use Rattle.std.specs.Prelude.{ℕ, ◌-◌}

-- the most words of a line
abbrev pub most_words : ℕ
most_words = 49

-- the most pairs of a line: after its first word, an account, a code and an amount
abbrev pub most_pairs : ℕ
most_pairs = most_words - 4

-- the most digits of a number
abbrev pub most_digits : ℕ
most_digits = 11
