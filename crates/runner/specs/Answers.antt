-- The answers to the lines of an input, and the calls that the lines make, told from the latest back. Assumes nothing.
use Rattle.std.specs.Prelude.{ℕ, ◌+◌, cond, List, [], ◌∷◌, ◌++◌, length, ℤ, Some, None, Ok, Err, codes, decimal, Option, Result, nat_le}
use Rattle.std.specs.List.{flat_map}
use Rattle.std.specs.Fmt.{signed_decimal}
use Rattle.register.specs.Register.{Refusal, refusal_text}
use Rattle.model.specs.Calls.{Call}
use Rattle.model.specs.History.{after}
use Rattle.model.specs.State.{State}
use Rattle.reader.specs.Lines.{lines_of}
use Rattle.requests.specs.Requests.{Rule, line_calls, line_performed}
use Rattle.transcript.specs.Text.{newline}

-- the most bytes of an input
abbrev pub most_input : ℕ
most_input = 65_536

-- a number after a space
abbrev pub number_text : ℤ → List ℕ
number_text z = codes " " ++ signed_decimal z

-- ok and the numbers, or no and the refusal
abbrev pub said_text : Result (List ℤ) Refusal → List ℕ
said_text (Ok ns) = codes "ok" ++ flat_map number_text ns
said_text (Err refusal) = codes "no " ++ refusal_text refusal

-- what is said of a line: nothing if it has no words
abbrev pub worded_text : Result (Option (List ℤ)) Refusal → Option (List ℕ)
worded_text (Ok None) = None
worded_text (Ok (Some ns)) = Some (said_text (Ok ns))
worded_text (Err refusal) = Some (said_text (Err refusal))

-- a line of the transcript: the number of the line that it answers, and what is said of it
abbrev pub numbered : ℕ → Option (List ℕ) → List ℕ
numbered n None = []
numbered n (Some text) = decimal n ++ (codes " " ++ (text ++ newline))

-- the answer to line n
abbrev pub answer_line : ℕ → Result (Option (List ℤ)) Refusal → List ℕ
answer_line n outcome = numbered n (worded_text outcome)

-- the calls of lines: each line finds the book as the lines before left it
unfoldable pub lines_calls : Rule → State → List (List ℕ) → List Call
lines_calls rule s [] = []
lines_calls rule s (l ∷ ls) = lines_calls rule (after s (line_calls rule s l)) ls ++ line_calls rule s l

-- the answers to lines, of which the first is line n
unfoldable pub lines_text : Rule → ℕ → State → List (List ℕ) → List ℕ
lines_text rule n s [] = []
lines_text rule n s (l ∷ ls) = answer_line n (line_performed rule s l) ++ lines_text rule (n + 1) (after s (line_calls rule s l)) ls

-- the calls of an input: none if it is too long
unfoldable pub input_calls : Rule → State → List ℕ → List Call
input_calls rule s input = cond (nat_le (length input) most_input) (lines_calls rule s (lines_of input)) []
