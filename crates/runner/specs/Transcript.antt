-- The whole transcript of an input. Assumes nothing.
use Rattle.std.specs.Prelude.{ℕ, cond, List, ◌++◌, length, Err, nat_le}
use Rattle.register.specs.Register.{by_reader}
use Rattle.model.specs.History.{after}
use Rattle.model.specs.State.{State}
use Rattle.reader.specs.Lines.{lines_of}
use Rattle.requests.specs.Requests.{Rule}
use Rattle.runner.specs.Answers.{most_input, answer_line, lines_calls, lines_text}
use Rattle.runner.specs.Audit.{audit_text}

-- the answers to the lines, and the audit of the book that they leave; 22 for an input that is too long
unfoldable pub transcript_of : Rule → State → List ℕ → List ℕ
transcript_of rule s input =
    cond (nat_le (length input) most_input)
    (lines_text rule 1 s (lines_of input) ++ audit_text (after s (lines_calls rule s (lines_of input))))
    (answer_line 0 (Err (by_reader 22 0)))
