-- A line is answered rightly. Assumes nothing.
use Rattle.std.proofs.Common.{◌≡◌, ℕ, List, Option, Result, sym, ◌∙◌}
use Rattle.register.specs.Register.{Refusal}
use Rattle.reader.specs.Requests.{Asked, read_line}
use Rattle.reader.specs.Writing.{Answers}
use Rattle.reader.proofs.Refusing.{line_refused}
use Rattle.reader.proofs.Written.{line_spelt, spelt_read, line_blank, blank_read}

pub line_answered : (line : List ℕ) (r : Result (Option Asked) Refusal) → r ≡ read_line line → Answers line r
line_answered line r is = record {
  blank = (λ h. line_blank line (sym is ∙ h), λ h. is ∙ blank_read line h);
  reads = λ asked h. line_spelt line asked (sym is ∙ h);
  spelled = λ asked h. is ∙ spelt_read line asked h;
  refused = λ refusal h. line_refused line refusal (sym is ∙ h);
}
