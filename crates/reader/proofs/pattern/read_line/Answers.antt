-- Assumes nothing.
use Rattle.std.proofs.Common.{◌≡◌, ◌≤◌, length, map, Some, None, Ok, ap, ◌∙◌, arith, rules, tests}
use Rattle.std.specs.Option.{option_map}
use Rattle.std.proofs.lemmas.Option.{MatchOption-at_none, MatchOption-at_some}
use Rattle.register.specs.Register.{reader_answer}
use Rattle.reader.specs.Kinds.{view}
use Rattle.reader.specs.Limits.{most_words}
use Rattle.reader.specs.Requests.{asked, given_by, read_line, read_words}
use Rattle.reader.proofs.Answering.{line_answered}
use Rattle.reader.proofs.Patterns.{line_read, line_long, line_empty}
use Rattle.reader.proofs.pattern.read_line.Goals as goal

pub returns-then-is_empty : goal.returns-then-is_empty
returns-then-is_empty c =
    let value : given_by (option_map asked) (Ok None) ≡ read_line c.args.line.now = line_empty c.args.line.now (search (rules, tests)) in
    record { value = value; answers = line_answered c.args.line.now _ value }

pub returns-in_err-ok_or : goal.returns-in_err-ok_or
returns-in_err-ok_or c =
    let none : c.split_words.result ≡ None = grind arith in
    let many = MatchOption-at_none _ _ none c.split_words.ensures in
    let value : given_by (option_map asked) (reader_answer c.from_residual.result) ≡ read_line c.args.line.now = grind (arith, line_long c.args.line.now many) in
    record { value = value; answers = line_answered c.args.line.now _ value }

pub returns : goal.returns
returns c =
    let some : c.split_words.result ≡ Some tt = grind arith in
    let words = c.split_words.new.words in
    let all = MatchOption-at_some _ _ _ some c.split_words.ensures in
    let few : length words.items ≤ most_words = omega (arith, c.as_slice.ensures.fits, ap length c.as_slice.ensures.value) in
    let value = c.read_words.ensures ∙ ap (λ ws. read_words (map view ws)) c.as_slice.ensures.value ∙ line_read c.args.line.now words.items all few in
    record { value = value; answers = line_answered c.args.line.now _ value }
