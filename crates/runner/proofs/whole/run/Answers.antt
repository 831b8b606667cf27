-- An input that is too long, and one whose lines are done. Assumes nothing.
use Rattle.std.proofs.Common.{◌≡◌, ℕ, List, [], ◌++◌, length, Err, string_bytes, sym, refl, ap, ◌∙◌, append_assoc, arith, rules}
use Rattle.std.proofs.lemmas.Result.{err_from_is_err_and, IfOk-weaker}
use Rattle.std.proofs.lemmas.Bool.{le-leb, lt-leb, cond-true, cond-false}
use Rattle.register.specs.declared.cause.ReaderCause.TheVariants.{InputTooLong}
use Rattle.register.specs.declared.fault.Fault.{Fault}
use Rattle.register.specs.declared.fault.Fault.TheVariants.{Reader}
use Rattle.register.specs.Register.{by_reader, registered}
use Rattle.apportion.specs.Ties.{Lawful}
use Rattle.model.specs.History.{after}
use Rattle.model.proofs.Runs.{conserved_through}
use Rattle.reader.specs.Lines.{lines_of}
use Rattle.book.specs.View.{state_of}
use Rattle.requests.specs.Requests.{ruled}
use Rattle.runner.specs.Answers.{most_input, answer_line, lines_calls, lines_text, input_calls}
use Rattle.runner.specs.Audit.{audit_text}
use Rattle.runner.specs.Transcript.{transcript_of}
use Rattle.runner.proofs.Joining.{made_anyway, refused_anyway}
use Rattle.runner.proofs.Steps.{all_stopped, none_done, input_leaves_none_out}
use Rattle.runner.proofs.whole.run.Goals as goal

pub returns-then-input-gt-MOST_INPUT : goal.returns-then-input-gt-MOST_INPUT
unfolding transcript_of input_calls after
returns-then-input-gt-MOST_INPUT g c =
    let s = state_of g.L.Balances c.args.book.now in
    let tie = g.R.TieRule.tie c.args.rule.now in
    let input = c.args.input.now in
    let r = c.write_answer.result in
    let before = string_bytes c.args.transcript.now in
    let is : c.into.result ≡ Reader (record { cause = InputTooLong; place = 0 }) = search rules in
    let long = lt-leb (length input) most_input c.if-input-gt-MOST_INPUT.true in
    let none : (law : Lawful tie) → input_calls (ruled law) s input ≡ [] = λ law. cond-false _ (lines_calls (ruled law) s (lines_of input)) [] long in
    let state : (law : Lawful tie) → s ≡ after s (input_calls (ruled law) s input) = λ law. ap (after s) (sym (none law)) in
    record {
      transcript = λ law. IfOk-weaker r _ _ (λ _ e. e ∙ ap (λ (f : Fault). before ++ answer_line 0 (Err (registered f))) is ∙ ap (λ (bs : List ℕ). before ++ bs) (sym (cond-false _ _ (answer_line 0 (Err (by_reader 22 0))) long))) c.write_answer.ensures.text;
      state = λ law. made_anyway r (state law);
      law = λ law. made_anyway r (conserved_through s (input_calls (ruled law) s input) s (state law));
      parked = λ law. input_leaves_none_out (ruled law) s input;
      unmoved = λ _. refl;
      memory = λ law. refused_anyway r (none_done (ruled law) s input);
    }

pub returns-in_err-answer_lines : goal.returns-in_err-answer_lines
returns-in_err-answer_lines g c =
    let s = state_of g.L.Balances c.args.book.now in
    let p = err_from_is_err_and c.from_residual.result c.from_residual.ensures.1 in
    rw p.1 (record {
      transcript = λ law. tt;
      state = λ law. tt;
      law = λ law. tt;
      parked = λ law. input_leaves_none_out (ruled law) s c.args.input.now;
      unmoved = λ more. absurd (omega (arith, more, c.if-input-gt-MOST_INPUT.false));
      memory = c.in_err-answer_lines.ensures.done;
    })

pub returns : goal.returns
unfolding transcript_of input_calls
returns g c =
    let s = state_of g.L.Balances c.args.book.now in
    let t = state_of g.L.Balances c.answer_lines.new.book in
    let tie = g.R.TieRule.tie c.args.rule.now in
    let input = c.args.input.now in
    let before = string_bytes c.args.transcript.now in
    let since = string_bytes c.answer_lines.new.transcript in
    let r = c.write_audit.result in
    let short = le-leb (length input) most_input c.if-input-gt-MOST_INPUT.false in
    let done = c.in_ok-answer_lines.ensures.done in
    let all : (law : Lawful tie) → input_calls (ruled law) s input ≡ lines_calls (ruled law) s (lines_of input) = λ law. cond-true _ _ [] short in
    let state : (law : Lawful tie) → t ≡ after s (input_calls (ruled law) s input) = λ law. (done law).state ∙ ap (after s) (sym (all law)) in
    record {
      transcript = λ law. IfOk-weaker r _ _ (λ _ e. e
          ∙ (λ i. (done law).text i ++ audit_text ((done law).state i))
          ∙ append_assoc before _ _
          ∙ ap (λ (bs : List ℕ). before ++ bs) (sym (cond-true _ (lines_text (ruled law) 1 s (lines_of input) ++ audit_text (after s (lines_calls (ruled law) s (lines_of input)))) _ short))) c.write_audit.ensures;
      state = λ law. made_anyway r (state law);
      law = λ law. made_anyway r (conserved_through s (input_calls (ruled law) s input) t (state law));
      parked = λ law. input_leaves_none_out (ruled law) s input;
      unmoved = λ more. absurd (omega (arith, more, c.if-input-gt-MOST_INPUT.false));
      memory = λ law. refused_anyway r (all_stopped (ruled law) s input before t since (done law));
    }
