-- A line that is refused or asks for nothing makes no call. Assumes nothing.
use Rattle.std.proofs.Common.{◌≡◌, None, Ok, Option, Result, sym, ap, ◌∙◌}
use Rattle.std.specs.Option.{option_map}
use Rattle.std.proofs.lemmas.Result.{err_from_is_err_and}
use Rattle.register.specs.Register.{Refusal}
use Rattle.apportion.specs.Ties.{Lawful}
use Rattle.model.specs.History.{after}
use Rattle.model.proofs.Runs.{conserved_through}
use Rattle.reader.specs.Requests.{Asked, asked, read_line}
use Rattle.book.specs.View.{state_of}
use Rattle.requests.specs.Requests.{ruled, read_calls, read_performed, line_calls}
use Rattle.requests.proofs.performing.perform_line.Goals as goal

pub returns-in_err-request : goal.returns-in_err-request
unfolding after
returns-in_err-request g c =
    let s = state_of g.L.Balances c.args.book.now in
    let tie = g.R.TieRule.tie c.args.rule.now in
    let line = c.args.line.now in
    let p = err_from_is_err_and c.from_residual.result c.from_residual.ensures.1 in
    let e = c.in_err-request.ensures.value in
    let state : (law : Lawful tie) → s ≡ after s (line_calls (ruled law) s line) = λ law. ap (λ (r : Result (Option Asked) Refusal). after s (read_calls (ruled law) s r)) e in
    rw (p.1, p.2) (record {
      value = λ law. ap (read_performed (ruled law) s) e;
      state = state;
      law = λ law. conserved_through s (line_calls (ruled law) s line) s (state law);
    })

pub returns-in_default : goal.returns-in_default
unfolding after
returns-in_default g c =
    let s = state_of g.L.Balances c.args.book.now in
    let tie = g.R.TieRule.tie c.args.rule.now in
    let line = c.args.line.now in
    let e : Ok None ≡ read_line line = (λ i. Ok (option_map asked (sym c.in_default.is i))) ∙ c.in_ok-request.ensures.value in
    let state : (law : Lawful tie) → s ≡ after s (line_calls (ruled law) s line) = λ law. ap (λ (r : Result (Option Asked) Refusal). after s (read_calls (ruled law) s r)) e in
    record {
      value = λ law. ap (read_performed (ruled law) s) e;
      state = state;
      law = λ law. conserved_through s (line_calls (ruled law) s line) s (state law);
    }
