-- One line more is done, and its answer written or not. Assumes nothing.
use Rattle.std.proofs.Common.{◌++◌, string_bytes, sym, ap, ◌∙◌, subst}
use Rattle.std.proofs.lemmas.Result.{err_from_is_err_and}
use Rattle.book.specs.View.{state_of}
use Rattle.requests.specs.Requests.{ruled}
use Rattle.runner.specs.Answers.{answer_line}
use Rattle.runner.proofs.Steps.{Going, going_start, going_more, going_stopped, going_end}
use Rattle.runner.proofs.answers.answer_lines.Goals as goal

pub loop-number-init : goal.loop-number-init
loop-number-init g c law =
    let same = c.into_iter-number-iterator.ensures.into_iter_gives in
    let rest = ap (λ z. z.rest.now) same ∙ c.of-number-items.ensures.rest in
    let number = ap (λ z. z.number) same ∙ c.of-number-items.ensures.first in
    rw (rest, number) (going_start _ _ _ _)

pub returns-in_err-write_answer-clause-done : goal.returns-in_err-write_answer-clause-done
returns-in_err-write_answer-clause-done g c =
    let p = err_from_is_err_and c.from_residual.result c.from_residual.ensures.1 in
    let given = c.in-Some.ensures.steps in
    let t = state_of g.L.Balances c.loop-number.book in
    let u = state_of g.L.Balances c.perform_line-outcome.new.book in
    rw p.1 (λ law. going_stopped (ruled law) (state_of g.L.Balances c.args.book.now) c.args.input.now (string_bytes c.args.transcript.now) t u (string_bytes c.loop-number.transcript) (string_bytes c.loop-number.transcript) c.loop-number.number-iterator.rest.now c.in-Some.line.now c.next.new.self.rest.now c.loop-number.number-iterator.number (c.loop-number.invariant law) given.2 (c.perform_line-outcome.ensures.state law))

pub loop-number-preserved : goal.loop-number-preserved
loop-number-preserved g c law =
    let given = c.in-Some.ensures.steps in
    let s = state_of g.L.Balances c.args.book.now in
    let t = state_of g.L.Balances c.loop-number.book in
    let u = state_of g.L.Balances c.perform_line-outcome.new.book in
    let before = string_bytes c.args.transcript.now in
    let since = string_bytes c.loop-number.transcript in
    let later = string_bytes c.write_answer.new.transcript in
    let left = c.next.new.self.rest.now in
    let number = c.loop-number.number-iterator.number in
    let told = c.in_ok-write_answer.ensures.text ∙ (λ i. since ++ answer_line (given.0 i) (c.perform_line-outcome.ensures.value law i)) in
    subst (λ n. Going (ruled law) s u c.args.input.now before later left n) (sym given.1)
    (going_more (ruled law) s c.args.input.now before t u since later c.loop-number.number-iterator.rest.now c.in-Some.line.now left number (c.loop-number.invariant law) given.2 (c.perform_line-outcome.ensures.state law) told)

pub returns-clause-done : goal.returns-clause-done
returns-clause-done g c law =
    going_end (ruled law) (state_of g.L.Balances c.args.book.now) c.args.input.now (string_bytes c.args.transcript.now) (state_of g.L.Balances c.loop-number.book) (string_bytes c.loop-number.transcript) c.loop-number.number-iterator.rest.now c.loop-number.number-iterator.number (c.loop-number.invariant law) c.in-None.ensures.steps
