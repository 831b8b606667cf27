-- Some first lines are done. Assumes nothing.
use Rattle.std.proofs.Common.{string_bytes}
use Rattle.apportion.specs.Ties.{Lawful}
use Rattle.book.specs.View.{state_of}
use Rattle.requests.specs.Requests.{ruled}
use Rattle.runner.proofs.Steps.{Going}
use Rattle.runner.proofs.answers.answer_lines.Given as goal

abbrev pub invariant-loop-number : goal.invariant-loop-number
invariant-loop-number g l =
    (law : Lawful (g.R.TieRule.tie l.rule)) → Going (ruled law) (state_of g.L.Balances l.initial.book) (state_of g.L.Balances l.book) l.input (string_bytes l.initial.transcript) (string_bytes l.transcript) l.number-iterator.rest.now l.number-iterator.number
