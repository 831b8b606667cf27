-- Assumes nothing.
use Rattle.std.proofs.Common.{◌≡◌, true, sym, ◌∙◌, arith, rules}
use Rattle.register.specs.Register.{book_answer}
use Rattle.money.specs.Conversions.{convertible}
use Rattle.apportion.specs.Refusals.{checked}
use Rattle.apportion.proofs.Checks.{in_range_lem}
use Rattle.apportion.proofs.Passing.{checks}
use Rattle.apportion.proofs.limits.check.Goals as goal

pub returns : goal.returns
returns c =
    let z = c.args.amount.0 in
    let s = c.args.shares.now in
    let in_range : convertible z ≡ true = search rules in
    let answer : book_answer c.sum_of_weights.result ≡ checked z s = c.sum_of_weights.ensures ∙ sym (in_range_lem z s in_range c.if-is_empty.ensures (omega arith)) in
    record { value = answer; exactly = checks z s c.sum_of_weights.result answer }
