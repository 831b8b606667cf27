-- A line that asks for something is carried out once more; any other makes no call. Assumes nothing.
use Rattle.std.proofs.Common.{◌≡◌, ℕ, None, Ok, Err, refl, ap, ◌∙◌, rules}
use Rattle.book.specs.View.{state_of}
use Rattle.requests.specs.Requests.{ruled}
use Rattle.exports.specs.Exports.{line_rounds}
use Rattle.exports.proofs.Repeated.{idle, none_of, no_line, one_line_more}
use Rattle.exports.proofs.rounds.line_rounds.Goals as goal

pub loop-round-init : goal.loop-round-init
loop-round-init g c = λ law. no_line (ruled law) _ _

pub loop-round-preserved : goal.loop-round-preserved
loop-round-preserved g c =
    λ law. one_line_more (ruled law) _ _ _ _ _ _ (search rules) (c.loop-round.invariant law) (c.perform.ensures.state law)

pub returns-after-loop-round : goal.returns-after-loop-round
returns-after-loop-round g c =
    let s = state_of g.L.Balances c.args.book.now in
    let done : c.loop-round._round ≡ c.args.rounds = search rules in
    λ law. c.loop-round.invariant law ∙ ap (λ (n : ℕ). line_rounds (ruled law) s c.args.line.now n) done

pub returns-in-Ok-None : goal.returns-in-Ok-None
returns-in-Ok-None g c = λ law. idle (ruled law) _ _ (none_of (ruled law) _ (Ok None) (search rules) (λ t. refl)) _

pub returns-in-Err : goal.returns-in-Err
returns-in-Err g c = λ law. idle (ruled law) _ _ (none_of (ruled law) _ (Err _) c.in-Err.ensures.value (λ t. refl)) _
