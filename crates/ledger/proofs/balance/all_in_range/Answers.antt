-- One leg on. Assumes nothing.
use Rattle.std.proofs.Common.{◌+◌, ◌&&◌, drop, pos, sym, ap, ◌∙◌}
use Rattle.ledger.specs.Entries.{all_in_range}
use Rattle.ledger.specs.Legs.{leg}
use Rattle.ledger.proofs.Entries.{range_more, range_all}
use Rattle.ledger.proofs.balance.all_in_range.Goals as goal

pub returns-then-not-is_in_range : goal.returns-then-not-is_in_range
returns-then-not-is_in_range c =
    sym (ap (λ b. b && all_in_range (drop (c.loop-leg.leg-index + 1) c.args.legs.now)) (sym c.is_in_range.ensures ∙ c.if-not-is_in_range.true))
    ∙ sym (range_more c.args.legs.now c.loop-leg.leg-index (leg 0 0 (pos 0)) c.loop-leg-test.true) ∙ c.loop-leg.invariant

pub loop-leg-preserved : goal.loop-leg-preserved
loop-leg-preserved c =
    sym (ap (λ b. b && all_in_range (drop (c.loop-leg.leg-index + 1) c.args.legs.now)) (sym c.is_in_range.ensures ∙ c.if-not-is_in_range.false))
    ∙ sym (range_more c.args.legs.now c.loop-leg.leg-index (leg 0 0 (pos 0)) c.loop-leg-test.true) ∙ c.loop-leg.invariant

pub returns : goal.returns
returns c = sym (range_all c.args.legs.now c.loop-leg.leg-index c.loop-leg-test.false) ∙ c.loop-leg.invariant
