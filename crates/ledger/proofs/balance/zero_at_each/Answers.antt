-- One leg on. Assumes nothing.
use Rattle.std.proofs.Common.{◌+◌, ◌&&◌, drop, pos, sym, ap, ◌∙◌}
use Rattle.ledger.specs.Entries.{zero_at_each}
use Rattle.ledger.specs.Legs.{leg}
use Rattle.ledger.proofs.Entries.{zero_more, zero_all}
use Rattle.ledger.proofs.balance.zero_at_each.Goals as goal

pub returns-then-not-zero_at : goal.returns-then-not-zero_at
returns-then-not-zero_at c =
    sym (ap (λ b. b && zero_at_each c.args.legs.now (drop (c.loop-leg.leg-index + 1) c.args.legs.now)) (sym c.zero_at.ensures ∙ c.if-not-zero_at.true))
    ∙ sym (zero_more c.args.legs.now c.loop-leg.leg-index (leg 0 0 (pos 0)) c.loop-leg-test.true) ∙ c.loop-leg.invariant

pub loop-leg-preserved : goal.loop-leg-preserved
loop-leg-preserved c =
    sym (ap (λ b. b && zero_at_each c.args.legs.now (drop (c.loop-leg.leg-index + 1) c.args.legs.now)) (sym c.zero_at.ensures ∙ c.if-not-zero_at.false))
    ∙ sym (zero_more c.args.legs.now c.loop-leg.leg-index (leg 0 0 (pos 0)) c.loop-leg-test.true) ∙ c.loop-leg.invariant

pub returns : goal.returns
returns c = sym (zero_all c.args.legs.now c.loop-leg.leg-index c.loop-leg-test.false) ∙ c.loop-leg.invariant
