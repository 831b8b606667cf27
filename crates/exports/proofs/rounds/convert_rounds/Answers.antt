-- One round more. Assumes nothing.
use Rattle.exports.proofs.Repeated.{no_exchange, one_exchange_more}
use Rattle.exports.proofs.rounds.convert_rounds.Goals as goal

pub loop-round-init : goal.loop-round-init
loop-round-init g c = no_exchange _ _

pub loop-round-preserved : goal.loop-round-preserved
loop-round-preserved g c = one_exchange_more _ _ _ _ _ c.loop-round.invariant c.convert_and_carry.ensures
