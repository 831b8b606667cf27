-- The amount is taken as it is. Assumes nothing.
use Rattle.std.proofs.Common.{ap, ◌∙◌}
use Rattle.money.specs.Conversions.{exchanged}
use Rattle.money.proofs.Lossless.{lossless_at}
use Rattle.money.proofs.conversion.Route.convert.Goals as goal

pub returns-clause-lossless : goal.returns-clause-lossless
returns-clause-lossless c = lossless_at _ _ _ (c.exchange-conversion.ensures ∙ ap (exchanged c.args.self) c.in_ok-try_from.ensures.1)
