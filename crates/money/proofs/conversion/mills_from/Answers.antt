-- Assumes nothing.
use Rattle.std.proofs.Common.{◌≡◌, ap, rules}
use Rattle.money.specs.Conversions.{exact_from, rounded_to}
use Rattle.money.specs.Table.{rate}
use Rattle.money.proofs.Bounds.{mills_bound}
use Rattle.money.proofs.conversion.mills_from.Goals as goal

pub returns : goal.returns
returns c =
    let e : c.nearest.result ≡ rounded_to (exact_from c.args.from c.args.amount.units) (rate c.args.from) = search rules in
    record { value = e; small = mills_bound c.args.from c.args.amount.units _ c.args.amount.small (ap (λ r. r.whole) e) }
