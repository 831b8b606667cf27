-- Assumes nothing.
use Rattle.std.proofs.Common.{◌≡◌}
use Rattle.money.specs.Table.{coded}
use Rattle.money.proofs.Codes.{coded_from}
use Rattle.money.proofs.currency.Currency.from_code.Given as goal

-- what is left to look through has the answer
abbrev pub invariant-loop-currency : goal.invariant-loop-currency
invariant-loop-currency l = coded l.code ≡ coded_from l.code l.currency-index
