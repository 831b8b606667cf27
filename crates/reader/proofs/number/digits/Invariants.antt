-- Assumes nothing.
use Rattle.std.proofs.Common.{◌≡◌, ◌^◌, ◌<◌, drop}
use Rattle.reader.specs.Numbers.{digits_after}
use Rattle.reader.proofs.number.digits.Given as goal

abbrev pub invariant-loop-b : goal.invariant-loop-b
invariant-loop-b l = (digits_after l.value (drop l.b-index l.text) ≡ digits_after 0 l.text) × (l.value < 10 ^ l.b-index)
