-- Assumes nothing.
use Rattle.std.proofs.Common.{◌^◌, ◌≤◌, arith}
use native.Mathlib.Nat.{pow-le-pow_right}
use Rattle.reader.proofs.number.digits.Goals as goal

pub invariant_of-result : goal.invariant_of-result
invariant_of-result c =
    let few : c.loop-b.b-index ≤ 11 = omega arith in
    let p : 10 ^ c.loop-b.b-index ≤ 10 ^ 11 = pow-le-pow_right (omega arith) few in
    omega (arith, p)
