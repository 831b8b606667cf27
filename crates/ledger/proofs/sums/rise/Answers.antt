-- One leg more in the sum, and none left at the end. Assumes nothing.
use Rattle.std.proofs.Common.{◌+◌, ◌^◌, ◌<◌, pos, arith}
use Rattle.ledger.specs.Legs.{leg}
use Rattle.ledger.proofs.Rises.{rise_left_more, rise_left_all}
use Rattle.ledger.proofs.Widths.{added, none_left}
use Rattle.ledger.proofs.sums.rise.Goals as goal

pub loop-leg-preserved : goal.loop-leg-preserved
loop-leg-preserved c =
    let i = c.loop-leg.leg-index in
    let x = c.in_cell.result in
    let few : i + 1 < 2 ^ 64 = omega arith in
    let first = rise_left_more c.args.legs.now i (leg 0 0 (pos 0)) c.args.account c.args.column c.loop-leg-test.true in
    added _ x i c.in_cell.type_inv c.loop-leg.invariant.1 few _ _ _ _ c.in_cell.ensures first c.loop-leg.invariant.0

pub returns : goal.returns
returns c = record {
  value = none_left _ _ _ (rise_left_all c.args.legs.now c.loop-leg.leg-index c.args.account c.args.column c.loop-leg-test.false) c.loop-leg.invariant.0;
  bound = omega arith;
}
