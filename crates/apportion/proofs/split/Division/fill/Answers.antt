-- Assumes nothing.
use Rattle.std.proofs.Common.{length, arith}
use Rattle.apportion.specs.Splits.{portions, fractions}
use Rattle.apportion.proofs.Filled.{fill_more, filled_all}
use Rattle.apportion.proofs.split.Division.fill.Goals as goal

pub loop-i-preserved : goal.loop-i-preserved
loop-i-preserved g c = record {
  portions = fill_more _ _ _ _ _ c.loop-i.invariant.portions c.part-part.ensures.portion (omega arith);
  fractions = fill_more _ _ _ _ _ c.loop-i.invariant.fractions c.part-part.ensures.fraction (omega arith);
}

pub returns : goal.returns
unfolding portions fractions
returns g c =
    let n = length c.args.self.now.shares.now in
    record {
      portions = filled_all _ _ _ c.loop-i.i n c.loop-i.invariant.portions (omega arith) (omega arith);
      fractions = filled_all _ _ _ c.loop-i.i n c.loop-i.invariant.fractions (omega arith) (omega arith);
    }
