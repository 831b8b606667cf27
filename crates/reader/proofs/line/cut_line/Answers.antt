-- Assumes nothing.
use Rattle.std.proofs.Common.{arith}
use Rattle.std.proofs.lemmas.Grind.{common_steps}
use Rattle.reader.proofs.Cuts.{lines_first, line_cut}
use Rattle.reader.proofs.line.cut_line.Goals as goal

pub returns-clause-lines : goal.returns-clause-lines
returns-clause-lines c = lines_first c.args.input.now c.unwrap_or.result.0.now c.unwrap_or.result.1.now (grind (arith, common_steps)) (grind (arith, common_steps))

pub returns-clause-cut : goal.returns-clause-cut
returns-clause-cut c = line_cut c.args.input.now c.unwrap_or.result.0.now c.unwrap_or.result.1.now (grind (arith, common_steps)) (grind (arith, common_steps))
