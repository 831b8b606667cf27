-- The legs stand behind the records taken before. Assumes nothing.
use Rattle.std.proofs.Common.{◌≡◌, ◌+◌, length, ap, ◌∙◌, arith}
use Rattle.std.proofs.lemmas.Grind.{common_steps}
use Rattle.journal.specs.Journal.{journal_over, written}
use Rattle.journal.proofs.Records.{entered-written}
use Rattle.journal.proofs.journal.Journal.write.Goals as goal

pub returns-clause-meaning : goal.returns-clause-meaning
returns-clause-meaning c =
    let rs = c.args.self.now.records.now in
    let ls = c.args.legs.now in
    let n = c.args.self.now.taken in
    let whole : c.if-not-is_empty.self.records.now ≡ written rs n ls = grind (arith, common_steps) in
    ap (λ xs. journal_over xs (n + length ls)) whole ∙ entered-written rs ls n c.requires.lawful.each c.requires.room
