-- The row of the records taken. Assumes nothing.
use Rattle.std.proofs.Common.{List, length, ap, ◌∙◌, arith}
use Rattle.ledger.specs.declared.leg.Leg.{Leg}
use Rattle.ledger.proofs.Meanings.{row_is}
use Rattle.journal.specs.Journal.{recorded, journal_records, journal_meaning}
use Rattle.journal.proofs.Records.{taken_few}
use Rattle.journal.proofs.Rows.{listed_recorded}
use Rattle.journal.proofs.journal.JournalBalances.row.Goals as goal

pub recorded_row-requires : goal.recorded_row-requires
recorded_row-requires c = omega (arith, ap length c.records.ensures, taken_few c.args.self.now.records.now c.args.self.now.taken)

pub returns : goal.returns
returns c =
    let a = c.args.account in
    row_is (journal_meaning c.args.self.now) a c.recorded_row.result c.recorded_row.ensures.count
    (λ k h. c.recorded_row.ensures.cells k h ∙ ap (λ (rs : List Leg). recorded rs a k) c.records.ensures ∙ listed_recorded (journal_records c.args.self.now) a k)
