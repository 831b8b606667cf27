-- A listed cell is the sum over the records taken. Assumes nothing.
use Rattle.std.proofs.Common.{◌≡◌, length, sym, ap, ◌∙◌, arith, w64, to_z, of_z}
use Rattle.std.proofs.lemmas.Int.{ints}
use Rattle.std.proofs.lemmas.Bool.{cond-true, true≢false}
use Rattle.journal.specs.Journal.{recorded}
use Rattle.journal.proofs.Records.{taken_few}
use Rattle.journal.proofs.journal.JournalBalances.cell.Goals as goal

pub recorded-requires : goal.recorded-requires
recorded-requires c = omega (arith, ap length c.records.ensures, taken_few c.args.self.now.records.now c.args.self.now.taken)

pub returns-then-is_cell : goal.returns-then-is_cell
returns-then-is_cell c =
    let back : to_z w64 (of_z w64 c.recorded.result) ≡ c.recorded.result = omega (arith, ints) in
    let there = c.if-is_cell.ensures in
    record {
      value = back ∙ c.recorded.ensures ∙ ap (λ xs. recorded xs c.args.account c.args.column) c.records.ensures ∙ sym (cond-true _ _ _ (sym there));
      outside = λ o. absurd (true≢false (there ∙ o));
    }
