-- The check comes first, then the legs are added. Assumes nothing.
use Rattle.std.proofs.Common.{◌≡◌, Ok, sym, ap, ◌∙◌}
use Rattle.ledger.specs.Meaning.{verdict, after}
use Rattle.sheet.specs.Cells.{cells_after}
use Rattle.sheet.specs.Sheet.{sheet_meaning}
use Rattle.sheet.proofs.Posting.{taken_meaning, taken_cells}
use Rattle.sheet.proofs.sheet.SheetLedger.take.Goals as goal

pub returns : goal.returns
returns c =
    let s = c.args.self.now in
    let m = sheet_meaning s in
    let ls = c.legs.result.now in
    let same = c.legs.ensures.value in
    let told : verdict m ls ≡ Ok tt = ap (verdict m) same ∙ sym c.in_ok-check.ensures in
    record {
      refused = c.in_ok-check.ensures;
      meaning = taken_meaning s.cells.now _ s.room _ ls told c.legs.ensures.lawful c.post.ensures.cells c.post.ensures.room ∙ ap (after m) same;
      kept = tt;
      cells = taken_cells s.cells.now _ s.room ls told c.post.ensures.cells ∙ ap (cells_after s.cells.now s.room) same;
      named = c.post.ensures.named;
    }
