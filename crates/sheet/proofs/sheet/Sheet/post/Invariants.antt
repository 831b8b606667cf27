-- The legs so far are added, and none of those left is refused. Assumes nothing.
use Rattle.std.proofs.Common.{◌≡◌, take, Ok}
use Rattle.ledger.proofs.Walk.{left}
use Rattle.sheet.specs.Cells.{posted}
use Rattle.sheet.specs.Sheet.{sheet_meaning}
use Rattle.sheet.proofs.sheet.Sheet.post.Given as goal

abbrev pub invariant-loop-leg : goal.invariant-loop-leg
invariant-loop-leg l =
    (l.self.cells.now ≡ posted l.initial.self.cells.now (take l.leg-index l.legs))
    × (left (sheet_meaning l.initial.self) l.legs l.leg-index ≡ Ok tt)
    × (l.self.room ≡ l.initial.self.room)
    × (l.self.cells.ghost_name ≡ l.initial.self.cells.ghost_name)
