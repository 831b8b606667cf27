-- The room decides while the records are few. Assumes nothing.
use Rattle.std.proofs.Common.{◌≡◌, List, subst, ◌∙◌, arith}
use Rattle.ledger.specs.declared.leg.Leg.{Leg}
use Rattle.ledger.specs.Meaning.{roomy, verdict}
use Rattle.journal.specs.Journal.{journal_meaning}
use Rattle.journal.proofs.Reach.{room_decides}
use Rattle.journal.proofs.journal.Journal.decide.Goals as goal

pub returns-else-saturating_add-gt-SAFE_RECORDS : goal.returns-else-saturating_add-gt-SAFE_RECORDS
returns-else-saturating_add-gt-SAFE_RECORDS c =
    let m = journal_meaning c.args.self.now in
    c.check_room.ensures
    ∙ subst (λ (ls : List Leg). roomy m ls ≡ verdict m ls) c.legs.ensures.value
    (room_decides c.args.self.now.records.now c.legs.result.now c.args.self.now.taken c.legs.ensures.lawful.each (omega arith))
