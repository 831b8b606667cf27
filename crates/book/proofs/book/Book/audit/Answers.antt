-- The values of the state, and the law at this point. Assumes nothing.
use Rattle.std.proofs.Common.{◌≡◌}
use Rattle.model.specs.declared.audit.Audit.{Audit}
use Rattle.model.specs.Calls.{audit}
use Rattle.model.specs.Step.{asked}
use Rattle.book.specs.View.{state_of}
use Rattle.book.proofs.Asked.{asked_conserves}
use Rattle.book.proofs.book.Book.audit.Goals as goal

pub returns : goal.returns
returns g c =
    let s = state_of g.L.Balances c.args.self.now in
    let head : Audit = record { kind = c.kind.result; room = c.room.result; records = c.len.result } in
    let value : head ≡ asked s audit = λ i. record { kind = c.kind.ensures.value i; room = c.room.ensures.value i; records = c.len.ensures i } in
    record { value = value; law = asked_conserves s audit head value }
