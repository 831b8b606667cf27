-- A question that answers the state's own value keeps the law. Assumes nothing.
use Rattle.std.proofs.Common.{◌≡◌, Ok}
use Rattle.model.specs.Calls.{Question, Answer, ask}
use Rattle.model.specs.Conservation.{StillConserved}
use Rattle.model.specs.State.{State}
use Rattle.model.specs.Step.{asked}
use Rattle.model.proofs.Runs.{still_conserved}

pub asked_conserves : (s : State) (q : Question) (r : Answer q) → r ≡ asked s q → StillConserved s (ask q) (Ok r) s
asked_conserves s q r e = still_conserved s (ask q) (Ok r) s (λ i. (Ok (e i), s))
