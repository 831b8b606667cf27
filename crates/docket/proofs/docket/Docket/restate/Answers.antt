-- The record at the place of its number stands otherwise. Assumes nothing.
use Rattle.std.proofs.Common.{sym, ◌∙◌}
use Rattle.docket.proofs.Numbers.{restated_at, restated_nowhere}
use Rattle.docket.proofs.docket.Docket.restate.Goals as goal

pub returns-in-Some : goal.returns-in-Some
returns-in-Some c = restated_at _ _ _ _ _ _ c.deref_mut.ensures.value (sym c.place_of.ensures ∙ c.in-Some.is)

pub returns-in_default : goal.returns-in_default
returns-in_default c = restated_nowhere _ _ _ (sym c.place_of.ensures ∙ c.in_default.is)
