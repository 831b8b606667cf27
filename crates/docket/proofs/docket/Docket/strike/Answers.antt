-- The record goes from the place of its number, and the others keep their bounds. Assumes nothing.
use Rattle.std.proofs.Common.{suc, sym, ◌∙◌}
use Rattle.std.proofs.lemmas.List.Elements.{All-append, All-take, All-drop, All-same}
use Rattle.docket.specs.Records.{Bounded}
use Rattle.docket.proofs.Numbers.{without_at, without_nowhere}
use Rattle.docket.proofs.docket.Docket.strike.Goals as goal

pub returns-in-Some : goal.returns-in-Some
returns-in-Some c =
    c.remove.ensures.items ∙ without_at _ _ _ c.remove.result (sym c.place_of.ensures ∙ c.in-Some.is)

pub returns-in_default : goal.returns-in_default
returns-in_default c = without_nowhere _ _ (sym c.place_of.ensures ∙ c.in_default.is)

pub invariant_of-self-clause-bounded : goal.invariant_of-self-clause-bounded
invariant_of-self-clause-bounded c =
    let before = All-take Bounded c.in-Some.i _ c.args.self.now.bounded in
    let after = All-drop Bounded (suc c.in-Some.i) _ c.args.self.now.bounded in
    All-same Bounded _ _ c.remove.ensures.items (All-append Bounded _ _ before after)
