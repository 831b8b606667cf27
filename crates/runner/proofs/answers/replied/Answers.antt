-- The portions as numbers. Assumes nothing.
use Rattle.std.proofs.Common.{ℕ, List, ◌++◌, codes, sym, ap, ◌∙◌}
use Rattle.std.specs.List.{flat_map}
use Rattle.money.specs.declared.quantity.Minor.{Minor}
use Rattle.requests.specs.Requests.{numbers}
use Rattle.transcript.specs.Text.{amount_text}
use Rattle.runner.specs.Answers.{number_text}
use Rattle.runner.proofs.Joining.{joined-map}
use Rattle.runner.proofs.answers.replied.Goals as goal

pub returns-in-Split : goal.returns-in-Split
returns-in-Split c =
    ap (λ (bs : List ℕ). codes "ok" ++ bs)
    (ap (flat_map amount_text) c.as_slice.ensures.value ∙ sym (joined-map number_text (λ (b : Minor). b.0) _) ∙ ap (λ r. flat_map number_text (numbers r)) (sym c.in-Split.is))
