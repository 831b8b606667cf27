-- What is handed out, or not, and the number that says so. Assumes nothing.
use Rattle.std.proofs.Common.{◌≡◌, ℕ, List, Ok, Err, Result, MatchResult, ◌∙◌, inl, inr}
use Rattle.std.specs.Result.{result_unwrap_or}
use Rattle.exports.specs.Exports.{HandsOut, HandedOut}

pub handed : {E : Type 0} (r : Result ℕ E) (n : ℕ) (text before since : List ℕ) → n ≡ result_unwrap_or r 0 → MatchResult r (λ k. HandsOut k text before since) (λ _. since ≡ before) → HandedOut n text before since
handed (Ok k) n text before since e h = inl (e ∙ h.0, h.1)
handed (Err x) n text before since e h = inr (e, h)
