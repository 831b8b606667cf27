-- How far the lines of an input are done. Assumes nothing.
use Rattle.std.specs.Prelude.{◌≡◌, ℕ, List, ◌++◌}
use Rattle.model.specs.Conservation.{ConservedThrough}
use Rattle.model.specs.History.{after}
use Rattle.model.specs.State.{State}
use Rattle.reader.specs.Lines.{lines_of}
use Rattle.requests.specs.Requests.{Rule}
use Rattle.runner.specs.Answers.{lines_calls, lines_text}

-- all lines are done: the book went from s to s', and the answers were appended
pub record AllDone (rule : Rule) (s s' : State) (input before since : List ℕ) : Type 0 where
  pub state : s' ≡ after s (lines_calls rule s (lines_of input))
  pub text : since ≡ before ++ lines_text rule 1 s (lines_of input)

-- some first lines are done and the others not: the book went from s to s', and keeps the law
pub record SomeDone (rule : Rule) (s s' : State) (input : List ℕ) : Type 0 where
  pub done : List (List ℕ)
  pub others : List (List ℕ)
  pub lines : done ++ others ≡ lines_of input
  pub state : s' ≡ after s (lines_calls rule s done)
  pub law : ConservedThrough s (lines_calls rule s done) s'
