-- What the requests of lines do to slips. Assumes nothing.
use Rattle.std.specs.Prelude.{◌≡◌, ℕ, true, ◌≢◌, List, ◌++◌}
use Rattle.ledger.specs.Meaning.{Meaning}
use Rattle.model.specs.declared.record.Standing.TheVariants.{Out}
use Rattle.model.specs.Calls.{Call}
use Rattle.model.specs.History.{Event, after, events, held, status}
use Rattle.model.specs.State.{State, opened}
use Rattle.requests.specs.Requests.{Rule, line_calls}

-- no number is out on a slip: each is parked or carried, or was never given
abbrev pub NoneOut : List Event → Type 0
NoneOut h = (n : ℕ) → status h n ≢ held Out

-- Calls made on a book in the state s, told from the latest back, leave no slip out: whatever book opened fit and whatever
-- calls led to s, if no number was out then, none is after these calls.
pub record LeavesNoneOut (s : State) (cs : List Call) : Type 0 where
  pub parked : (m : Meaning) (letter mark : ℕ) → (opened m letter mark).fit ≡ true → (before : List Call)
      → after (opened m letter mark) before ≡ s
      → NoneOut (events (opened m letter mark) before) → NoneOut (events s cs ++ events (opened m letter mark) before)

-- whatever line is carried out on whatever book, no slip stays out
abbrev pub NoSlipStaysOut : Type 0
NoSlipStaysOut = (rule : Rule) (s : State) (line : List ℕ) → LeavesNoneOut s (line_calls rule s line)
