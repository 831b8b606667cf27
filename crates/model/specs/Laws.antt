-- What holds of every opening, and of every call in every state. Assumes nothing.
use Rattle.std.specs.Prelude.{◌≡◌, ℕ, ◌<◌, true, false, ◌⊎◌, pos, Ok, Err}
use Rattle.register.specs.Register.{Refusal, by_book}
use Rattle.ledger.specs.Limits.{columns}
use Rattle.ledger.specs.Meaning.{Meaning}
use Rattle.model.specs.Calls.{Question, Call, post, convert, split, carry, park, take_up, sweep, ask}
use Rattle.model.specs.State.{State, exchange_account, docket_account, opened}
use Rattle.model.specs.Step.{step, asked}

-- every cell of the exchange account and of the docket account is zero
abbrev pub Clear : Meaning → Type 0
Clear m = (k : ℕ) → k < columns → (m.cell exchange_account k ≡ pos 0) × (m.cell docket_account k ≡ pos 0)

-- A book is fit exactly if both accounts are clear when it opens.
pub record Fitness : Type 0 where
  pub fits : (m : Meaning) (letter mark : ℕ) → Clear m → (opened m letter mark).fit ≡ true
  pub clear : (m : Meaning) (letter mark : ℕ) → (opened m letter mark).fit ≡ true → Clear m

-- parkings and questions
abbrev pub NeverRefused : Call → Type 0
NeverRefused (post ps) = ⊥
NeverRefused (convert x) = ⊥
NeverRefused (split tie law d shares m n) = ⊥
NeverRefused (carry m n a) = ⊥
NeverRefused (park m n) = Unit {0}
NeverRefused (take_up n) = ⊥
NeverRefused (sweep a k) = ⊥
NeverRefused (ask q) = Unit {0}

pub record EveryCall : Type 0 where
  -- a refused call changes nothing
  pub refused : (s : State) (c : Call) (refusal : Refusal) → (step s c).0 ≡ Err refusal → (step s c).1 ≡ s
  -- a question answers the state's own value, and changes nothing
  pub answers : (s : State) (q : Question) → step s (ask q) ≡ (Ok (asked s q), s)
  -- a parking is never refused
  pub parks : (s : State) (m n : ℕ) → (r : ℕ) × ((step s (park m n)).0 ≡ Ok r)
  -- a book that is not fit refuses any other call with 1
  pub unfit : (s : State) (c : Call) → s.fit ≡ false → NeverRefused c ⊎ (step s c ≡ (Err (by_book 1 0), s))
  -- no call changes the kind, the fitness or the mark
  pub keeps : (s : State) (c : Call) → ((step s c).1.kind ≡ s.kind) × ((step s c).1.fit ≡ s.fit) × ((step s c).1.mark ≡ s.mark)
