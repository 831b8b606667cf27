-- What the book puts to its ledger once it has no refusal of its own, as the model's movements. Assumes nothing.
use Rattle.std.specs.Prelude.{◌≡◌, ℕ, ◌+◌, ◌<◌, ◌≤◌, List, length, take, Some, Ok, Err, Result}
use Rattle.register.specs.Register.{BookFault}
use Rattle.register.specs.declared.fault.Fault.TheVariants.{Book}
use Rattle.register.specs.Register.{Refusal, registered}
use Rattle.ledger.specs.declared.entry.Entry.{Entry}
use Rattle.ledger.specs.Held.{legs_of}
use Rattle.apportion.specs.declared.share.Share.{Share}
use Rattle.docket.specs.Records.{Bounded}
use Rattle.model.specs.declared.record.Record.{Record}
use Rattle.model.specs.Docket.{most_records}
use Rattle.model.specs.State.{State}
use Rattle.model.specs.Step.{Change, Movement}

-- an entry is put to the ledger; if it takes it, the call answers x and the docket changes
abbrev pub entering : {A : Type 0} → A → Entry → Change → Movement A
entering x e change = record { answer = x; legs = Some (legs_of e); change = change }

-- the movement of what is proposed, or the book's refusal
abbrev pub proposes : {A P : Type 0} → (P → Movement A) → Result P BookFault → Result (Movement A) Refusal
proposes movement (Ok p) = Ok (movement p)
proposes movement (Err fault) = Err (registered (Book fault))

-- The record of a new slip: it has the next number, and the docket takes it.
pub record Issuable (s : State) (r : Record) : Type 0 where
  pub number : r.number ≡ s.given + 1
  pub residues : Bounded r
  pub room : length s.docket < most_records

-- A list that begins with what is given, one element to a share, and a lent list into which that can be written.
pub record Writable {X : Type 0} (shares : List Share) (given stored : List X) (lent : ℕ) : Type 0 where
  pub front : take (length shares) stored ≡ given
  pub enough : length shares ≤ length stored
  pub room : length shares ≤ lent
