-- What a book means to the model, and how its answers read there. Assumes nothing.
use Rattle.std.specs.Prelude.{ℕ, List, Ok, Err, Result}
use Rattle.register.specs.declared.fault.Fault.{Fault}
use Rattle.register.specs.Register.{Refusal, registered}
use Rattle.money.specs.declared.quantity.Minor.{Minor}
use Rattle.ledger.specs.declared.ledger.Balances.{Ghosts as Balances}
use Rattle.apportion.specs.declared.fraction.Fraction.{Fraction}
use Rattle.docket.specs.Held.{records_of}
use Rattle.model.specs.State.{State}
use Rattle.book.specs.declared.book.Book.{Book}
use Rattle.book.specs.declared.slip.Slip.{Slip}

-- the state of a book: what its ledger means, the letter of the ledger's type, and the records of its docket
abbrev pub state_of : {L : Type 0} → Balances L → Book L → State
state_of l b = record {
  ledger = l.meaning b.ledger;
  kind = l.letter;
  fit = b.fit;
  mark = b.mark;
  given = b.given;
  docket = records_of b.docket;
}

-- the slip of that mark and number
abbrev pub slip_of : ℕ → ℕ → Slip
slip_of mark number = record { mark = mark; number = number }

-- a take-up answers a slip, and the model its number
abbrev pub slip_answer : Result Slip Fault → Result ℕ Refusal
slip_answer (Ok slip) = Ok slip.number
slip_answer (Err fault) = Err (registered fault)

-- a conversion answers b and a slip, and the model b and the number
abbrev pub conversion_answer : Result (Minor × Slip) Fault → Result (Minor × ℕ) Refusal
conversion_answer (Ok given) = Ok (given.0, given.1.number)
conversion_answer (Err fault) = Err (registered fault)

-- a refused carry hands the slip back, and the model the refusal
abbrev pub carry_answer : Result (Unit {0}) (Slip × Fault) → Result (Unit {0}) Refusal
carry_answer (Ok carried) = Ok carried
carry_answer (Err back) = Err (registered back.1)

-- a split fills two lists, which the model answers
abbrev pub split_answer : Result (Unit {0}) Fault → List Minor → List Fraction → Result (List Minor × List Fraction) Refusal
split_answer (Ok done) portions fractions = Ok (portions, fractions)
split_answer (Err fault) portions fractions = Err (registered fault)
