-- Answers that may be refusals, one after the other: the first refusal stands. Assumes nothing.
use Rattle.std.specs.Prelude.{ℕ, Bool, cond, Some, None, Ok, Err, Option, Result}
use Rattle.register.specs.Register.{Refusal, by_book}

-- the next answer, from what the first gave, unless the first is a refusal
abbrev pub and_then : {A B : Type 0} → Result A Refusal → (A → Result B Refusal) → Result B Refusal
and_then (Ok x) next = next x
and_then (Err refusal) next = Err refusal

-- refused by the book, with a number and a place, unless the test holds
abbrev pub unless : Bool → ℕ → ℕ → Result (Unit {0}) Refusal
unless holds n place = cond holds (Ok tt) (Err (by_book n place))

-- refused by the book, with a number and a place, where there is nothing
abbrev pub present : {A : Type 0} → Option A → ℕ → ℕ → Result A Refusal
present (Some x) n place = Ok x
present None n place = Err (by_book n place)
