-- What a ledger means, and what taking legs does to it. Assumes nothing.
use Rattle.std.specs.Prelude.{ℕ, ◌+◌, ◌-◌, Bool, cond, ◌&&◌, List, [], ◌∷◌, map, length, ℤ, ◌+ℤ◌, Ok, Err, Result, int_le, nat_lt}
use Rattle.std.specs.List.{range_with_len}
use Rattle.register.specs.Register.{Refusal, by_ledger}
use Rattle.ledger.specs.declared.leg.Leg.{Leg}
use Rattle.ledger.specs.Legs.{rise}
use Rattle.ledger.specs.Limits.{columns}

-- How many more legs the ledger takes and, for each account and column, a whole number, a floor and a ceiling.
pub record Meaning : Type 0 where
  pub room : ℕ
  pub cell : ℕ → ℕ → ℤ
  pub floor : ℕ → ℕ → ℤ
  pub ceiling : ℕ → ℕ → ℤ

-- what the cells of an account hold, by column
unfoldable pub row_of : Meaning → (account : ℕ) → List ℤ
row_of m a = map (m.cell a) (range_with_len 0 columns)

-- the number z is within the limits of the cell
abbrev pub inside : Meaning → ℕ → ℕ → ℤ → Bool
inside m a k z = int_le (m.floor a k) z && int_le z (m.ceiling a k)

-- each cell has grown by its legs, room has fallen by their number, and the limits stand
unfoldable pub entered : Meaning → List Leg → Meaning
entered m ls = record {
  room = m.room - length ls;
  cell = λ a k. m.cell a k +ℤ rise ls a k;
  floor = m.floor;
  ceiling = m.ceiling;
}

-- the leg's own cell is within its limits
abbrev pub fits : Meaning → Leg → Bool
fits m l = inside m l.account l.column (m.cell l.account l.column)

-- the legs one by one, the first at place n: refused 18 at the first that leaves its cell outside its limits
unfoldable pub stops : Meaning → ℕ → List Leg → Result (Unit {0}) Refusal
stops m n [] = Ok tt
stops m n (l ∷ ls) = cond (fits (entered m (l ∷ [])) l) (stops (entered m (l ∷ [])) (n + 1) ls) (Err (by_ledger 18 n 0))

-- whether there is room for the legs: refused 17 if not
abbrev pub roomy : Meaning → List Leg → Result (Unit {0}) Refusal
roomy m ls = cond (nat_lt m.room (length ls)) (Err (by_ledger 17 0 0)) (Ok tt)

-- whether the legs are taken: 17 if they are more than the room, else 18 at the leg that stops them
unfoldable pub verdict : Meaning → List Leg → Result (Unit {0}) Refusal
verdict m ls = cond (nat_lt m.room (length ls)) (Err (by_ledger 17 0 0)) (stops m 1 ls)

-- one thing if the answer is yes, another if it is a refusal
abbrev pub settled : {A : Type 0} → Result (Unit {0}) Refusal → A → A → A
settled (Ok x) taken refused = taken
settled (Err e) taken refused = refused

-- the meaning once the legs were taken or refused: a refusal changes nothing
abbrev pub after : Meaning → List Leg → Meaning
after m ls = settled (verdict m ls) (entered m ls) m
