-- Few records cannot bring a cell to its limits. Assumes nothing.
use Rattle.std.proofs.Common.{◌≡◌, ℕ, ◌+◌, ◌*◌, ◌≤◌, min, true, cond, ltb, List, [], ◌∷◌, length, pos, neg_ℤ, nat_abs, Ok, Err, sym, refl, ap, ◌∙◌, arith}
use borrow.Author.Differences.{ints, true_is_le}
use Rattle.std.specs.List.{AllByRecursion}
use Rattle.std.proofs.lemmas.List.{length-take}
use Rattle.std.proofs.lemmas.Bool.{cond-true, and_from}
use Rattle.std.proofs.lemmas.Bool.Decides.{nat_tests}
use Rattle.money.specs.Conversions.{most_amount}
use Rattle.register.specs.Register.{by_ledger}
use Rattle.ledger.specs.declared.leg.Leg.{Leg}
use Rattle.ledger.specs.Entries.{InRange}
use Rattle.ledger.specs.Legs.{in_column, in_cell}
use Rattle.ledger.specs.Limits.{listed, where_listed, most_held, floor_of, ceiling_of}
use Rattle.ledger.specs.Meaning.{Meaning, entered, fits, stops, roomy, verdict}
use Rattle.ledger.proofs.Entries.{leg_listed}
use Rattle.ledger.proofs.Rises.{rise_one}
use Rattle.journal.specs.Journal.{most_records, records_taken, in_record, recorded, journal_over}

-- a leg moves a cell by its amount at most
leg_bound : (l : Leg) (a k : ℕ) → nat_abs (in_cell l a k) ≤ nat_abs l.amount
unfolding in_cell in_column
leg_bound l a k = grind (arith, ints, nat_tests)

pub record_bound : (r : Leg) (a k : ℕ) → nat_abs (in_record r a k) ≤ most_amount
unfolding in_record
record_bound r a k = let h : nat_abs (in_cell r a k) ≤ nat_abs r.amount = leg_bound r a k in grind (arith, ints, nat_tests)

-- so many records, so many times the most amount
recorded_bound : (rs : List Leg) (a k : ℕ) → nat_abs (recorded rs a k) ≤ length rs * most_amount
unfolding recorded
recorded_bound [] a k = omega arith
recorded_bound (r ∷ rs) a k = omega (arith, ints, record_bound r a k, recorded_bound rs a k)

cell_bound : (rs : List Leg) (n : ℕ) (a k : ℕ) → nat_abs (where_listed (recorded (records_taken rs n)) a k) ≤ n * most_amount
cell_bound rs n a k =
    let x : nat_abs (recorded (records_taken rs n) a k) ≤ length (records_taken rs n) * most_amount = recorded_bound (records_taken rs n) a k in
    let y : length (records_taken rs n) ≤ n = omega (arith, length-take (min n most_records) rs) in
    grind (arith, ints)

-- A ledger with the limits of a journal, whose cells are at most b from zero.
record Near (m : Meaning) (b : ℕ) : Type 0 where
  floors : m.floor ≡ floor_of
  ceilings : m.ceiling ≡ ceiling_of
  cells : (a k : ℕ) → nat_abs (m.cell a k) ≤ b

near_more : (m : Meaning) (b : ℕ) (l : Leg) → InRange l → Near m b → Near (entered m (l ∷ [])) (b + most_amount)
unfolding entered
near_more m b l h near = record {
  floors = near.floors;
  ceilings = near.ceilings;
  cells = λ a k. omega (arith, ints, near.cells a k, rise_one l a k, leg_bound l a k, h.amount);
}

-- a listed cell that near to zero is within its limits
near_fits : (m : Meaning) (b : ℕ) (l : Leg) → InRange l → Near m b → b ≤ most_held → fits m l ≡ true
near_fits m b l h near few =
    let a = l.account in
    let k = l.column in
    let there : listed a k ≡ true = leg_listed l h in
    let low : m.floor a k ≡ neg_ℤ (pos most_held) = ap (λ f. f a k) near.floors ∙ cond-true _ _ _ there in
    let high : m.ceiling a k ≡ pos most_held = ap (λ f. f a k) near.ceilings ∙ cond-true _ _ _ there in
    let c : nat_abs (m.cell a k) ≤ b = near.cells a k in
    and_from _ _
    (sym (true_is_le (m.floor a k) (m.cell a k) (omega (arith, ints))))
    (sym (true_is_le (m.cell a k) (m.ceiling a k) (omega (arith, ints))))

near_stops : (m : Meaning) (b n : ℕ) (ls : List Leg) → AllByRecursion InRange ls → Near m b → b + length ls * most_amount ≤ most_held → stops m n ls ≡ Ok tt
unfolding stops
near_stops m b n [] h near few = refl
near_stops m b n (l ∷ ls) h near few =
    let one = near_more m b l h.0 near in
    cond-true _ _ _ (near_fits (entered m (l ∷ [])) (b + most_amount) l h.0 one (omega arith))
    ∙ near_stops (entered m (l ∷ [])) (b + most_amount) (n + 1) ls h.1 one (omega arith)

-- while all the records together cannot reach a limit, the room alone decides
pub room_decides : (rs ls : List Leg) (n : ℕ) → AllByRecursion InRange ls → (n + length ls) * most_amount ≤ most_held → roomy (journal_over rs n) ls ≡ verdict (journal_over rs n) ls
unfolding verdict
room_decides rs ls n h few =
    ap (cond (ltb (journal_over rs n).room (length ls)) (Err (by_ledger 17 0 0)))
    (sym (near_stops (journal_over rs n) (n * most_amount) 1 ls h (record { floors = refl; ceilings = refl; cells = cell_bound rs n }) (omega arith)))
