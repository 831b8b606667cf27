-- What the records of a journal add up to, and what writing legs changes. Assumes nothing.
use Rattle.std.proofs.Common.{◌≡◌, ℕ, ◌+◌, ◌-◌, ◌<◌, ◌≤◌, min, true, false, List, [], ◌∷◌, ◌++◌, length, get_or, drop, pos, ◌+ℤ◌, refl, ap, ◌∙◌, arith}
use borrow.Author.Differences.{ints}
use Rattle.std.specs.List.{AllByRecursion}
use Rattle.std.proofs.lemmas.List.{at_drop_more, at_drop_all, length-take, length-append, length-drop}
use Rattle.std.proofs.lemmas.Bool.{cond-true}
use Rattle.std.proofs.lemmas.Grind.{common_steps}
use Rattle.std.proofs.lemmas.Bool.Decides.{nat_tests}
use Rattle.ledger.specs.declared.leg.Leg.{Leg}
use Rattle.ledger.specs.Entries.{InRange, in_range}
use Rattle.ledger.specs.Legs.{in_column, in_cell, rise}
use Rattle.ledger.specs.Limits.{listed, where_listed}
use Rattle.ledger.specs.Meaning.{entered}
use Rattle.ledger.proofs.Entries.{range_in}
use Rattle.ledger.proofs.Meanings.{same_meaning}
use Rattle.journal.specs.Journal.{most_records, records_taken, in_record, recorded, journal_over, journal_opened, written}

-- the sum of what is left, one record on
pub left_more : (rs : List Leg) (i : ℕ) (d : Leg) (a k : ℕ) → i < length rs → recorded (drop i rs) a k ≡ in_record (get_or rs i d) a k +ℤ recorded (drop (i + 1) rs) a k
unfolding recorded
left_more rs i d a k h = at_drop_more (λ xs. recorded xs a k) rs i d h

pub left_all : (rs : List Leg) (i a k : ℕ) → length rs ≤ i → recorded (drop i rs) a k ≡ pos 0
unfolding recorded
left_all rs i a k h = at_drop_all (λ xs. recorded xs a k) rs i h

pub none_recorded : (a k : ℕ) → recorded [] a k ≡ pos 0
unfolding recorded
none_recorded a k = refl

-- a record that is a leg adds what the leg does
pub leg_recorded : (l : Leg) (a k : ℕ) → in_range l ≡ true → in_record l a k ≡ in_cell l a k
unfolding in_record
leg_recorded l a k t = cond-true _ _ _ t

pub legs_recorded : (ls : List Leg) (a k : ℕ) → AllByRecursion InRange ls → recorded ls a k ≡ rise ls a k
unfolding recorded rise
legs_recorded [] a k h = refl
legs_recorded (l ∷ ls) a k h = λ i. leg_recorded l a k (range_in l h.0) i +ℤ legs_recorded ls a k h.1 i

recorded-append : (rs ls : List Leg) (a k : ℕ) → recorded (rs ++ ls) a k ≡ recorded rs a k +ℤ recorded ls a k
unfolding recorded
recorded-append [] ls a k = omega (arith, ints)
recorded-append (r ∷ rs) ls a k = let h : recorded (rs ++ ls) a k ≡ recorded rs a k +ℤ recorded ls a k = recorded-append rs ls a k in omega (arith, ints)

-- outside the accounts and columns legs add nothing
leg_outside : (l : Leg) (a k : ℕ) → InRange l → listed a k ≡ false → in_cell l a k ≡ pos 0
unfolding in_cell in_column
leg_outside l a k h o = let r = h.account in let s = h.column in grind (arith, nat_tests)

legs_outside : (ls : List Leg) (a k : ℕ) → AllByRecursion InRange ls → listed a k ≡ false → rise ls a k ≡ pos 0
unfolding rise
legs_outside [] a k h o = refl
legs_outside (l ∷ ls) a k h o =
    let x : in_cell l a k ≡ pos 0 = leg_outside l a k h.0 o in
    let y : rise ls a k ≡ pos 0 = legs_outside ls a k h.1 o in
    omega (arith, ints)

-- the cells once legs are written behind the records
cells_after_lem : (rs ls : List Leg) (a k : ℕ) → AllByRecursion InRange ls → where_listed (recorded (rs ++ ls)) a k ≡ where_listed (recorded rs) a k +ℤ rise ls a k
cells_after_lem rs ls a k h =
    let x : recorded (rs ++ ls) a k ≡ recorded rs a k +ℤ recorded ls a k = recorded-append rs ls a k in
    let y : recorded ls a k ≡ rise ls a k = legs_recorded ls a k h in
    let z : listed a k ≡ false → rise ls a k ≡ pos 0 = legs_outside ls a k h in
    grind (arith, ints)

pub taken_few : (rs : List Leg) (n : ℕ) → length (records_taken rs n) ≤ most_records
taken_few rs n = omega (arith, length-take (min n most_records) rs)

-- a journal that has taken nothing
pub opened : (rs : List Leg) → journal_over rs 0 ≡ journal_opened rs
opened rs =
    same_meaning (journal_over rs 0) (journal_opened rs)
    (omega arith)
    (λ a k. let none : recorded [] a k ≡ pos 0 = none_recorded a k in grind (arith))
    (λ a k. refl)
    (λ a k. refl)

-- the records taken once the legs are written
pub taken_written : (rs ls : List Leg) (n : ℕ) → length ls ≤ min (length rs) most_records - n → records_taken (written rs n ls) (n + length ls) ≡ records_taken rs n ++ ls
taken_written rs ls n room = grind (arith, common_steps)

length-written : (rs ls : List Leg) (n : ℕ) → length ls ≤ min (length rs) most_records - n → length (written rs n ls) ≡ length rs
length-written rs ls n room = simp (length-append, length-take, length-drop) (omega arith)

pub entered-written : (rs ls : List Leg) (n : ℕ) → AllByRecursion InRange ls → length ls ≤ min (length rs) most_records - n → journal_over (written rs n ls) (n + length ls) ≡ entered (journal_over rs n) ls
unfolding entered
entered-written rs ls n h room =
    same_meaning (journal_over (written rs n ls) (n + length ls)) (entered (journal_over rs n) ls)
    (omega (arith, length-written rs ls n room))
    (λ a k. ap (λ xs. where_listed (recorded xs) a k) (taken_written rs ls n room) ∙ cells_after_lem (records_taken rs n) ls a k h)
    (λ a k. refl)
    (λ a k. refl)
