-- The test whether legs make an entry says yes exactly if they do. Assumes nothing.
use Rattle.std.proofs.Common.{◌≡◌, ℕ, ◌+◌, ◌<◌, ◌≤◌, true, ◌&&◌, ◌≢◌, List, [], ◌∷◌, length, get_or, drop, ℤ, pos, negsuc, Decides, refl, ap, subst, arith}
use Rattle.std.specs.List.{AllByRecursion}
use Rattle.std.proofs.lemmas.List.{at_drop_more, at_drop_all}
use Rattle.std.proofs.lemmas.Bool.{and_parts, and_from, leb-true, le-leb, lt-ltb, eqb-true}
use Rattle.ledger.specs.declared.leg.Leg.{Leg}
use Rattle.ledger.specs.Legs.{column_sum}
use Rattle.ledger.specs.Entries.{InRange, EntryLegs, in_range, all_in_range, is_zero, zero_at_each, is_entry}
use Rattle.ledger.specs.Limits.{accounts, columns, listed}
use Rattle.ledger.proofs.Rises.{by_equal, column_off}

-- one leg on
pub range_more : (ls : List Leg) (i : ℕ) (d : Leg) → i < length ls → all_in_range (drop i ls) ≡ (in_range (get_or ls i d) && all_in_range (drop (i + 1) ls))
unfolding all_in_range
range_more ls i d h = at_drop_more all_in_range ls i d h

pub range_all : (ls : List Leg) (i : ℕ) → length ls ≤ i → all_in_range (drop i ls) ≡ true
unfolding all_in_range
range_all ls i h = at_drop_all all_in_range ls i h

pub zero_more : (ls : List Leg) (i : ℕ) (d : Leg) → i < length ls → zero_at_each ls (drop i ls) ≡ (is_zero (column_sum ls (get_or ls i d).column) && zero_at_each ls (drop (i + 1) ls))
unfolding zero_at_each
zero_more ls i d h = at_drop_more (zero_at_each ls) ls i d h

pub zero_all : (ls : List Leg) (i : ℕ) → length ls ≤ i → zero_at_each ls (drop i ls) ≡ true
unfolding zero_at_each
zero_all ls i h = at_drop_all (zero_at_each ls) ls i h

pub empty_entry : is_entry [] ≡ true
unfolding is_entry all_in_range zero_at_each
empty_entry = refl

-- each test and its fact
pub in_range_lem : (l : Leg) → in_range l ≡ true → InRange l
in_range_lem l e =
    let p = and_parts _ _ e in
    let q = and_parts _ _ p.1 in
    record { account = leb-true _ _ p.0; column = leb-true _ _ q.0; amount = leb-true _ _ q.1 }

pub range_in : (l : Leg) → InRange l → in_range l ≡ true
range_in l h = and_from _ _ (le-leb _ _ h.account) (and_from _ _ (le-leb _ _ h.column) (le-leb _ _ h.amount))

pub leg_listed : (l : Leg) → InRange l → listed l.account l.column ≡ true
leg_listed l h = and_from _ _ (lt-ltb l.account accounts (omega (arith, h.account))) (lt-ltb l.column columns (omega (arith, h.column)))

all_in_range_lem : (ls : List Leg) → all_in_range ls ≡ true → AllByRecursion InRange ls
unfolding all_in_range
all_in_range_lem [] e = tt
all_in_range_lem (l ∷ ls) e = let p = and_parts _ _ e in (in_range_lem l p.0, all_in_range_lem ls p.1)

range_all_in : (ls : List Leg) → AllByRecursion InRange ls → all_in_range ls ≡ true
unfolding all_in_range
range_all_in [] h = refl
range_all_in (l ∷ ls) h = and_from _ _ (range_in l h.0) (range_all_in ls h.1)

is_zero_lem : (z : ℤ) → is_zero z ≡ true → z ≡ pos 0
is_zero_lem (pos n) e = ap pos (eqb-true n 0 e)
is_zero_lem (negsuc n) e = absurd (let z : ◌≡◌ {A = ℕ} 0 1 = cc in omega arith)

zero_is : (z : ℤ) → z ≡ pos 0 → is_zero z ≡ true
zero_is z e = ap is_zero e

-- column k has a leg, and then it was added up, or it has none, and then it is zero
zero_at : (ls qs : List Leg) (k : ℕ) → zero_at_each ls qs ≡ true → (AllByRecursion (λ l. l.column ≢ k) qs → column_sum ls k ≡ pos 0) → column_sum ls k ≡ pos 0
unfolding zero_at_each
zero_at ls [] k e f = f tt
zero_at ls (q ∷ qs) k e f =
    let p = and_parts _ _ e in
    by_equal q.column k (λ h. subst (λ j. column_sum ls j ≡ pos 0) h (is_zero_lem _ p.0)) (λ n. zero_at ls qs k p.1 (λ rest. f (n, rest)))

at_zero : (ls qs : List Leg) → ((k : ℕ) → column_sum ls k ≡ pos 0) → zero_at_each ls qs ≡ true
unfolding zero_at_each
at_zero ls [] h = refl
at_zero ls (q ∷ qs) h = and_from _ _ (zero_is _ (h q.column)) (at_zero ls qs h)

pub entry_legs_lem : (ls : List Leg) → is_entry ls ≡ true → EntryLegs ls
unfolding is_entry
entry_legs_lem ls e =
    let p = and_parts _ _ e in
    let q = and_parts _ _ p.1 in
    record { few = leb-true _ _ p.0; each = all_in_range_lem ls q.0; balanced = λ k. zero_at ls ls k q.1 (column_off ls k) }

pub legs_entry : (ls : List Leg) → EntryLegs ls → is_entry ls ≡ true
unfolding is_entry
legs_entry ls h = and_from _ _ (le-leb _ _ h.few) (and_from _ _ (range_all_in ls h.each) (at_zero ls ls h.balanced))

pub entry_decides : (ls : List Leg) → Decides (is_entry ls) (EntryLegs ls)
entry_decides ls = (entry_legs_lem ls, legs_entry ls)
