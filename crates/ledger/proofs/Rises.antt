-- What legs add to cells and columns, and sums over accounts. Assumes nothing.
use Rattle.std.proofs.Common.{◌≡◌, ℕ, zero, suc, ◌+◌, ◌<◌, ◌≤◌, ◌≢◌, List, [], ◌∷◌, ◌++◌, length, get_or, drop, ℤ, pos, ◌+ℤ◌, refl, ◌∙◌, ⊎_elim, arith}
use borrow.Author.Differences.{ints}
use Rattle.std.specs.List.{AllByRecursion}
use Rattle.std.proofs.lemmas.List.{at_drop_more, at_drop_all}
use Rattle.std.proofs.lemmas.Bool.{cases_eq, eq-eqb, ne_eqb}
use Rattle.ledger.specs.declared.leg.Leg.{Leg}
use Rattle.ledger.specs.Legs.{in_column, in_cell, column_sum, rise, sum_to}

-- two numbers are equal or not
pub by_equal : {P : Type 0} (a b : ℕ) → (a ≡ b → P) → (a ≢ b → P) → P
by_equal a b f g = ⊎_elim f g (cases_eq a b)

-- one leg
pub in_column_here : (l : Leg) (k : ℕ) → l.column ≡ k → in_column l k ≡ l.amount
unfolding in_column
in_column_here l k e = rw (eq-eqb l.column k e)

pub in_column_off : (l : Leg) (k : ℕ) → l.column ≢ k → in_column l k ≡ pos 0
unfolding in_column
in_column_off l k n = rw (ne_eqb l.column k n)

pub in_cell_here : (l : Leg) (a k : ℕ) → l.account ≡ a → in_cell l a k ≡ in_column l k
unfolding in_cell
in_cell_here l a k e = rw (eq-eqb l.account a e)

pub in_cell_off : (l : Leg) (a k : ℕ) → l.account ≢ a → in_cell l a k ≡ pos 0
unfolding in_cell
in_cell_off l a k n = rw (ne_eqb l.account a n)

pub in_own_cell : (l : Leg) → in_cell l l.account l.column ≡ l.amount
in_own_cell l = in_cell_here l _ _ refl ∙ in_column_here l _ refl

-- lists of legs
pub rise_none : (a k : ℕ) → rise [] a k ≡ pos 0
unfolding rise
rise_none a k = refl

pub rise_first : (l : Leg) (ls : List Leg) (a k : ℕ) → rise (l ∷ ls) a k ≡ in_cell l a k +ℤ rise ls a k
unfolding rise
rise_first l ls a k = refl

pub rise_one : (l : Leg) (a k : ℕ) → rise (l ∷ []) a k ≡ in_cell l a k
unfolding rise
rise_one l a k = omega (arith, ints)

pub rise-append : (xs ys : List Leg) (a k : ℕ) → rise (xs ++ ys) a k ≡ rise xs a k +ℤ rise ys a k
unfolding rise
rise-append [] ys a k = omega (arith, ints)
rise-append (x ∷ xs) ys a k = let h : rise (xs ++ ys) a k ≡ rise xs a k +ℤ rise ys a k = rise-append xs ys a k in omega (arith, ints)

pub column_append : (xs ys : List Leg) (k : ℕ) → column_sum (xs ++ ys) k ≡ column_sum xs k +ℤ column_sum ys k
unfolding column_sum
column_append [] ys k = omega (arith, ints)
column_append (x ∷ xs) ys k = let h : column_sum (xs ++ ys) k ≡ column_sum xs k +ℤ column_sum ys k = column_append xs ys k in omega (arith, ints)

-- the sum of what is left, one leg on
pub rise_left_more : (ls : List Leg) (i : ℕ) (d : Leg) (a k : ℕ) → i < length ls → rise (drop i ls) a k ≡ in_cell (get_or ls i d) a k +ℤ rise (drop (i + 1) ls) a k
unfolding rise
rise_left_more ls i d a k h = at_drop_more (λ xs. rise xs a k) ls i d h

pub rise_left_all : (ls : List Leg) (i a k : ℕ) → length ls ≤ i → rise (drop i ls) a k ≡ pos 0
unfolding rise
rise_left_all ls i a k h = at_drop_all (λ xs. rise xs a k) ls i h

pub column_left_more : (ls : List Leg) (i : ℕ) (d : Leg) (k : ℕ) → i < length ls → column_sum (drop i ls) k ≡ in_column (get_or ls i d) k +ℤ column_sum (drop (i + 1) ls) k
unfolding column_sum
column_left_more ls i d k h = at_drop_more (λ xs. column_sum xs k) ls i d h

pub column_left_all : (ls : List Leg) (i k : ℕ) → length ls ≤ i → column_sum (drop i ls) k ≡ pos 0
unfolding column_sum
column_left_all ls i k h = at_drop_all (λ xs. column_sum xs k) ls i h

-- no leg in column k
pub column_off : (ls : List Leg) (k : ℕ) → AllByRecursion (λ l. l.column ≢ k) ls → column_sum ls k ≡ pos 0
unfolding column_sum
column_off [] k h = refl
column_off (l ∷ ls) k h =
    let r : column_sum ls k ≡ pos 0 = column_off ls k h.1 in
    let c : in_column l k ≡ pos 0 = in_column_off l k h.0 in
    omega (arith, ints)

-- sums over accounts
pub sum_add : (n : ℕ) (f g : ℕ → ℤ) → sum_to n (λ a. f a +ℤ g a) ≡ sum_to n f +ℤ sum_to n g
unfolding sum_to
sum_add zero f g = refl
sum_add (suc n) f g = let h : sum_to n (λ a. f a +ℤ g a) ≡ sum_to n f +ℤ sum_to n g = sum_add n f g in omega (arith, ints)

pub sum_zero : (n : ℕ) → sum_to n (λ a. pos 0) ≡ pos 0
unfolding sum_to
sum_zero zero = refl
sum_zero (suc n) = let h : sum_to n (λ a. pos 0) ≡ pos 0 = sum_zero n in omega (arith, ints)

leg_past : (n : ℕ) (l : Leg) (k : ℕ) → n ≤ l.account → sum_to n (λ a. in_cell l a k) ≡ pos 0
unfolding sum_to
leg_past zero l k h = refl
leg_past (suc n) l k h =
    let i : sum_to n (λ a. in_cell l a k) ≡ pos 0 = leg_past n l k (omega arith) in
    let j : in_cell l n k ≡ pos 0 = in_cell_off l n k (omega arith) in
    omega (arith, ints)

leg_sum : (n : ℕ) (l : Leg) (k : ℕ) → l.account < n → sum_to n (λ a. in_cell l a k) ≡ in_column l k
unfolding sum_to
leg_sum zero l k h = absurd (omega arith)
leg_sum (suc n) l k h =
    by_equal l.account n
    (λ e.
    let i : sum_to n (λ a. in_cell l a k) ≡ pos 0 = leg_past n l k (omega arith) in
    let j : in_cell l n k ≡ in_column l k = in_cell_here l n k e in
    omega (arith, ints))
    (λ ne.
    let i : sum_to n (λ a. in_cell l a k) ≡ in_column l k = leg_sum n l k (omega arith) in
    let j : in_cell l n k ≡ pos 0 = in_cell_off l n k ne in
    omega (arith, ints))

-- over all accounts, what legs add to a column's cells is their sum in the column
pub rise_sum : (n : ℕ) (ls : List Leg) (k : ℕ) → AllByRecursion (λ l. l.account < n) ls → sum_to n (λ a. rise ls a k) ≡ column_sum ls k
unfolding rise column_sum
rise_sum n [] k h = sum_zero n
rise_sum n (l ∷ ls) k h =
    let i : sum_to n (λ a. rise ls a k) ≡ column_sum ls k = rise_sum n ls k h.1 in
    let j : sum_to n (λ a. in_cell l a k) ≡ in_column l k = leg_sum n l k h.0 in
    let s : sum_to n (λ a. in_cell l a k +ℤ rise ls a k) ≡ sum_to n (λ a. in_cell l a k) +ℤ sum_to n (λ a. rise ls a k) = sum_add n (λ a. in_cell l a k) (λ a. rise ls a k) in
    omega (arith, ints)
