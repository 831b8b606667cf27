-- What the records add to the cells of an account, one record on. Assumes nothing.
use Rattle.std.proofs.Common.{◌≡◌, ℕ, ◌+◌, ◌*◌, ◌<◌, ◌≤◌, Bool, true, false, ◌&&◌, eqb, ◌≢◌, List, [], ◌∷◌, length, get_or, drop, set, replicate, ℤ, pos, ◌+ℤ◌, nat_abs, refl, ◌∙◌, arith, length-set, get_or-set_other, get_or-set_same}
use Rattle.std.proofs.lemmas.List.{length-replicate, get_or-replicate}
use Rattle.std.proofs.lemmas.Int.{ints}
use Rattle.std.proofs.lemmas.Bool.{and_parts}
use Rattle.std.proofs.lemmas.Bool.Decides.{nat_tests}
use Rattle.money.specs.Conversions.{most_amount}
use Rattle.ledger.specs.declared.leg.Leg.{Leg}
use Rattle.ledger.specs.Entries.{InRange, in_range}
use Rattle.ledger.specs.Legs.{in_column, in_cell}
use Rattle.ledger.specs.Limits.{columns, listed, where_listed}
use Rattle.ledger.proofs.Entries.{in_range_lem}
use Rattle.journal.specs.Journal.{in_record, recorded}
use Rattle.journal.proofs.Records.{left_more, left_all}
use Rattle.journal.proofs.Reach.{record_bound}

-- of an account's row, once the first i records are added: with those left each cell is the whole sum, and none is large
pub record Row (rs : List Leg) (a i : ℕ) (row : List ℤ) : Type 0 where
  pub count : length row ≡ columns
  pub cells : (k : ℕ) → k < columns → get_or row k (pos 0) +ℤ recorded (drop i rs) a k ≡ recorded rs a k
  pub small : (k : ℕ) → k < columns → nat_abs (get_or row k (pos 0)) ≤ i * most_amount

-- the test whether a record is a leg of an account; if not it adds nothing there
abbrev pub leg_of : Leg → ℕ → Bool
leg_of l a = eqb l.account a && in_range l

none_of : (l : Leg) (a k : ℕ) → leg_of l a ≡ false → in_record l a k ≡ pos 0
unfolding in_record in_cell
none_of l a k f = grind (arith, nat_tests)

adds : (l : Leg) (a k : ℕ) → leg_of l a ≡ true → in_record l a k ≡ in_column l k
unfolding in_record in_cell
adds l a k t = grind (arith, nat_tests)

pub range_of : (l : Leg) (a : ℕ) → leg_of l a ≡ true → InRange l
range_of l a t = in_range_lem l (and_parts _ _ t).1

module _ (rs : List Leg) (a i : ℕ) (d : Leg) (row : List ℤ) (h : i < length rs) (so_far : Row rs a i row) where
  pub row_same : leg_of (get_or rs i d) a ≡ false → Row rs a (i + 1) row
  row_same f = record {
    count = so_far.count;
    cells = λ k l. omega (arith, ints, so_far.cells k l, left_more rs i d a k h, none_of (get_or rs i d) a k f);
    small = λ k l. omega (arith, so_far.small k l);
  }

  -- a leg of the account, and the sum in its cell
  module _ (z : ℤ) (is : leg_of (get_or rs i d) a ≡ true) (sum : z ≡ get_or row (get_or rs i d).column (pos 0) +ℤ (get_or rs i d).amount) where
    abbrev l : Leg
    l = get_or rs i d

    within : l.column < length row
    within = omega (arith, so_far.count, (range_of l a is).column)

    cell_more : (k : ℕ) → get_or (set row l.column z) k (pos 0) ≡ get_or row k (pos 0) +ℤ in_record l a k
    unfolding in_column
    cell_more k =
        let own : in_record l a k ≡ in_column l k = adds l a k is in
        let same : get_or (set row l.column z) l.column (pos 0) ≡ z = get_or-set_same row l.column z (pos 0) within in
        let other : k ≢ l.column → get_or (set row l.column z) k (pos 0) ≡ get_or row k (pos 0) = get_or-set_other row l.column k z (pos 0) in
        grind (arith, ints, nat_tests)

    pub row_more : Row rs a (i + 1) (set row l.column z)
    row_more = record {
      count = length-set row l.column z ∙ so_far.count;
      cells = λ k lt. omega (arith, ints, so_far.cells k lt, left_more rs i d a k h, cell_more k);
      small = λ k lt. omega (arith, ints, so_far.small k lt, cell_more k, record_bound l a k);
    }

pub row_all : (rs : List Leg) (a i : ℕ) (row : List ℤ) → length rs ≤ i → Row rs a i row → (k : ℕ) → k < columns → get_or row k (pos 0) ≡ recorded rs a k
row_all rs a i row h w k lt = let e = w.cells k lt in let z = left_all rs i a k h in omega (arith, ints)

pub row_none : (rs : List Leg) (a : ℕ) → Row rs a 0 (replicate columns (pos 0))
row_none rs a = record {
  count = length-replicate columns (pos 0);
  cells = λ k lt. let z : get_or (replicate columns (pos 0)) k (pos 0) ≡ pos 0 = get_or-replicate columns k (pos 0) (pos 0) lt in omega (arith, ints);
  small = λ k lt. let z : get_or (replicate columns (pos 0)) k (pos 0) ≡ pos 0 = get_or-replicate columns k (pos 0) (pos 0) lt in omega (arith, ints);
}

-- outside the accounts and columns records add nothing
record_outside : (l : Leg) (a k : ℕ) → listed a k ≡ false → in_record l a k ≡ pos 0
unfolding in_record in_cell in_column
record_outside l a k o = grind (arith, nat_tests)

recorded_outside : (rs : List Leg) (a k : ℕ) → listed a k ≡ false → recorded rs a k ≡ pos 0
unfolding recorded
recorded_outside [] a k o = refl
recorded_outside (l ∷ rs) a k o = omega (arith, ints, record_outside l a k o, recorded_outside rs a k o)

pub listed_recorded : (rs : List Leg) (a k : ℕ) → recorded rs a k ≡ where_listed (recorded rs) a k
listed_recorded rs a k = let none : listed a k ≡ false → recorded rs a k ≡ pos 0 = recorded_outside rs a k in grind (arith, nat_tests)
