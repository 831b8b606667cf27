-- What is swept of a cell. Assumes nothing.
use Rattle.std.proofs.Common.{◌≡◌, ℕ, zero, suc, ◌+◌, ◌*◌, ◌/◌, ◌%◌, ◌^◌, ◌<◌, ◌≤◌, cond, leb, ℤ, pos, negsuc, ◌*ℤ◌, neg_ℤ, nat_abs, ◌≤ℤ◌, sym, refl, subst, mul-le-mul_right, mod-lt, add-mul, mul-le-mul, one-mul, div-add-mod', div-le_self, arith, w64, SFits}
use Rattle.std.proofs.lemmas.Int.{ints, clamps, unsigned_abs-mul}
use Rattle.std.specs.Int.{int_max, int_min}
use Rattle.std.proofs.lemmas.Bool.{cond_both, leb-true, leb-false}
use Rattle.std.proofs.lemmas.Bool.Decides.{nat_tests}
use Rattle.money.proofs.Bounds.{rate_bounds, parts_bounds}
use Rattle.ledger.specs.declared.column.FractionColumn.{FractionColumn}
use Rattle.ledger.specs.declared.column.FractionColumn.TheVariants.{Euro as EuroOf, National as NationalOf}
use Rattle.ledger.specs.Columns.{whole_parts}
use Rattle.model.specs.Postings.{most_swept, within, sweepable}
use Rattle.postings.specs.Sweeps.{most_parts, Swept}

pub parts_small : (f : FractionColumn) → (0 < whole_parts f) × (whole_parts f ≤ most_parts)
parts_small (EuroOf i) = let b = rate_bounds i in (omega (arith, b), omega (arith, b))
parts_small (NationalOf i) = let b = parts_bounds i in (omega (arith, b), omega (arith, b))

-- at most the limit
abbrev at_most : ℕ → ℕ
at_most q = cond (leb q most_swept) q most_swept

within_pos : (q : ℕ) → within most_swept (pos q) ≡ pos (at_most q)
within_pos q = grind (arith, nat_tests)

within_neg : (q : ℕ) → within most_swept (neg_ℤ (pos q)) ≡ neg_ℤ (pos (at_most q))
within_neg zero = refl
within_neg (suc q) = grind (arith, nat_tests)

-- the whole units in m parts, at most the limit
record Whole (m d k : ℕ) : Type 0 where
  most : k ≤ most_swept
  covered : k * d ≤ m
  every : k < most_swept → m < (k + 1) * d

whole_units : (m d : ℕ) → 0 < d → Whole m d (at_most (m / d))
whole_units m d h =
    let q = m / d in
    let e : q * d + m % d ≡ m = div-add-mod' m d in
    let l : m % d < d = mod-lt m h in
    let a : (q + 1) * d ≡ q * d + 1 * d = add-mul q 1 d in
    let o : 1 * d ≡ d = one-mul d in
    cond_both (leb q most_swept) q most_swept (Whole m d)
    (λ t. record { most = leb-true q most_swept t; covered = omega arith; every = λ _. omega arith })
    (λ f.
    let big : most_swept < q = leb-false q most_swept f in
    let c : most_swept * d ≤ q * d = mul-le-mul_right d (omega arith) in
    record { most = omega arith; covered = omega arith; every = λ z. absurd (omega arith) })

-- an empty cell has no whole units
none_held : (n d : ℕ) → pos n ≤ℤ pos 0 → pos (at_most (n / d)) ≤ℤ pos 0
none_held n d z =
    let e : n ≡ 0 = omega (arith, ints) in
    let q : n / d ≡ 0 = omega (arith, div-le_self n d) in
    rw q (omega (arith, ints))

pub swept : (f : FractionColumn) (cell : ℤ) → Swept f cell (sweepable f cell)
swept f (pos n) =
    let w = whole_units n (whole_parts f) (parts_small f).0 in
    subst (Swept f (pos n)) (sym (within_pos (n / whole_parts f)))
    (record { most = w.most; covered = w.covered; every = w.every; held = λ _. omega (arith, ints); owed = λ z. none_held n (whole_parts f) z })
swept f (negsuc n) =
    let w = whole_units (suc n) (whole_parts f) (parts_small f).0 in
    let k = at_most (suc n / whole_parts f) in
    let size : nat_abs (neg_ℤ (pos k)) ≡ k = omega (arith, ints) in
    subst (Swept f (negsuc n)) (sym (within_neg (suc n / whole_parts f)))
    (record {
      most = rw size w.most;
      covered = rw size w.covered;
      every = rw size w.every;
      held = λ z. absurd (omega (arith, ints));
      owed = λ _. omega (arith, ints);
    })

-- clamped between the limits is within the limit
pub clamped : (z : ℤ) → int_max (neg_ℤ (pos most_swept)) (int_min z (pos most_swept)) ≡ within most_swept z
clamped z = grind (arith, ints, clamps, nat_tests)

-- what fits a machine's word
pub product_bound : (z : ℤ) (p : ℕ) → SFits w64 z → p ≤ most_parts → nat_abs (z *ℤ pos p) ≤ 2 ^ 63 * most_parts
product_bound z p f h =
    let a : nat_abs z ≤ 2 ^ 63 = omega (arith, ints, f) in
    omega (arith, unsigned_abs-mul z (pos p), mul-le-mul a h)
