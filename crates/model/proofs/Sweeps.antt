-- What sweeps owe. Assumes nothing.
use Rattle.std.proofs.Common.{◌≡◌, ℕ, zero, suc, ◌+◌, ◌*◌, ◌/◌, ◌%◌, ◌<◌, ◌≤◌, true, false, cond, not, eqb, leb, ◌⊎◌, List, [], ◌∷◌, ℤ, pos, negsuc, ◌*ℤ◌, neg_ℤ, nat_abs, Some, Ok, sym, refl, ap, ◌∙◌, subst, ap₂, inl, inr, ⊎_elim, le_of_lt, mul-le-mul_right, mod-lt, add-mul, div-add-mod', arith}
use borrow.Author.Differences.{ints}
use lib.IntN.{*ℤ_comm}
use lib.Signed.{quot_z}
use Rattle.std.proofs.lemmas.Bool.{cases_lt, le-leb, lt-leb}
use Rattle.money.specs.Table.{number_of, rate, parts}
use Rattle.money.proofs.Bounds.{rate_bounds, parts_bounds}
use Rattle.ledger.specs.declared.column.FractionColumn.{FractionColumn}
use Rattle.ledger.specs.declared.column.FractionColumn.TheVariants.{Euro as EuroOf, National as NationalOf}
use Rattle.ledger.specs.declared.leg.Leg.{Leg}
use Rattle.ledger.specs.Columns.{fraction_number, whole_parts, currency_of, fraction_numbered}
use Rattle.ledger.specs.Entries.{is_zero}
use Rattle.ledger.specs.Legs.{leg, rise}
use Rattle.ledger.specs.Limits.{accounts}
use Rattle.ledger.proofs.Columns.{national_bounds, fraction_bounds, columns_numbered}
use Rattle.ledger.proofs.Rises.{by_equal, rise_none}
use Rattle.model.specs.Calls.{sweep}
use Rattle.model.specs.Conservation.{Alike, Sweepable}
use Rattle.model.specs.History.{Event, status, origin, swept_legs}
use Rattle.model.specs.Postings.{most_swept, within, sweepable}
use Rattle.model.specs.Results.{unless, present}
use Rattle.model.specs.State.{State}
use Rattle.model.specs.Step.{Movement, fitness, account_at, sweeps, sweeping}
use Rattle.model.proofs.Accepted.{and_then_lem, ok_same, found_there, Named, account_named}
use Rattle.model.proofs.Kept.{Balanced, Sound, Kept}
use Rattle.model.proofs.Legs.{at, at_off, at_here, rise_here, rise_off, rise_beside, rise_elsewhere, column_none, pair_column, pair_column_back}
use Rattle.model.proofs.Sums.{swept_euro, swept_national}

-- ---- q

-- at most c, whatever c is
abbrev capped : ℕ → ℕ → ℕ
capped c n = cond (leb n c) n c

within_above : (c n : ℕ) → within c (pos n) ≡ pos (capped c n)
within_above zero n =
    rw (le-leb 0 n (omega arith)) (elim (leb n 0) as (λ b. cond b (pos n) (pos 0) ≡ pos (cond b n 0)) [ true ↦ refl | false ↦ refl ])
within_above (suc c) n = elim (leb n (suc c)) as (λ b. cond b (pos n) (pos (suc c)) ≡ pos (cond b n (suc c))) [ true ↦ refl | false ↦ refl ]

within_below : (c n : ℕ) → within c (neg_ℤ (pos n)) ≡ neg_ℤ (pos (capped c n))
within_below zero zero = refl
within_below zero (suc n) = rw (lt-leb (suc n) 0 (omega arith))
within_below (suc c) zero = rw (le-leb 0 (suc c) (omega arith))
within_below (suc c) (suc n) =
    ⊎_elim
    (λ l. rw (lt-leb (suc n) (suc c) l, lt-leb n c (omega arith)))
    (λ l. rw (le-leb (suc n) (suc c) l, le-leb n c (omega arith)))
    (cases_lt (suc c) (suc n))

size_below : (n : ℕ) → nat_abs (neg_ℤ (pos n)) ≡ n
size_below zero = refl
size_below (suc n) = refl

-- m is the whole units of d in n, but at most c
record Whole (c n d m : ℕ) : Type 0 where
  few : m ≤ c
  there : m * d ≤ n
  all : (m ≡ c) ⊎ (n < (m + 1) * d)

whole_cut : (c n d : ℕ) → 0 < d → Whole c n d (capped c (n / d))
whole_cut c n d h =
    let capped_at : c < n / d → c * d ≤ n / d * d = λ l. mul-le-mul_right d (le_of_lt l) in
    let e : n / d * d + n % d ≡ n = div-add-mod' n d in
    let r : n % d < d = mod-lt n h in
    let a : (n / d + 1) * d ≡ n / d * d + 1 * d = add-mul (n / d) 1 d in
    ⊎_elim
    (λ l.
    let m : c * d ≤ n / d * d = capped_at l in
    rw (lt-leb (n / d) c l) (record { few = omega arith; there = omega arith; all = inl refl }))
    (λ l. rw (le-leb (n / d) c l) (record { few = l; there = omega arith; all = inr (omega arith) }))
    (cases_lt c (n / d))

sweepable_at : (t q : ℤ) (d m : ℕ) → Whole most_swept (nat_abs t) d m → nat_abs q ≡ m → Alike t q → Sweepable t d q
sweepable_at t q d m w e s =
    let x : Whole most_swept (nat_abs t) d (nat_abs q) = subst (Whole most_swept (nat_abs t) d) (sym e) w in
    record { alike = s; few = x.few; there = x.there; all = x.all }

sweepable_is : (t : ℤ) (d : ℕ) → 0 < d → Sweepable t d (within most_swept (quot_z t (pos d)))
sweepable_is (pos n) d h =
    let m : ℕ = capped most_swept (n / d) in
    subst (Sweepable (pos n) d) (sym (within_above most_swept (n / d))) (sweepable_at (pos n) (pos m) d m (whole_cut most_swept n d h) refl refl)
sweepable_is (negsuc n) d h =
    let m : ℕ = capped most_swept (suc n / d) in
    subst (Sweepable (negsuc n) d) (sym (within_below most_swept (suc n / d)))
    (sweepable_at (negsuc n) (neg_ℤ (pos m)) d m (whole_cut most_swept (suc n) d h) (size_below m) (ap (λ (x : ℕ). neg_ℤ (pos x)) (sym (size_below m))))

whole_positive : (f : FractionColumn) → 0 < whole_parts f
whole_positive (EuroOf i) = omega (arith, rate_bounds i)
whole_positive (NationalOf i) = omega (arith, parts_bounds i)

-- ---- the legs

money_column : (f : FractionColumn) → number_of (currency_of f) ≤ 11
money_column (EuroOf i) = omega arith
money_column (NationalOf i) = (national_bounds i).1

-- what the exchange account gets back is D for each unit, in the column that is swept
swept_back : (f g : FractionColumn) (k : ℕ) (q : ℤ) → fraction_numbered k ≡ Some f → at k (q *ℤ pos (whole_parts f)) (fraction_number g) ≡ pos (whole_parts g) *ℤ cond (eqb k (fraction_number g)) q (pos 0)
swept_back f g k q e =
    by_equal k (fraction_number g)
    (λ h.
    let same : Some f ≡ Some g = sym e ∙ ap fraction_numbered h ∙ columns_numbered.fraction g in
    let is : f ≡ g = cc in
    at_here k (fraction_number g) (q *ℤ pos (whole_parts f)) h
    ∙ *ℤ_comm q (pos (whole_parts f))
    ∙ ap₂ (λ (x : FractionColumn) (z : ℤ). pos (whole_parts x) *ℤ z) is (sym (at_here k (fraction_number g) q h)))
    (λ n. at_off k (fraction_number g) (q *ℤ pos (whole_parts f)) n ∙ rw (at_off k (fraction_number g) q n) (omega (arith, ints)))

exchange_rise : (a k : ℕ) (f : FractionColumn) (q : ℤ) (l : ℕ) → Named a → 12 ≤ l → rise (swept_legs a k q (Some f)) 0 l ≡ at k (q *ℤ pos (whole_parts f)) l
exchange_rise a k f q l n h =
    let lo : 2 ≤ a = n.low in
    let m : number_of (currency_of f) ≤ 11 = money_column f in
    let z : ℤ = q *ℤ pos (whole_parts f) in
    rise_off a 0 (number_of (currency_of f)) q (leg 0 (number_of (currency_of f)) (neg_ℤ q) ∷ leg a k (neg_ℤ z) ∷ leg 0 k z ∷ []) l (omega arith)
    ∙ rise_beside 0 0 (number_of (currency_of f)) (neg_ℤ q) (leg a k (neg_ℤ z) ∷ leg 0 k z ∷ []) l (omega arith)
    ∙ rise_off a 0 k (neg_ℤ z) (leg 0 k z ∷ []) l (omega arith)
    ∙ rise_here 0 k z [] l
    ∙ (let none = rise_none 0 l in omega (arith, ints))

sweep_balanced : (a k : ℕ) (f : FractionColumn) (q : ℤ) → Named a → fraction_numbered k ≡ Some f → Balanced (sweep a k) (record { 0 = q }) (swept_legs a k q (Some f))
sweep_balanced a k f q n e =
    let z : ℤ = q *ℤ pos (whole_parts f) in
    let hi : a < accounts = n.high in
    record {
      within = (hi, (omega arith, (hi, (omega arith, tt))));
      columns = λ l.
          pair_column_back a 0 (number_of (currency_of f)) q (leg a k (neg_ℤ z) ∷ leg 0 k z ∷ []) l
          ∙ pair_column a 0 k z [] l ∙ column_none l;
      euro = λ i. swept_euro (10 * rate i) (rate i) _ _ (exchange_rise a k f q _ n (fraction_bounds (EuroOf i)).0 ∙ swept_back f (EuroOf i) k q e);
      national = λ j. swept_national (parts j) _ _ (exchange_rise a k f q _ n (fraction_bounds (NationalOf j)).0 ∙ swept_back f (NationalOf j) k q e);
    }

-- ---- the sweep

sweep_sound : (o s : State) (h : List Event) (a k : ℕ) (f : FractionColumn) → Kept o s h → Named a → fraction_numbered k ≡ Some f
    → Sound o s h (sweep a k) (sweeps a f (sweepable f (s.ledger.cell a k)))
unfolding status origin
sweep_sound o s h a k f kept n e =
    let q : ℤ = sweepable f (s.ledger.cell a k) in
    let lo : 2 ≤ a = n.low in
    let is : fraction_number f ≡ k = columns_numbered.fraction_is k f e in
    let told : swept_legs a k q (fraction_numbered k) ≡ swept_legs a k q (Some f) = ap (swept_legs a k q) e in
    record {
      makes = record { statuses = λ n. refl; origins = λ n. refl };
      count = omega arith;
      timely = tt;
      told = ap (λ (l : ℕ). swept_legs a l q (Some f)) is ∙ sym told;
      balanced = subst (Balanced (sweep a k) (record { 0 = q })) (sym told) (sweep_balanced a k f q n e);
      residues = λ l. ap (λ (ls : List Leg). rise ls 1 l) told ∙ rise_elsewhere (swept_legs a k q (Some f)) 1 l (omega arith);
      due = (f, is, subst (λ (t : ℤ). Sweepable t (whole_parts f) q) (kept.cells a k) (sweepable_is (s.ledger.cell a k) (whole_parts f) (whole_positive f)));
      fair = tt;
    }

pub sweep_accepted : (o s : State) (h : List Event) (a k : ℕ) (v : Movement _) → Kept o s h → sweeping s a k ≡ Ok v → Sound o s h (sweep a k) v
sweep_accepted o s h a k v kept e =
    let x = and_then_lem (fitness s) _ v e in
    let y = and_then_lem (account_at a 0) _ v x.2 in
    let z = and_then_lem (present (fraction_numbered k) 16 0) _ v y.2 in
    let u = and_then_lem (unless (not (is_zero (sweepable z.0 (s.ledger.cell a k)))) 15 0) _ v z.2 in
    subst (Sound o s h (sweep a k)) (ok_same _ v u.2)
    (sweep_sound o s h a k z.0 kept (account_named a 0 y.0 y.1) (found_there (fraction_numbered k) 16 0 z.0 z.1))
