-- What pairs of legs, and residues that move from one account to another, add to cells and columns. Assumes nothing.
use Rattle.std.proofs.Common.{◌≡◌, ℕ, ◌+◌, true, false, cond, eqb, ◌≢◌, List, [], ◌∷◌, ℤ, pos, ◌+ℤ◌, neg_ℤ, sym, refl, ◌∙◌, subst, arith}
use borrow.Author.Differences.{ints}
use Rattle.std.specs.List.{AllByRecursion}
use Rattle.std.proofs.ByRecursion.{All-append}
use Rattle.money.specs.declared.currency.Currency.{Currency}
use Rattle.money.specs.declared.currency.Currency.TheVariants.{Euro, National as Of}
use Rattle.money.specs.Table.{table}
use Rattle.ledger.specs.declared.leg.Leg.{Leg}
use Rattle.ledger.specs.Legs.{leg, in_column, in_cell, column_sum, rise}
use Rattle.ledger.proofs.Rises.{by_equal, in_column_here, in_column_off, in_cell_here, in_cell_off, rise-append, column_append}
use Rattle.model.specs.History.{Origin, residue_at, residue_in, residue_legs, origin_legs}

-- z in column c, as column k has it
abbrev pub at : ℕ → ℤ → ℕ → ℤ
at c z k = cond (eqb c k) z (pos 0)

pub in_column_lem : (a c : ℕ) (z : ℤ) (k : ℕ) → in_column (leg a c z) k ≡ at c z k
unfolding in_column
in_column_lem a c z k = refl

pub at_opposite : (c k : ℕ) (z : ℤ) → at c (neg_ℤ z) k ≡ neg_ℤ (at c z k)
at_opposite c k z = elim (eqb c k) as (λ t. cond t (neg_ℤ z) (pos 0) ≡ neg_ℤ (cond t z (pos 0))) [ true ↦ refl | false ↦ refl ]

pub at_off : (c k : ℕ) (z : ℤ) → c ≢ k → at c z k ≡ pos 0
at_off c k z n = sym (in_column_lem 0 c z k) ∙ in_column_off (leg 0 c z) k n

pub at_here : (c k : ℕ) (z : ℤ) → c ≡ k → at c z k ≡ z
at_here c k z e = sym (in_column_lem 0 c z k) ∙ in_column_here (leg 0 c z) k e

-- one leg more, in the account or not
pub rise_here : (a c : ℕ) (z : ℤ) (ls : List Leg) (k : ℕ) → rise (leg a c z ∷ ls) a k ≡ at c z k +ℤ rise ls a k
unfolding rise
rise_here a c z ls k = rw (in_cell_here (leg a c z) a k refl, in_column_lem a c z k)

pub rise_off : (a b c : ℕ) (z : ℤ) (ls : List Leg) (k : ℕ) → a ≢ b → rise (leg a c z ∷ ls) b k ≡ rise ls b k
unfolding rise
rise_off a b c z ls k n = let h : in_cell (leg a c z) b k ≡ pos 0 = in_cell_off (leg a c z) b k n in omega (arith, ints)

-- or in another column
pub rise_beside : (a b c : ℕ) (z : ℤ) (ls : List Leg) (k : ℕ) → c ≢ k → rise (leg a c z ∷ ls) b k ≡ rise ls b k
rise_beside a b c z ls k n =
    by_equal a b
    (λ e. subst (λ (x : ℕ). rise (leg a c z ∷ ls) x k ≡ rise ls x k) e (let h : at c z k ≡ pos 0 = at_off c k z n in let r = rise_here a c z ls k in omega (arith, ints)))
    (λ ne. rise_off a b c z ls k ne)

pub rise_elsewhere : (ls : List Leg) (a k : ℕ) → AllByRecursion (λ l. l.account ≢ a) ls → rise ls a k ≡ pos 0
unfolding rise
rise_elsewhere [] a k h = refl
rise_elsewhere (l ∷ ls) a k h =
    let r : rise ls a k ≡ pos 0 = rise_elsewhere ls a k h.1 in
    let c : in_cell l a k ≡ pos 0 = in_cell_off l a k h.0 in
    omega (arith, ints)

pub column_none : (k : ℕ) → column_sum [] k ≡ pos 0
unfolding column_sum
column_none k = refl

-- a pair of legs, opposite amounts in one column
pub pair_column : (p q c : ℕ) (z : ℤ) (ls : List Leg) (k : ℕ) → column_sum (leg p c (neg_ℤ z) ∷ leg q c z ∷ ls) k ≡ column_sum ls k
unfolding column_sum
pair_column p q c z ls k =
    let a : in_column (leg p c (neg_ℤ z)) k ≡ neg_ℤ (at c z k) = in_column_lem p c (neg_ℤ z) k ∙ at_opposite c k z in
    let b : in_column (leg q c z) k ≡ at c z k = in_column_lem q c z k in
    omega (arith, ints)

pub pair_column_back : (p q c : ℕ) (z : ℤ) (ls : List Leg) (k : ℕ) → column_sum (leg p c z ∷ leg q c (neg_ℤ z) ∷ ls) k ≡ column_sum ls k
unfolding column_sum
pair_column_back p q c z ls k =
    let a : in_column (leg q c (neg_ℤ z)) k ≡ neg_ℤ (at c z k) = in_column_lem q c (neg_ℤ z) k ∙ at_opposite c k z in
    let b : in_column (leg p c z) k ≡ at c z k = in_column_lem p c z k in
    omega (arith, ints)

pair_from : (p q c : ℕ) (z : ℤ) (ls : List Leg) (k : ℕ) → q ≢ p → rise (leg p c (neg_ℤ z) ∷ leg q c z ∷ ls) p k ≡ neg_ℤ (at c z k) +ℤ rise ls p k
pair_from p q c z ls k n = rw (rise_here p c (neg_ℤ z) (leg q c z ∷ ls) k, rise_off q p c z ls k n, at_opposite c k z)

pair_to : (p q c : ℕ) (z : ℤ) (ls : List Leg) (k : ℕ) → p ≢ q → rise (leg p c (neg_ℤ z) ∷ leg q c z ∷ ls) q k ≡ at c z k +ℤ rise ls q k
pair_to p q c z ls k n = rise_off p q c (neg_ℤ z) (leg q c z ∷ ls) k n ∙ rise_here q c z ls k

-- ---- residues

residue_to : (p q base : ℕ) (c : Currency) (z : ℤ) (k : ℕ) → p ≢ q → rise (residue_legs p q base c z) q k ≡ residue_at base c z k
unfolding rise
residue_to p q base Euro z k n = refl
residue_to p q base (Of i) z k n =
    let e : rise (leg p (base + (table i).number) (neg_ℤ z) ∷ leg q (base + (table i).number) z ∷ []) q k ≡ at (base + (table i).number) z k +ℤ pos 0 = pair_to p q (base + (table i).number) z [] k n in
    omega (arith, ints)

residue_from : (p q base : ℕ) (c : Currency) (z : ℤ) (k : ℕ) → q ≢ p → rise (residue_legs p q base c z) p k ≡ neg_ℤ (residue_at base c z k)
unfolding rise
residue_from p q base Euro z k n = refl
residue_from p q base (Of i) z k n =
    let e : rise (leg p (base + (table i).number) (neg_ℤ z) ∷ leg q (base + (table i).number) z ∷ []) p k ≡ neg_ℤ (at (base + (table i).number) z k) +ℤ pos 0 = pair_from p q (base + (table i).number) z [] k n in
    omega (arith, ints)

residue_column : (p q base : ℕ) (c : Currency) (z : ℤ) (k : ℕ) → column_sum (residue_legs p q base c z) k ≡ pos 0
unfolding column_sum
residue_column p q base Euro z k = refl
residue_column p q base (Of i) z k = pair_column p q (base + (table i).number) z [] k

residue_all : (P : Leg → Type 0) (p q base : ℕ) (c : Currency) (z : ℤ) → ((k : ℕ) (x : ℤ) → P (leg p k x)) → ((k : ℕ) (x : ℤ) → P (leg q k x)) → AllByRecursion P (residue_legs p q base c z)
residue_all P p q base Euro z f g = tt
residue_all P p q base (Of i) z f g = (f _ _, (g _ _, tt))

pub origin_to : (p q : ℕ) (w : Origin) (k : ℕ) → p ≢ q → rise (origin_legs p q w) q k ≡ residue_in w k
origin_to p q w k n =
    let s = rise-append (residue_legs p q 11 w.from w.euro) (residue_legs p q 22 w.to w.national) q k in
    let a = residue_to p q 11 w.from w.euro k n in
    let b = residue_to p q 22 w.to w.national k n in
    omega (arith, ints)

pub origin_from : (p q : ℕ) (w : Origin) (k : ℕ) → q ≢ p → rise (origin_legs p q w) p k ≡ neg_ℤ (residue_in w k)
origin_from p q w k n =
    let s = rise-append (residue_legs p q 11 w.from w.euro) (residue_legs p q 22 w.to w.national) p k in
    let a = residue_from p q 11 w.from w.euro k n in
    let b = residue_from p q 22 w.to w.national k n in
    omega (arith, ints)

pub origin_column : (p q : ℕ) (w : Origin) (k : ℕ) → column_sum (origin_legs p q w) k ≡ pos 0
origin_column p q w k =
    let s = column_append (residue_legs p q 11 w.from w.euro) (residue_legs p q 22 w.to w.national) k in
    let a = residue_column p q 11 w.from w.euro k in
    let b = residue_column p q 22 w.to w.national k in
    omega (arith, ints)

pub origin_all : (P : Leg → Type 0) (p q : ℕ) (w : Origin) → ((k : ℕ) (x : ℤ) → P (leg p k x)) → ((k : ℕ) (x : ℤ) → P (leg q k x)) → AllByRecursion P (origin_legs p q w)
origin_all P p q w f g =
    All-append P (residue_legs p q 11 w.from w.euro) (residue_legs p q 22 w.to w.national)
    (residue_all P p q 11 w.from w.euro f g) (residue_all P p q 22 w.to w.national f g)

pub origin_past : (p q a : ℕ) (w : Origin) (k : ℕ) → p ≢ a → q ≢ a → rise (origin_legs p q w) a k ≡ pos 0
origin_past p q a w k n m = rise_elsewhere (origin_legs p q w) a k (origin_all (λ l. l.account ≢ a) p q w (λ _ _. n) (λ _ _. m))
