-- What taking an entry keeps. Assumes nothing.
use Rattle.std.proofs.Common.{◌≡◌, ℕ, ◌+◌, ◌<◌, true, List, [], ◌∷◌, pos, ◌+ℤ◌, Ok, Err, Result, sym, refl, ◌∙◌, subst, arith}
use borrow.Author.Differences.{ints}
use Rattle.std.specs.List.{AllByRecursion}
use Rattle.std.proofs.ByRecursion.{All-weaker}
use Rattle.register.specs.declared.fault.LedgerFault.{LedgerFault}
use Rattle.register.specs.Register.{ledger_answer}
use Rattle.ledger.specs.declared.leg.Leg.{Leg}
use Rattle.ledger.specs.Legs.{rise, column_sum, sum_to, in_cell}
use Rattle.ledger.specs.Limits.{accounts}
use Rattle.ledger.specs.Entries.{InRange, EntryLegs}
use Rattle.ledger.specs.Meaning.{Meaning, inside, entered, fits, stops, verdict, after}
use Rattle.ledger.specs.Laws.{Accepted, Conserved}
use Rattle.ledger.proofs.Rises.{sum_add, rise_sum, rise_one, by_equal, in_cell_off, in_cell_here, in_column_off}
use Rattle.ledger.proofs.Meanings.{entered_none, entered-append, after_taken, after_refused}
use Rattle.ledger.proofs.Walk.{cond_taken, verdict_taken}

-- one leg more: its own cell was tested, and no other cell changed
one_leg_lem : (m : Meaning) (l : Leg) (a k : ℕ) → fits (entered m (l ∷ [])) l ≡ true → inside m a k (m.cell a k) ≡ true → inside (entered m (l ∷ [])) a k ((entered m (l ∷ [])).cell a k) ≡ true
unfolding entered
one_leg_lem m l a k t h =
    let same : in_cell l a k ≡ pos 0 → inside (entered m (l ∷ [])) a k ((entered m (l ∷ [])).cell a k) ≡ true = λ z. subst (λ v. inside m a k v ≡ true) (omega (arith, ints, z, rise_one l a k)) h in
    by_equal l.account a
    (λ p. by_equal l.column k
    (λ q. subst (λ b. inside (entered m (l ∷ [])) b k ((entered m (l ∷ [])).cell b k) ≡ true) p (subst (λ j. inside (entered m (l ∷ [])) l.account j ((entered m (l ∷ [])).cell l.account j) ≡ true) q t))
    (λ d. same (in_cell_here l a k p ∙ in_column_off l k d)))
    (λ d. same (in_cell_off l a k d))

-- the walk keeps a cell within its limits: only a leg in it moves it, and that leg was tested
keeps : (m : Meaning) (n : ℕ) (ls : List Leg) → stops m n ls ≡ Ok tt → (a k : ℕ) → inside m a k (m.cell a k) ≡ true → inside (entered m ls) a k ((entered m ls).cell a k) ≡ true
unfolding stops
keeps m n [] e a k h = subst (λ w. inside w a k (w.cell a k) ≡ true) (sym (entered_none m)) h
keeps m n (l ∷ ls) e a k h =
    let p = cond_taken _ _ _ e in
    let on : inside (entered m (l ∷ [])) a k ((entered m (l ∷ [])).cell a k) ≡ true = one_leg_lem m l a k p.0 h in
    subst (λ w. inside w a k (w.cell a k) ≡ true) (entered-append m (l ∷ []) ls) (keeps (entered m (l ∷ [])) (n + 1) ls p.1 a k on)

-- so once all legs are entered, the cell of each is within its limits
all_fit : (m : Meaning) (n : ℕ) (ls : List Leg) → stops m n ls ≡ Ok tt → AllByRecursion (λ l. fits (entered m ls) l ≡ true) ls
unfolding stops
all_fit m n [] e = tt
all_fit m n (l ∷ ls) e =
    let p = cond_taken _ _ _ e in
    let same = entered-append m (l ∷ []) ls in (
      subst (λ w. fits w l ≡ true) same (keeps (entered m (l ∷ [])) (n + 1) ls p.1 l.account l.column p.0),
      subst (λ w. AllByRecursion (λ x. fits w x ≡ true) ls) same (all_fit (entered m (l ∷ [])) (n + 1) ls p.1),
    )

-- legs that balance leave each column's sum over the accounts as it was
same_sum : (m : Meaning) (ls : List Leg) → EntryLegs ls → (k : ℕ) → sum_to accounts (λ a. (entered m ls).cell a k) ≡ sum_to accounts (λ a. m.cell a k)
unfolding entered
same_sum m ls h k =
    let add : sum_to accounts (λ a. m.cell a k +ℤ rise ls a k) ≡ sum_to accounts (λ a. m.cell a k) +ℤ sum_to accounts (λ a. rise ls a k) = sum_add accounts (λ a. m.cell a k) (λ a. rise ls a k) in
    let all : AllByRecursion (λ l. l.account < accounts) ls = All-weaker InRange (λ l. l.account < accounts) (λ l r. omega (arith, r.account)) ls h.each in
    let sum : sum_to accounts (λ a. rise ls a k) ≡ column_sum ls k = rise_sum accounts ls k all in
    let none : column_sum ls k ≡ pos 0 = h.balanced k in
    omega (arith, ints)

accepted : (m : Meaning) (ls : List Leg) → EntryLegs ls → verdict m ls ≡ Ok tt → Accepted m (entered m ls) ls
unfolding entered
accepted m ls h e =
    let p = verdict_taken m ls e in
    record {
      columns = same_sum m ls h;
      cells = λ a k. refl;
      limits = all_fit m 1 ls p.1;
      room = omega (arith, p.0);
      floors = refl;
      ceilings = refl;
    }

pub conserves : (m n : Meaning) (ls : List Leg) (r : Result (Unit {0}) LedgerFault) → EntryLegs ls → ledger_answer r ≡ verdict m ls → n ≡ after m ls → Conserved m n ls r
conserves m n ls (Ok x) h v e = subst (λ w. Accepted m w ls) (sym (e ∙ after_taken m ls (sym v))) (accepted m ls h (sym v))
conserves m n ls (Err f) h v e = e ∙ after_refused m ls _ (sym v)
