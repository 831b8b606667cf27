-- Numbers and columns go together one to one. Assumes nothing.
use Rattle.std.proofs.Common.{◌≡◌, ℕ, zero, suc, ◌+◌, ◌-◌, ◌<◌, ◌≤◌, Bool, true, cond, ◌&&◌, eqb, List, [], ◌∷◌, length, get_or, Some, None, Option, sym, refl, ap, ◌∙◌, ⊎_elim, arith}
use Rattle.std.proofs.lemmas.Bool.{cond-true, cond-false, le-leb, lt-leb}
use Rattle.std.proofs.lemmas.Bool.Decides.{nat_tests, leb_tells}
use Rattle.money.specs.declared.currency.National.{National}
use Rattle.money.specs.declared.currency.National.TheVariants.{Bef, Dem, Esp, Frf, Iep, Itl, Luf, Nlg, Ats, Pte, Fim}
use Rattle.money.specs.declared.currency.Currency.{Currency}
use Rattle.money.specs.declared.currency.Currency.TheVariants.{Euro, National as Of}
use Rattle.money.specs.Table.{table, number_of, numbered}
use Rattle.money.proofs.Names.{names}
use Rattle.ledger.specs.declared.column.FractionColumn.{FractionColumn}
use Rattle.ledger.specs.declared.column.FractionColumn.TheVariants.{Euro as EuroOf, National as NationalOf}
use Rattle.ledger.specs.declared.column.Column.{Column}
use Rattle.ledger.specs.declared.column.Column.TheVariants.{Money, Fraction}
use Rattle.ledger.specs.Columns.{fraction_number, column_number, national_in, national_numbered, fraction_in, fraction_numbered, ColumnsNumbered}

pub national_bounds : (i : National) → (1 ≤ (table i).number) × ((table i).number ≤ 11)
national_bounds i = grind arith

currency_bound : (c : Currency) → number_of c ≤ 11
currency_bound Euro = omega arith
currency_bound (Of i) = (national_bounds i).1

pub fraction_bounds : (f : FractionColumn) → (12 ≤ fraction_number f) × (fraction_number f ≤ 33)
fraction_bounds (EuroOf i) = let b : (1 ≤ (table i).number) × ((table i).number ≤ 11) = national_bounds i in (omega arith, omega arith)
fraction_bounds (NationalOf i) = let b : (1 ≤ (table i).number) × ((table i).number ≤ 11) = national_bounds i in (omega arith, omega arith)

within : (c : Column) → column_number c ≤ 33
within (Money c) = omega (arith, currency_bound c)
within (Fraction f) = (fraction_bounds f).1

-- a national currency for each number, from 1 on
abbrev nationals : List National
nationals = Bef ∷ Dem ∷ Esp ∷ Frf ∷ Iep ∷ Itl ∷ Luf ∷ Nlg ∷ Ats ∷ Pte ∷ Fim ∷ []

-- that the numbers of the currencies run on from n
abbrev run_on : ℕ → List National → Bool
run_on n [] = true
run_on n (i ∷ is) = eqb (table i).number n && run_on (n + 1) is

run_at : (n k : ℕ) (is : List National) (d : National) → run_on n is ≡ true → k < length is → (table (get_or is k d)).number ≡ n + k
run_at n k [] d t h = absurd (omega arith)
run_at n zero (i ∷ is) d t h = grind (arith, nat_tests)
run_at n (suc k) (i ∷ is) d t h =
    let more : run_on (n + 1) is ≡ true = grind (arith, nat_tests) in
    omega (arith, run_at (n + 1) k is d more (omega arith))

national_at : (n : ℕ) → n < 11 → (i : National) × ((table i).number ≡ 1 + n)
national_at n h = (get_or nationals n Bef, run_at 1 n nationals Bef refl h)

-- a number up to 33 is 0, or in one of three groups of 11
every : (n : ℕ) → n ≤ 33 → (c : Column) × (column_number c ≡ n)
every zero h = (Money Euro, refl)
every (suc n) h =
    ⊎_elim
    (λ a. let i = national_at n (omega (arith, a.1)) in (Money (Of i.0), omega (arith, i.1)))
    (λ a. ⊎_elim
    (λ b. let i = national_at (n - 11) (omega (arith, a.1, b.1)) in (Fraction (EuroOf i.0), omega (arith, i.1, a.1)))
    (λ b. let i = national_at (n - 22) (omega (arith, b.1)) in (Fraction (NationalOf i.0), omega (arith, i.1, b.1)))
    (leb_tells n 21))
    (leb_tells n 10)

national_back : (i : National) (n : ℕ) → n ≡ (table i).number → national_numbered n ≡ Some i
national_back i n e = ap national_numbered e ∙ ap national_in (names.by_number (Of i))

fraction : (f : FractionColumn) → fraction_numbered (fraction_number f) ≡ Some f
fraction (EuroOf i) =
    cond-true _ _ _ (le-leb (11 + (table i).number) 22 (omega (arith, (national_bounds i).1)))
    ∙ ap (fraction_in EuroOf) (national_back i (11 + (table i).number - 11) (omega arith))
fraction (NationalOf i) =
    cond-false _ _ _ (lt-leb (22 + (table i).number) 22 (omega (arith, (national_bounds i).0)))
    ∙ ap (fraction_in NationalOf) (national_back i (22 + (table i).number - 22) (omega arith))

national_in_lem : (o : Option Currency) (i : National) → national_in o ≡ Some i → o ≡ Some (Of i)
national_in_lem None i e = absurd (let z : ◌≡◌ {A = ℕ} 0 1 = cc in omega arith)
national_in_lem (Some Euro) i e = absurd (let z : ◌≡◌ {A = ℕ} 0 1 = cc in omega arith)
national_in_lem (Some (Of j)) i e = cc

national_is : (n : ℕ) (i : National) → national_numbered n ≡ Some i → (table i).number ≡ n
national_is n i e = names.number_is n (Of i) (national_in_lem (numbered n) i e)

fraction_in_lem : (kind : National → FractionColumn) (o : Option National) (f : FractionColumn) → fraction_in kind o ≡ Some f → (i : National) × (o ≡ Some i) × (f ≡ kind i)
fraction_in_lem kind None f e = absurd (let z : ◌≡◌ {A = ℕ} 0 1 = cc in omega arith)
fraction_in_lem kind (Some i) f e = (i, refl, cc)

fraction_is_lem : (n : ℕ) (f : FractionColumn) → fraction_numbered n ≡ Some f → fraction_number f ≡ n
fraction_is_lem n f e =
    ⊎_elim
    (λ a.
    let p = fraction_in_lem EuroOf (national_numbered (n - 11)) f (sym (ap (λ b. cond b (fraction_in EuroOf (national_numbered (n - 11))) (fraction_in NationalOf (national_numbered (n - 22)))) a.0) ∙ e) in
    ap fraction_number p.2 ∙ omega (arith, national_is (n - 11) p.0 p.1, national_bounds p.0))
    (λ a.
    let p = fraction_in_lem NationalOf (national_numbered (n - 22)) f (sym (ap (λ b. cond b (fraction_in EuroOf (national_numbered (n - 11))) (fraction_in NationalOf (national_numbered (n - 22)))) a.0) ∙ e) in
    ap fraction_number p.2 ∙ omega (arith, national_is (n - 22) p.0 p.1, national_bounds p.0))
    (leb_tells n 22)

apart : (c d : Column) → column_number c ≡ column_number d → c ≡ d
apart (Money c) (Money d) e = let s : Some c ≡ Some d = sym (names.by_number c) ∙ ap numbered e ∙ names.by_number d in cc
apart (Money c) (Fraction g) e = absurd (omega (arith, e, currency_bound c, (fraction_bounds g).0))
apart (Fraction f) (Money d) e = absurd (omega (arith, e, currency_bound d, (fraction_bounds f).0))
apart (Fraction f) (Fraction g) e = let s : Some f ≡ Some g = sym (fraction f) ∙ ap fraction_numbered e ∙ fraction g in cc

pub columns_numbered : ColumnsNumbered
columns_numbered = record { within = within; every = every; apart = apart; fraction = fraction; fraction_is = fraction_is_lem }
