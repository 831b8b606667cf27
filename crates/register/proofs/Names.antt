-- Each number of the register is one cause's, and a refusal names its fault. Assumes nothing.
use Rattle.std.proofs.Common.{◌≡◌, ℕ, zero, suc, ◌+◌, ◌-◌, ◌<◌, ◌≤◌, Bool, true, ◌&&◌, eqb, List, [], ◌∷◌, length, get_or, Some, sym, refl, ap, ◌∙◌, arith}
use Rattle.std.proofs.lemmas.Bool.Decides.{nat_tests}
use Rattle.register.specs.declared.cause.ReaderCause.{ReaderCause}
use Rattle.register.specs.declared.cause.ReaderCause.TheVariants.{UnreadableWord, UnknownPattern, InputTooLong}
use Rattle.register.specs.declared.cause.BookCause.{BookCause}
use Rattle.register.specs.declared.cause.BookCause.TheVariants.{Unfit, UnknownCurrency, EqualCurrencies, AccountNotNamed, AmountOutOfRange, LegCount, Unbalanced, Shares, BookedTooMuch, DocketFull, SlipsExhausted, ForeignSlip, NotOnDocket, SlipIsOut, NothingToSweep, NotAFractionColumn, ListsTooShort}
use Rattle.register.specs.declared.cause.LedgerCause.{LedgerCause}
use Rattle.register.specs.declared.cause.LedgerCause.TheVariants.{NoRoom, OutsideLimits}
use Rattle.register.specs.declared.fault.Fault.{Fault}
use Rattle.register.specs.declared.fault.Fault.TheVariants.{Reader, Book, Ledger}
use Rattle.register.specs.declared.fault.Part.TheVariants.{Reader as R, Book as B, Ledger as L}
use Rattle.register.specs.Register.{registered, reader_number, book_number, ledger_number}
use Rattle.register.specs.Laws.{NamesEachFault}

abbrev of_reader : ReaderCause → Fault
of_reader c = Reader (record { cause = c; place = 0 })

abbrev of_book : BookCause → Fault
of_book c = Book (record { cause = c; place = 0 })

abbrev of_ledger : LedgerCause → Fault
of_ledger c = Ledger (record { cause = c; place = 0; height = 0 })

-- a fault for each number, from 1 on
abbrev faults : List Fault
faults =
    of_book Unfit ∷ of_book UnknownCurrency ∷ of_book EqualCurrencies ∷ of_book AccountNotNamed ∷ of_book AmountOutOfRange ∷ of_book LegCount ∷ of_book Unbalanced ∷ of_book Shares ∷ of_book BookedTooMuch ∷ of_book DocketFull ∷ of_book SlipsExhausted ∷ of_book ForeignSlip ∷ of_book NotOnDocket ∷ of_book SlipIsOut ∷ of_book NothingToSweep ∷ of_book NotAFractionColumn ∷ of_ledger NoRoom ∷ of_ledger OutsideLimits ∷ of_reader UnreadableWord ∷ of_reader UnknownPattern ∷ of_book ListsTooShort ∷ of_reader InputTooLong ∷ []

-- that the numbers of the faults run on from n
abbrev run_on : ℕ → List Fault → Bool
run_on n [] = true
run_on n (f ∷ fs) = eqb (registered f).number n && run_on (n + 1) fs

run_at : (n i : ℕ) (fs : List Fault) (d : Fault) → run_on n fs ≡ true → i < length fs → (registered (get_or fs i d)).number ≡ n + i
run_at n i [] d t h = absurd (omega arith)
run_at n zero (f ∷ fs) d t h = grind (arith, nat_tests)
run_at n (suc i) (f ∷ fs) d t h =
    let more : run_on (n + 1) fs ≡ true = grind (arith, nat_tests) in
    omega (arith, run_at (n + 1) i fs d more (omega arith))

every : (n : ℕ) → 1 ≤ n → n ≤ 22 → (f : Fault) × ((registered f).number ≡ n)
every n low high = (get_or faults (n - 1) (of_book Unfit), omega (arith, run_at 1 (n - 1) faults (of_book Unfit) refl (omega arith)))

reader_within : (c : ReaderCause) → (1 ≤ reader_number c) × (reader_number c ≤ 22)
reader_within c = grind arith

book_within : (c : BookCause) → (1 ≤ book_number c) × (book_number c ≤ 22)
book_within c = grind arith

ledger_within : (c : LedgerCause) → (1 ≤ ledger_number c) × (ledger_number c ≤ 22)
ledger_within c = grind arith

within : (f : Fault) → (1 ≤ (registered f).number) × ((registered f).number ≤ 22)
within (Reader f) = reader_within f.cause
within (Book f) = book_within f.cause
within (Ledger f) = ledger_within f.cause

-- the cause that a number stands for
abbrev reader_of : Fault → ReaderCause
reader_of (Reader f) = f.cause
reader_of (Book f) = UnreadableWord
reader_of (Ledger f) = UnreadableWord

abbrev book_of : Fault → BookCause
book_of (Reader f) = Unfit
book_of (Book f) = f.cause
book_of (Ledger f) = Unfit

abbrev ledger_of : Fault → LedgerCause
ledger_of (Reader f) = NoRoom
ledger_of (Book f) = NoRoom
ledger_of (Ledger f) = f.cause

abbrev numbered : ℕ → Fault
numbered n = get_or faults (n - 1) (of_book Unfit)

reader_back : (c : ReaderCause) → reader_of (numbered (reader_number c)) ≡ c
reader_back UnreadableWord = refl
reader_back UnknownPattern = refl
reader_back InputTooLong = refl

book_back : (c : BookCause) → book_of (numbered (book_number c)) ≡ c
book_back Unfit = refl
book_back UnknownCurrency = refl
book_back EqualCurrencies = refl
book_back AccountNotNamed = refl
book_back AmountOutOfRange = refl
book_back LegCount = refl
book_back Unbalanced = refl
book_back Shares = refl
book_back BookedTooMuch = refl
book_back DocketFull = refl
book_back SlipsExhausted = refl
book_back ForeignSlip = refl
book_back NotOnDocket = refl
book_back SlipIsOut = refl
book_back NothingToSweep = refl
book_back NotAFractionColumn = refl
book_back ListsTooShort = refl

ledger_back : (c : LedgerCause) → ledger_of (numbered (ledger_number c)) ≡ c
ledger_back NoRoom = refl
ledger_back OutsideLimits = refl

reader_apart : (c d : ReaderCause) → reader_number c ≡ reader_number d → c ≡ d
reader_apart c d e = sym (reader_back c) ∙ ap (λ n. reader_of (numbered n)) e ∙ reader_back d

book_apart : (c d : BookCause) → book_number c ≡ book_number d → c ≡ d
book_apart c d e = sym (book_back c) ∙ ap (λ n. book_of (numbered n)) e ∙ book_back d

ledger_apart : (c d : LedgerCause) → ledger_number c ≡ ledger_number d → c ≡ d
ledger_apart c d e = sym (ledger_back c) ∙ ap (λ n. ledger_of (numbered n)) e ∙ ledger_back d

apart : (f g : Fault) → registered f ≡ registered g → f ≡ g
apart (Reader f) (Reader g) e =
    let same : f.cause ≡ g.cause = reader_apart f.cause g.cause (ap (λ r. r.number) e) in
    let here : f.place ≡ g.place = ap (λ r. r.place) e in
    λ i. Reader (record { cause = same i; place = here i })
apart (Reader f) (Book g) e = absurd (let p : R ≡ B = ap (λ r. r.part) e in let z : ◌≡◌ {A = ℕ} 0 1 = cc in omega arith)
apart (Reader f) (Ledger g) e = absurd (let p : R ≡ L = ap (λ r. r.part) e in let z : ◌≡◌ {A = ℕ} 0 1 = cc in omega arith)
apart (Book f) (Reader g) e = absurd (let p : B ≡ R = ap (λ r. r.part) e in let z : ◌≡◌ {A = ℕ} 0 1 = cc in omega arith)
apart (Book f) (Book g) e =
    let same : f.cause ≡ g.cause = book_apart f.cause g.cause (ap (λ r. r.number) e) in
    let here : f.place ≡ g.place = ap (λ r. r.place) e in
    λ i. Book (record { cause = same i; place = here i })
apart (Book f) (Ledger g) e = absurd (let p : B ≡ L = ap (λ r. r.part) e in let z : ◌≡◌ {A = ℕ} 0 1 = cc in omega arith)
apart (Ledger f) (Reader g) e = absurd (let p : L ≡ R = ap (λ r. r.part) e in let z : ◌≡◌ {A = ℕ} 0 1 = cc in omega arith)
apart (Ledger f) (Book g) e = absurd (let p : L ≡ B = ap (λ r. r.part) e in let z : ◌≡◌ {A = ℕ} 0 1 = cc in omega arith)
apart (Ledger f) (Ledger g) e =
    let same : f.cause ≡ g.cause = ledger_apart f.cause g.cause (ap (λ r. r.number) e) in
    let here : f.place ≡ g.place = ap (λ r. r.place) e in
    let heights : Some f.height ≡ Some g.height = ap (λ r. r.height) e in
    let high : f.height ≡ g.height = cc in
    λ i. Ledger (record { cause = same i; place = here i; height = high i })

pub names_each_fault : NamesEachFault
names_each_fault = record { within = within; every = every; apart = apart }
