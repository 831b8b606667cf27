-- The refusal register: the part, number, place and height of every fault. Assumes nothing.
use Rattle.std.specs.Prelude.{ℕ, List, ◌++◌, Some, None, Ok, Err, codes, decimal, Option, Result}
use Rattle.register.specs.declared.cause.ReaderCause.{ReaderCause}
use Rattle.register.specs.declared.cause.ReaderCause.TheVariants.{UnreadableWord, UnknownPattern, InputTooLong}
use Rattle.register.specs.declared.cause.BookCause.{BookCause}
use Rattle.register.specs.declared.cause.BookCause.TheVariants.{Unfit, UnknownCurrency, EqualCurrencies, AccountNotNamed, AmountOutOfRange, LegCount, Unbalanced, Shares, BookedTooMuch, DocketFull, SlipsExhausted, ForeignSlip, NotOnDocket, SlipIsOut, NothingToSweep, NotAFractionColumn, ListsTooShort}
use Rattle.register.specs.declared.cause.LedgerCause.{LedgerCause}
use Rattle.register.specs.declared.cause.LedgerCause.TheVariants.{NoRoom, OutsideLimits}
use Rattle.register.specs.declared.fault.LedgerFault.{LedgerFault}
use Rattle.register.specs.declared.fault.Placed.{Placed}
use Rattle.register.specs.declared.fault.Fault.{Fault}
use Rattle.register.specs.declared.fault.Fault.TheVariants.{Reader, Book, Ledger}
use Rattle.register.specs.declared.fault.Part.{Part}
use Rattle.register.specs.declared.fault.Part.TheVariants.{Reader as R, Book as B, Ledger as L}

-- a refusal as the register has it: the part that refuses, its number, its place, and the height of a ledger's
pub record Refusal : Type 0 where
  pub part : Part
  pub number : ℕ
  pub place : ℕ
  pub height : Option ℕ

-- a refusal of the reader, of the book, and of a ledger at a height, by number and place
abbrev pub by_reader : ℕ → ℕ → Refusal
by_reader n place = record { part = R; number = n; place = place; height = None }

abbrev pub by_book : ℕ → ℕ → Refusal
by_book n place = record { part = B; number = n; place = place; height = None }

abbrev pub by_ledger : ℕ → ℕ → ℕ → Refusal
by_ledger n place height = record { part = L; number = n; place = place; height = Some height }

-- a refusal of the reader, and one of the book: a cause of that part, and its place
abbrev pub ReaderFault : Type 0
ReaderFault = Placed ReaderCause

abbrev pub BookFault : Type 0
BookFault = Placed BookCause

-- the numbers of the causes
abbrev pub reader_number : ReaderCause → ℕ
reader_number UnreadableWord = 19
reader_number UnknownPattern = 20
reader_number InputTooLong = 22

abbrev pub book_number : BookCause → ℕ
book_number Unfit = 1
book_number UnknownCurrency = 2
book_number EqualCurrencies = 3
book_number AccountNotNamed = 4
book_number AmountOutOfRange = 5
book_number LegCount = 6
book_number Unbalanced = 7
book_number Shares = 8
book_number BookedTooMuch = 9
book_number DocketFull = 10
book_number SlipsExhausted = 11
book_number ForeignSlip = 12
book_number NotOnDocket = 13
book_number SlipIsOut = 14
book_number NothingToSweep = 15
book_number NotAFractionColumn = 16
book_number ListsTooShort = 21

abbrev pub ledger_number : LedgerCause → ℕ
ledger_number NoRoom = 17
ledger_number OutsideLimits = 18

-- what the register says of a fault
abbrev pub registered : Fault → Refusal
registered (Reader f) = by_reader (reader_number f.cause) f.place
registered (Book f) = by_book (book_number f.cause) f.place
registered (Ledger f) = by_ledger (ledger_number f.cause) f.place f.height

-- an answer, with the refusal as the register has it in place of the fault
abbrev answer_by : {T F : Type 0} → (F → Fault) → Result T F → Result T Refusal
answer_by of (Ok x) = Ok x
answer_by of (Err f) = Err (registered (of f))

abbrev pub answer : {T : Type 0} → Result T Fault → Result T Refusal
answer r = answer_by (λ f. f) r

abbrev pub book_answer : {T : Type 0} → Result T BookFault → Result T Refusal
book_answer r = answer_by Book r

abbrev pub ledger_answer : {T : Type 0} → Result T LedgerFault → Result T Refusal
ledger_answer r = answer_by Ledger r

abbrev pub reader_answer : {T : Type 0} → Result T ReaderFault → Result T Refusal
reader_answer r = answer_by Reader r

-- the letter of a part
abbrev pub part_text : Part → List ℕ
part_text R = codes "R"
part_text B = codes "B"
part_text L = codes "L"

abbrev height_text : Option ℕ → List ℕ
height_text None = codes ""
height_text (Some h) = codes " " ++ decimal h

-- a refusal in writing: letter, number, place and, of a ledger, the height
abbrev pub refusal_text : Refusal → List ℕ
refusal_text r = part_text r.part ++ (codes " " ++ (decimal r.number ++ (codes " " ++ (decimal r.place ++ height_text r.height))))
