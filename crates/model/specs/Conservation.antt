-- The law over whole runs: no fraction is lost or made. Assumes nothing.
use Rattle.std.specs.Prelude.{◌≡◌, ℕ, suc, ◌+◌, ◌*◌, ◌<◌, ◌≤◌, true, ◌≢◌, ◌⊎◌, List, [], ◌∷◌, ◌++◌, length, ℤ, pos, negsuc, ◌+ℤ◌, ◌-ℤ◌, ◌*ℤ◌, neg_ℤ, Ok, Err, Result, unsigned_abs}
use Rattle.std.specs.List.{range_with_len, AllByRecursion}
use Rattle.register.specs.Register.{Refusal}
use Rattle.money.specs.declared.conversion.Conversion.{Conversion}
use Rattle.money.specs.declared.currency.National.{National}
use Rattle.money.specs.declared.quantity.Minor.{Minor}
use Rattle.money.specs.Conversions.{booked}
use Rattle.money.specs.Laws.{LosslessBetween}
use Rattle.money.specs.Table.{rate, parts}
use Rattle.ledger.specs.declared.column.FractionColumn.{FractionColumn}
use Rattle.ledger.specs.declared.column.FractionColumn.TheVariants.{Euro as EuroOf, National as NationalOf}
use Rattle.ledger.specs.Columns.{fraction_number, whole_parts}
use Rattle.ledger.specs.Entries.{most_account}
use Rattle.ledger.specs.Legs.{sum_to}
use Rattle.ledger.specs.Limits.{accounts, columns}
use Rattle.ledger.specs.Meaning.{Meaning}
use Rattle.apportion.specs.Laws.{Fair}
use Rattle.model.specs.declared.record.Record.{Record}
use Rattle.model.specs.declared.record.Standing.TheVariants.{Out, Parked}
use Rattle.model.specs.declared.request.Exchange.{Exchange}
use Rattle.model.specs.Calls.{Question, cell, room, kind, fit, mark, given, records, audit, Answer, Call, post, convert, split, carry, park, take_up, sweep, ask, Reply}
use Rattle.model.specs.History.{Event, event, after, events, never, held, status, numbers_given, carries_of, account_of, Unconcerned, source_of, target_of, amount_of, origin, not_carried, held_in, risen, legs_taken, tally, of_conversions, exact_out, cents_booked, mills_passed, exact_in, units_booked, swept_from}
use Rattle.model.specs.Postings.{most_swept}
use Rattle.model.specs.State.{State, docket_account, opened}

-- the columns below this are money
abbrev pub money_columns : ℕ
money_columns = 12

-- ---- the slips

-- how many slips were given
abbrev pub slips : List Event → ℕ
slips h = length (numbers_given h)

-- Each number given is out, parked or carried, by exactly one carry to exactly one account, and no call speaks of it
-- afterwards; no other number is anything.
pub record CarriedOnce (h : List Event) : Type 0 where
  -- the numbers 1 to the last given are on the docket or carried
  pub known : (n : ℕ) → 1 ≤ n → n ≤ slips h → status h n ≢ never
  -- 0 and the numbers not yet given are not
  pub unknown : (n : ℕ) → (n ≡ 0) ⊎ (slips h < n) → status h n ≡ never
  -- the carries of a number are the one to the account at which it is, and none where it is not carried
  pub once : (n : ℕ) → carries_of h n ≡ account_of (status h n)
  -- wherever the history is cut at an accepted carry of n, no accepted call that follows gives, parks, takes up or
  -- carries n
  pub final : (later earlier : List Event) (mark n account : ℕ) → h ≡ later ++ (event (carry mark n account) (Ok tt) ∷ earlier)
      → AllByRecursion (Unconcerned n) later

-- ---- the docket account

-- the docket account of s after the history h
pub record HoldsResidues (s : State) (h : List Event) : Type 0 where
  -- in each fraction column it has exactly the residues of the numbers not carried
  pub fractions : (k : ℕ) → money_columns ≤ k → k < columns
      → s.ledger.cell docket_account k ≡ sum_to (slips h) (λ n. held_in (status h (suc n)) (origin h (suc n)) k)
  -- and in each money column 0
  pub money : (k : ℕ) → k < money_columns → s.ledger.cell docket_account k ≡ pos 0

-- ---- the sums between two points

-- the sum over accounts 1 to 127 of a column: all but the exchange account
unfoldable pub beside_exchange : State → ℕ → ℤ
beside_exchange s k = sum_to most_account (λ a. s.ledger.cell (a + 1) k)

-- the state was s and is s', and g was asked and answered in between
pub record Exact (s s' : State) (g : List Event) : Type 0 where
  -- the sum of M from i is 10 × R for each cent booked from i and each cent swept, R for each mill passed on, and the
  -- rise of the euro fraction
  pub euro : (i : National)
      → tally (of_conversions (exact_out i)) g
      ≡ pos (10 * rate i) *ℤ (tally (of_conversions (cents_booked i)) g +ℤ tally (swept_from (fraction_number (EuroOf i))) g)
      +ℤ pos (rate i) *ℤ tally (of_conversions (mills_passed i)) g
      +ℤ (beside_exchange s' (fraction_number (EuroOf i)) -ℤ beside_exchange s (fraction_number (EuroOf i)))
  -- the sum of N into j is P for each unit booked into j and each unit swept, and the rise of the national fraction
  pub national : (j : National)
      → tally (of_conversions (exact_in j)) g
      ≡ pos (parts j) *ℤ (tally (of_conversions (units_booked j)) g +ℤ tally (swept_from (fraction_number (NationalOf j))) g)
      +ℤ (beside_exchange s' (fraction_number (NationalOf j)) -ℤ beside_exchange s (fraction_number (NationalOf j)))

-- ---- answers

-- b is what the conversion books: some conversion between the two currencies that loses no part books it
abbrev pub Books : Exchange → Minor → Type 0
Books x b = (c : Conversion) × LosslessBetween (source_of x) (target_of x) (amount_of x) c × (booked c ≡ b)

-- q has the sign of t
abbrev pub Alike : ℤ → ℤ → Type 0
Alike (pos n) q = q ≡ pos (unsigned_abs q)
Alike (negsuc n) q = q ≡ neg_ℤ (pos (unsigned_abs q))

-- q is the whole units of d parts in t parts, cut toward zero, and at most 1,000 either way
pub record Sweepable (t : ℤ) (d : ℕ) (q : ℤ) : Type 0 where
  pub alike : Alike t q
  pub few : unsigned_abs q ≤ most_swept
  pub there : unsigned_abs q * d ≤ unsigned_abs t
  pub all : (unsigned_abs q ≡ most_swept) ⊎ (unsigned_abs t < (unsigned_abs q + 1) * d)

-- the docket that a history makes
abbrev pub open_slips : List Event → List Record
open_slips h = not_carried (status h) (origin h) (slips h)

-- what a question answers, by the book as it opened and the history h since
abbrev pub DueAnswer : State → List Event → (q : Question) → Answer q → Type 0
DueAnswer o h (cell a k) r = r ≡ o.ledger.cell a k +ℤ risen h a k
DueAnswer o h room r = r + legs_taken h ≡ o.ledger.room
DueAnswer o h kind r = r ≡ o.kind
DueAnswer o h fit r = r ≡ true
DueAnswer o h mark r = r ≡ o.mark
DueAnswer o h given r = r ≡ slips h
DueAnswer o h records r = r ≡ open_slips h
DueAnswer o h audit r = (r.kind ≡ o.kind) × (r.room + legs_taken h ≡ o.ledger.room) × (r.records ≡ length (open_slips h))

-- a slip is this book's: the mark is the book's, and the number is out
abbrev pub Ours : State → List Event → (mark number : ℕ) → Type 0
Ours o h m n = (m ≡ o.mark) × (status h n ≡ held Out)

-- What an accepted call answers, by the book as it opened and the history h since: a conversion b and the next number; a
-- parking the number of a slip that is this book's, and 0 for any other; a take-up a number that is parked; a sweep q of
-- its cell. Only a slip that is this book's is carried.
abbrev pub Due : State → List Event → (c : Call) → Reply c → Type 0
Due o h (post ps) r = Unit {0}
Due o h (convert x) r = Books x r.0 × (r.1 ≡ suc (slips h))
Due o h (split tie law d shares m n) r = Unit {0}
Due o h (carry m n a) r = Ours o h m n
Due o h (park m n) r = ((r ≡ n) × Ours o h m n) ⊎ ((r ≡ 0) × (Ours o h m n → ⊥))
Due o h (take_up n) r = (r ≡ n) × (status h n ≡ held Parked)
Due o h (sweep a k) q =
    (f : FractionColumn) × (fraction_number f ≡ k) × Sweepable (o.ledger.cell a k +ℤ risen h a k) (whole_parts f) q.0
Due o h (ask q) r = DueAnswer o h q r

-- P of each accepted call, its answer and the history before it
abbrev pub EachAccepted : (List Event → (c : Call) → Reply c → Type 0) → List Event → Type 0
EachAccepted P [] = Unit {0}
EachAccepted P (event c (Ok r) ∷ h) = P h c r × EachAccepted P h
EachAccepted P (event c (Err f) ∷ h) = EachAccepted P h

-- a split gives its whole amount, every share its exact part rounded down or up, by the largest remainders
abbrev pub SplitFairly : List Event → (c : Call) → Reply c → Type 0
SplitFairly h (post ps) r = Unit {0}
SplitFairly h (convert x) r = Unit {0}
SplitFairly h (split tie law d shares m n) r = Fair tie d.amount.0 shares r.0 r.1
SplitFairly h (carry m n a) r = Unit {0}
SplitFairly h (park m n) r = Unit {0}
SplitFairly h (take_up n) r = Unit {0}
SplitFairly h (sweep a k) q = Unit {0}
SplitFairly h (ask q) r = Unit {0}

-- ---- the law

-- At two points of a run: the book opened as o; it was s at the first point, after the history h, and is s' at the
-- second, with g asked and answered since.
pub record Conserved (o s s' : State) (h g : List Event) : Type 0 where
  -- what each accepted call answered is what the rules give
  pub answers : EachAccepted (Due o) (g ++ h)
  -- the slips are numbered 1, 2, 3 and onward
  pub numbered : numbers_given (g ++ h) ≡ range_with_len 1 (slips (g ++ h))
  -- each number given is out, parked, or carried exactly once
  pub carried_once : CarriedOnce (g ++ h)
  -- the docket lists exactly the numbers not carried, with state and residues, by rising number
  pub docket : s'.docket ≡ open_slips (g ++ h)
  -- between the points, exact amounts are what was booked, swept and passed on, and what the fraction columns rose by
  pub fractions_between : Exact s s' g
  -- the docket account holds exactly the residues of the numbers not carried, and no money
  pub docket_account : HoldsResidues s' (g ++ h)
  -- each column's sum over all accounts is as at opening
  pub column_totals : (k : ℕ) → sum_to accounts (λ a. s'.ledger.cell a k) ≡ sum_to accounts (λ a. o.ledger.cell a k)
  -- every cell has risen since opening by exactly the legs of the accepted calls
  pub cell_rises : (a k : ℕ) → s'.ledger.cell a k ≡ o.ledger.cell a k +ℤ risen (g ++ h) a k
  -- the room has fallen since opening by exactly the number of these legs
  pub room_falls : s'.ledger.room + legs_taken (g ++ h) ≡ o.ledger.room
  -- each accepted split is fair
  pub splits : EachAccepted SplitFairly (g ++ h)

-- The law of a book opened as o, if it is fit: whatever calls are made, and whatever calls since.
pub record ConservedFrom (o : State) : Type 0 where
  pub always : o.fit ≡ true → (before since : List Call)
      → Conserved o (after o before) (after (after o before) since) (events o before) (events (after o before) since)

-- for every ledger's meaning, every kind and every mark
abbrev pub Conservation : Type 0
Conservation = (m : Meaning) (letter mark : ℕ) → ConservedFrom (opened m letter mark)

-- The law of one call on a book in the state s, which answered r and left s': whatever book opened fit and whatever calls
-- led to s, and from whatever earlier point, the law holds with this call and its answer added.
pub record StillConserved (s : State) (c : Call) (r : Result (Reply c) Refusal) (s' : State) : Type 0 where
  pub always : (m : Meaning) (letter mark : ℕ) → (opened m letter mark).fit ≡ true → (before since : List Call)
      → after (after (opened m letter mark) before) since ≡ s
      → Conserved (opened m letter mark) (after (opened m letter mark) before) s' (events (opened m letter mark) before)
      (event c r ∷ events (after (opened m letter mark) before) since)

-- The law of calls made one after another on a book in the state s, told from the latest back, which left s': whatever book
-- opened fit and whatever calls led to s, and from whatever earlier point, the law holds with these calls and their answers
-- added.
pub record ConservedThrough (s : State) (cs : List Call) (s' : State) : Type 0 where
  pub always : (m : Meaning) (letter mark : ℕ) → (opened m letter mark).fit ≡ true → (before since : List Call)
      → after (after (opened m letter mark) before) since ≡ s
      → Conserved (opened m letter mark) (after (opened m letter mark) before) s' (events (opened m letter mark) before)
      (events s cs ++ events (after (opened m letter mark) before) since)
