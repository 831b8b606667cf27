-- What each call owes, and what every run keeps by it. Assumes nothing.
use Rattle.std.proofs.Common.{◌≡◌, ℕ, ◌+◌, ◌*◌, ◌<◌, ◌≤◌, true, List, [], ◌∷◌, length, ℤ, pos, ◌+ℤ◌, ◌-ℤ◌, ◌*ℤ◌, Some, None, Ok, Err, Option, sym, refl, ap, ◌∙◌, subst, arith, length-append}
use borrow.Author.Differences.{ints}
use Rattle.std.specs.List.{range_with_len, AllByRecursion}
use Rattle.register.specs.Register.{Refusal}
use Rattle.money.specs.declared.currency.National.{National}
use Rattle.money.specs.Table.{rate, parts}
use Rattle.ledger.specs.declared.column.FractionColumn.TheVariants.{Euro as EuroOf, National as NationalOf}
use Rattle.ledger.specs.declared.leg.Leg.{Leg}
use Rattle.ledger.specs.Columns.{fraction_number}
use Rattle.ledger.specs.Legs.{column_sum, rise, sum_to}
use Rattle.ledger.specs.Limits.{accounts, columns}
use Rattle.ledger.specs.Meaning.{Meaning, entered}
use Rattle.ledger.proofs.Rises.{rise_none}
use Rattle.ledger.proofs.Walk.{verdict_taken}
use Rattle.model.specs.Calls.{Call, Reply}
use Rattle.model.specs.Conservation.{slips, beside_exchange, Exact, Due, EachAccepted, SplitFairly}
use Rattle.model.specs.History.{Event, event, Mention, mention, status, origin, numbers_given, given_by, carries_of, account_of, legs_by, risen, legs_taken, tally, of_conversions, exact_out, cents_booked, mills_passed, exact_in, units_booked, swept_from}
use Rattle.model.specs.State.{State}
use Rattle.model.specs.Step.{Movement, given_after, ledger_verdict, ledger_after, moved}
use Rattle.model.proofs.Changes.{Makes, Track, track_change, held_sum, residue_rise, held_change}
use Rattle.model.proofs.Slips.{Timely, AllowedThen, allowed, numbers_more, once_more}
use Rattle.model.proofs.Sums.{more_euro, more_national, total_stands, others_rise}

-- the legs that are put to the ledger
abbrev pub legs_in : Option (List Leg) → List Leg
legs_in None = []
legs_in (Some ls) = ls

-- ---- what a call owes

-- the exact amounts of an accepted call in the euro fraction of i: u is what its legs add to the exchange account there
abbrev pub EuroExact : National → (c : Call) → Reply c → ℤ → Type 0
EuroExact i c r u =
    of_conversions (exact_out i) c r
    ≡ pos (10 * rate i) *ℤ (of_conversions (cents_booked i) c r +ℤ swept_from (fraction_number (EuroOf i)) c r) +ℤ pos (rate i) *ℤ of_conversions (mills_passed i) c r -ℤ u

-- and in the national fraction of j
abbrev pub NationalExact : National → (c : Call) → Reply c → ℤ → Type 0
NationalExact j c r u =
    of_conversions (exact_in j) c r
    ≡ pos (parts j) *ℤ (of_conversions (units_booked j) c r +ℤ swept_from (fraction_number (NationalOf j)) c r) -ℤ u

-- what the legs ls of the accepted call c owe
pub record Balanced (c : Call) (r : Reply c) (ls : List Leg) : Type 0 where
  pub within : AllByRecursion (λ l. l.account < accounts) ls
  pub columns : (k : ℕ) → column_sum ls k ≡ pos 0
  pub euro : (i : National) → EuroExact i c r (rise ls 0 (fraction_number (EuroOf i)))
  pub national : (j : National) → NationalExact j c r (rise ls 0 (fraction_number (NationalOf j)))

-- what a call owes that makes the movement v in the state s, after the history h of a book opened as o
pub record Sound (o s : State) (h : List Event) (c : Call) (v : Movement (Reply c)) : Type 0 where
  -- the docket's change is what the answer says of a number
  pub makes : Makes s.given (status h) (status (event c (Ok v.answer) ∷ h)) (origin h) (origin (event c (Ok v.answer) ∷ h)) v.change
  pub count : given_after s.given v.change ≡ s.given + length (given_by (mention c v.answer))
  pub timely : Timely (mention c v.answer) (slips h) (status h)
  -- the legs are those that the history tells, and balance
  pub told : legs_in v.legs ≡ legs_by (origin h) c v.answer
  pub balanced : Balanced c v.answer (legs_by (origin h) c v.answer)
  -- the docket account gets the residues of new records and gives those of struck ones
  pub residues : (k : ℕ) → rise (legs_by (origin h) c v.answer) 1 k ≡ residue_rise (origin (event c (Ok v.answer) ∷ h)) s.given v.change k
  -- the answer is due
  pub due : Due o h c v.answer
  pub fair : SplitFairly h c v.answer

-- ---- what is kept

pub record Kept (o s : State) (h : List Event) : Type 0 where
  pub kind : s.kind ≡ o.kind
  pub fit : s.fit ≡ true
  pub mark : s.mark ≡ o.mark
  pub count : s.given ≡ slips h
  pub track : Track s.given s.docket (status h) (origin h)
  pub numbers : numbers_given h ≡ range_with_len 1 (slips h)
  pub once : (n : ℕ) → carries_of h n ≡ account_of (status h n)
  pub allows : EachAccepted AllowedThen h
  pub residues : (k : ℕ) → k < columns → s.ledger.cell 1 k ≡ held_sum (status h) (origin h) s.given k
  pub totals : (k : ℕ) → sum_to accounts (λ a. s.ledger.cell a k) ≡ sum_to accounts (λ a. o.ledger.cell a k)
  pub cells : (a k : ℕ) → s.ledger.cell a k ≡ o.ledger.cell a k +ℤ risen h a k
  pub room : s.ledger.room + legs_taken h ≡ o.ledger.room
  pub answers : EachAccepted (Due o) h
  pub splits : EachAccepted SplitFairly h

cell_after : (m : Meaning) (ls : Option (List Leg)) (a k : ℕ) → (ledger_after m ls).cell a k ≡ m.cell a k +ℤ rise (legs_in ls) a k
unfolding entered
cell_after m None a k = omega (arith, ints, rise_none a k)
cell_after m (Some ls) a k = refl

-- the room after legs that the ledger took
room_after : (m : Meaning) (ls : Option (List Leg)) (x : Unit {0}) → ledger_verdict m ls ≡ Ok x → (ledger_after m ls).room + length (legs_in ls) ≡ m.room
unfolding entered
room_after m None x e = omega arith
room_after m (Some ls) x e = let h : length ls ≤ m.room = (verdict_taken m ls e).0 in omega arith

-- the cells after an accepted call, by the legs that the history tells
cell_told : (o s : State) (h : List Event) (c : Call) (v : Movement (Reply c)) → Sound o s h c v → (a k : ℕ) → (moved s v).ledger.cell a k ≡ s.ledger.cell a k +ℤ rise (legs_by (origin h) c v.answer) a k
cell_told o s h c v f a k = cell_after s.ledger v.legs a k ∙ ap (λ (ls : List Leg). s.ledger.cell a k +ℤ rise ls a k) f.told

count_step : (o s : State) (h : List Event) (c : Call) (v : Movement (Reply c)) → Sound o s h c v → s.given ≡ slips h → given_after s.given v.change ≡ slips (event c (Ok v.answer) ∷ h)
unfolding numbers_given
count_step o s h c v f e = f.count ∙ ap (λ (n : ℕ). n + length (given_by (mention c v.answer))) e ∙ sym (length-append (numbers_given h) (given_by (mention c v.answer)))

pub kept_step : (o s : State) (h : List Event) (c : Call) (v : Movement (Reply c)) (x : Unit {0}) → ledger_verdict s.ledger v.legs ≡ Ok x → Sound o s h c v → Kept o s h → Kept o (moved s v) (event c (Ok v.answer) ∷ h)
unfolding status numbers_given carries_of risen legs_taken
kept_step o s h c v taken t f k =
    let m : Mention = mention c v.answer in
    let ls : List Leg = legs_by (origin h) c v.answer in
    let may = allowed m s.given (status h) (subst (λ (n : ℕ). Timely m n (status h)) (sym k.count) f.timely) k.track.known in
    record {
      kind = k.kind;
      fit = k.fit;
      mark = k.mark;
      count = count_step o s h c v f k.count;
      track = track_change v.change s.given s.docket (status h) (status (event c (Ok v.answer) ∷ h)) (origin h) (origin (event c (Ok v.answer) ∷ h)) f.makes k.track;
      numbers = numbers_more m (numbers_given h) (status h) f.timely k.numbers;
      once = λ n. once_more m (status h) n (carries_of h n) may (k.once n);
      allows = (may, k.allows);
      residues = λ j l.
          let a = cell_told o s h c v f 1 j in
          let b = f.residues j in
          let d = held_change v.change s.given (status h) (status (event c (Ok v.answer) ∷ h)) (origin h) (origin (event c (Ok v.answer) ∷ h)) j f.makes in
          let e = k.residues j l in
          omega (arith, ints);
      totals = λ j. total_stands (λ a. s.ledger.cell a j) (λ a. (moved s v).ledger.cell a j) ls j (λ a. cell_told o s h c v f a j) f.balanced.within (f.balanced.columns j) ∙ k.totals j;
      cells = λ a j.
          let x = cell_told o s h c v f a j in
          let y = k.cells a j in
          omega (arith, ints);
      room =
          let a = room_after s.ledger v.legs taken t in
          let b : length (legs_in v.legs) ≡ length ls = ap length f.told in
          let d = k.room in
          omega arith;
      answers = (f.due, k.answers);
      splits = (f.fair, k.splits);
    }

pub kept_refused : (o s : State) (h : List Event) (c : Call) (r : Refusal) → Kept o s h → Kept o s (event c (Err r) ∷ h)
unfolding status origin numbers_given carries_of risen legs_taken
kept_refused o s h c r k = record {
  kind = k.kind;
  fit = k.fit;
  mark = k.mark;
  count = k.count;
  track = record { docket = k.track.docket; known = record { later = k.track.known.later; zeroth = k.track.known.zeroth; born = k.track.known.born } };
  numbers = k.numbers;
  once = k.once;
  allows = k.allows;
  residues = k.residues;
  totals = k.totals;
  cells = k.cells;
  room = k.room;
  answers = k.answers;
  splits = k.splits;
}

-- ---- the sums between two points

pub exact_start : (s : State) → Exact s s []
unfolding beside_exchange tally
exact_start s = record { euro = λ i. omega (arith, ints); national = λ i. omega (arith, ints) }

pub exact_refused : (s u : State) (g : List Event) (c : Call) (r : Refusal) → Exact s u g → Exact s u (event c (Err r) ∷ g)
unfolding tally
exact_refused s u g c r x = record { euro = x.euro; national = x.national }

pub exact_step : (o s u : State) (h g : List Event) (c : Call) (v : Movement (Reply c)) → Sound o u h c v → Exact s u g → Exact s (moved u v) (event c (Ok v.answer) ∷ g)
unfolding beside_exchange tally
exact_step o s u h g c v f x =
    let r : Reply c = v.answer in
    let ls : List Leg = legs_by (origin h) c r in
    let beside : (k : ℕ) → beside_exchange (moved u v) k ≡ beside_exchange u k -ℤ rise ls 0 k =
    λ k. others_rise (λ a. u.ledger.cell a k) (λ a. (moved u v).ledger.cell a k) ls k (λ a. cell_told o u h c v f a k) f.balanced.within (f.balanced.columns k) in
    record {
      euro = λ i.
          let k : ℕ = fraction_number (EuroOf i) in
          more_euro (10 * rate i) (rate i)
          (of_conversions (exact_out i) c r) (of_conversions (cents_booked i) c r) (swept_from k c r) (of_conversions (mills_passed i) c r) (rise ls 0 k)
          (tally (of_conversions (exact_out i)) g) (tally (of_conversions (cents_booked i)) g) (tally (swept_from k) g) (tally (of_conversions (mills_passed i)) g)
          (beside_exchange s k) (beside_exchange u k) (beside_exchange (moved u v) k) (f.balanced.euro i) (x.euro i) (beside k);
      national = λ j.
          let k : ℕ = fraction_number (NationalOf j) in
          more_national (parts j)
          (of_conversions (exact_in j) c r) (of_conversions (units_booked j) c r) (swept_from k c r) (rise ls 0 k)
          (tally (of_conversions (exact_in j)) g) (tally (of_conversions (units_booked j)) g) (tally (swept_from k) g)
          (beside_exchange s k) (beside_exchange u k) (beside_exchange (moved u v) k) (f.balanced.national j) (x.national j) (beside k);
    }
