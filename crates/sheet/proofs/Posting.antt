-- What holds as the next leg is added, and once all are. Assumes nothing.
use Rattle.std.proofs.Common.{◌≡◌, ℕ, ◌+◌, ◌-◌, ◌<◌, ◌≤◌, true, false, cond, leb, List, [], ◌∷◌, length, get_or, take, ℤ, pos, ◌+ℤ◌, neg_ℤ, ◌≤ℤ◌, Ok, sym, refl, ap, ◌∙◌, subst, ⊎_elim, arith}
use borrow.Author.Differences.{ints}
use Rattle.std.specs.List.{AllByRecursion}
use Rattle.std.proofs.ByRecursion.{All-get_or, All-take}
use Rattle.std.proofs.lemmas.List.Sums.{fold_more}
use Rattle.std.proofs.lemmas.Bool.{cond-true, cond-false, cases_Bool, leb-true}
use Rattle.std.proofs.lemmas.Bool.Decides.{nat_tests}
use Rattle.ledger.specs.declared.leg.Leg.{Leg}
use Rattle.ledger.specs.Entries.{InRange, EntryLegs}
use Rattle.ledger.specs.Legs.{leg}
use Rattle.ledger.specs.Limits.{listed, most_held}
use Rattle.ledger.specs.Meaning.{entered, fits, verdict, after, settled}
use Rattle.ledger.proofs.Entries.{leg_listed}
use Rattle.ledger.proofs.Meanings.{same_meaning, entered_none, entered_more, after_taken}
use Rattle.ledger.proofs.Rises.{in_own_cell, rise_one}
use Rattle.ledger.proofs.Walk.{left, left_step, verdict_taken}
use Rattle.sheet.specs.Cells.{sheet_cells, long, place_of, sheet_cell, sheet_over, added, posted, cells_after}
use Rattle.sheet.proofs.Cells.{cell_read, cell_posted, posted_length, place_in}

-- only a list that is long enough has room
room_long : (xs : List ℤ) (room n : ℕ) → n < cond (long xs) room 0 → sheet_cells ≤ length xs
room_long xs room n h = grind (arith, nat_tests)

-- the leg at place i of the list
abbrev pub leg_at : List Leg → ℕ → Leg
leg_at ls i = get_or ls i (leg 0 0 (pos 0))

-- what the leg's cell holds once it is added
abbrev pub grown : List ℤ → Leg → ℤ
grown ys l = get_or ys (place_of l.account l.column) (pos 0) +ℤ l.amount

-- what holds as leg i is added to the list ys
pub record Next (xs ys : List ℤ) (room : ℕ) (ls : List Leg) (i : ℕ) : Type 0 where
  pub range : InRange (leg_at ls i)
  pub listed : listed (leg_at ls i).account (leg_at ls i).column ≡ true
  pub place : place_of (leg_at ls i).account (leg_at ls i).column < length ys
  pub low : neg_ℤ (pos most_held) ≤ℤ grown ys (leg_at ls i)
  pub high : grown ys (leg_at ls i) ≤ℤ pos most_held
  pub cells : added ys (leg_at ls i) ≡ posted xs (take (i + 1) ls)
  pub on : left (sheet_over xs room) ls (i + 1) ≡ Ok tt

module _ (xs ys : List ℤ) (room : ℕ) (ls : List Leg) (i : ℕ)
    (taken : verdict (sheet_over xs room) ls ≡ Ok tt) (lawful : EntryLegs ls) (lt : i < length ls)
    (same : ys ≡ posted xs (take i ls)) (on : left (sheet_over xs room) ls i ≡ Ok tt) where
  range : InRange (leg_at ls i)
  range = All-get_or InRange ls i (leg 0 0 (pos 0)) lt lawful.each

  long_xs : sheet_cells ≤ length xs
  long_xs = room_long xs room i (omega (arith, lt, (verdict_taken (sheet_over xs room) ls taken).0))

  long_ys : sheet_cells ≤ length ys
  long_ys = omega (arith, long_xs, ap length same, posted_length xs (take i ls))

  here : listed (leg_at ls i).account (leg_at ls i).column ≡ true
  here = leg_listed (leg_at ls i) range

  -- the sum is the leg's cell once the leg is entered
  next : grown ys (leg_at ls i) ≡ (entered (entered (sheet_over xs room) (take i ls)) (leg_at ls i ∷ [])).cell (leg_at ls i).account (leg_at ls i).column
  unfolding entered
  next =
      (λ j. (sym (cell_read ys (leg_at ls i).account (leg_at ls i).column long_ys here)
      ∙ ap (λ zs. sheet_cell zs (leg_at ls i).account (leg_at ls i).column) same
      ∙ cell_posted xs (take i ls) (All-take InRange i ls lawful.each) long_xs (leg_at ls i).account (leg_at ls i).column) j
      +ℤ (sym (rise_one (leg_at ls i) (leg_at ls i).account (leg_at ls i).column ∙ in_own_cell (leg_at ls i))) j)

  within : fits (entered (entered (sheet_over xs room) (take i ls)) (leg_at ls i ∷ [])) (leg_at ls i) ≡ true
  within = subst (λ m. fits m (leg_at ls i) ≡ true) (sym (entered_more (sheet_over xs room) ls i (leg 0 0 (pos 0)) lt)) (left_step (sheet_over xs room) ls i (leg 0 0 (pos 0)) lt on).0

  pub next_leg : Next xs ys room ls i
  unfolding entered
  next_leg = record {
    range = range;
    listed = here;
    place = place_in ys (leg_at ls i) range long_ys;
    low = let w = within in let e = next in let h = here in grind (arith, ints, nat_tests);
    high = let w = within in let e = next in let h = here in grind (arith, ints, nat_tests);
    cells = ap (λ zs. added zs (leg_at ls i)) same ∙ sym (fold_more added xs ls i (leg 0 0 (pos 0)) lt);
    on = (left_step (sheet_over xs room) ls i (leg 0 0 (pos 0)) lt on).1;
  }

-- a list that is too short has no room, so no leg is taken
short_meaning : (xs : List ℤ) (room : ℕ) (ls : List Leg) → long xs ≡ false → length ls ≤ (sheet_over xs room).room → sheet_over (posted xs ls) (room - length ls) ≡ entered (sheet_over xs room) ls
short_meaning xs room [] f h = ap (sheet_over xs) (omega arith) ∙ sym (entered_none (sheet_over xs room))
short_meaning xs room (l ∷ ls) f h = absurd (omega (arith, h, cond-false (long xs) room 0 f))

long_meaning : (xs : List ℤ) (room : ℕ) (ls : List Leg) → AllByRecursion InRange ls → long xs ≡ true → sheet_over (posted xs ls) (room - length ls) ≡ entered (sheet_over xs room) ls
unfolding entered
long_meaning xs room ls r t =
    let h : sheet_cells ≤ length xs = leb-true sheet_cells (length xs) t in
    let still : long (posted xs ls) ≡ true = ap (leb sheet_cells) (posted_length xs ls) ∙ t in
    same_meaning (sheet_over (posted xs ls) (room - length ls)) (entered (sheet_over xs room) ls)
    (cond-true _ _ _ still ∙ ap (λ n. n - length ls) (sym (cond-true _ _ _ t)))
    (λ a k. cell_posted xs ls r h a k)
    (λ a k. refl)
    (λ a k. refl)

-- the sheet over the list with all legs added means what the legs entered mean
pub posted_meaning : (xs : List ℤ) (room : ℕ) (ls : List Leg) → verdict (sheet_over xs room) ls ≡ Ok tt → EntryLegs ls → sheet_over (posted xs ls) (room - length ls) ≡ entered (sheet_over xs room) ls
posted_meaning xs room ls e h =
    ⊎_elim
    (long_meaning xs room ls h.each)
    (λ f. short_meaning xs room ls f (verdict_taken (sheet_over xs room) ls e).0)
    (cases_Bool (long xs))

-- the sheet and its list once the legs were taken
pub taken_meaning : (xs ys : List ℤ) (room r : ℕ) (ls : List Leg) → verdict (sheet_over xs room) ls ≡ Ok tt → EntryLegs ls → ys ≡ posted xs ls → r ≡ room - length ls → sheet_over ys r ≡ after (sheet_over xs room) ls
taken_meaning xs ys room r ls t h e f = (λ i. sheet_over (e i) (f i)) ∙ posted_meaning xs room ls t h ∙ sym (after_taken (sheet_over xs room) ls t)

pub taken_cells : (xs ys : List ℤ) (room : ℕ) (ls : List Leg) → verdict (sheet_over xs room) ls ≡ Ok tt → ys ≡ posted xs ls → ys ≡ cells_after xs room ls
taken_cells xs ys room ls t e = e ∙ sym (ap (λ r. settled r (posted xs ls) xs) t)
