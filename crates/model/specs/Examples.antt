-- A run, refusals, conversions, splits and sweeps, reckoned by hand. Assumes nothing.
use Rattle.std.specs.Prelude.{◌≡◌, ℕ, true, false, cond, ◌&&◌, List, [], ◌∷◌, map, replicate, ℤ, pos, neg_ℤ, Ok, Err, ◌==◌}
use Rattle.register.specs.Register.{Refusal, by_book, by_ledger}
use Rattle.money.specs.declared.currency.Currency.TheVariants.{Euro, National as Of}
use Rattle.money.specs.declared.currency.National.TheVariants.{Itl}
use Rattle.money.specs.declared.quantity.Minor.{Minor}
use Rattle.money.specs.Conversions.{minors}
use Rattle.money.specs.Examples.{ReckonedConversions}
use Rattle.ledger.specs.declared.column.FractionColumn.TheVariants.{Euro as EuroOf}
use Rattle.ledger.specs.Limits.{where_listed, floor_of, ceiling_of}
use Rattle.ledger.specs.Meaning.{Meaning}
use Rattle.apportion.specs.declared.share.Share.{Share}
use Rattle.apportion.specs.Examples.{ReckonedSplits}
use Rattle.apportion.specs.Splits.{fraction_of}
use Rattle.apportion.specs.Ties.{Lawful, by_place}
use Rattle.model.specs.declared.request.Posting.{Posting}
use Rattle.model.specs.declared.record.Standing.TheVariants.{Out}
use Rattle.model.specs.Calls.{cell, room, kind, fit, mark, given, records, audit, Call, post, convert, split, carry, park, take_up, sweep, ask}
use Rattle.model.specs.Docket.{no_parts}
use Rattle.model.specs.History.{Event, event, events}
use Rattle.model.specs.Postings.{sweepable}
use Rattle.model.specs.State.{State, opened}
use Rattle.model.specs.Step.{step}

-- the conversions and the splits
pub record ReckonedExamples : Type 0 where
  pub conversions : ReckonedConversions
  pub splits : ReckonedSplits

-- ---- a run

-- a ledger in which nothing stands
abbrev pub empty_ledger : Meaning
empty_ledger = record { room = 4000000; cell = λ a k. pos 0; floor = floor_of; ceiling = ceiling_of }

-- a book on it, with the mark 7; the letter is an S
abbrev pub new_book : State
new_book = opened empty_ledger 83 7

-- 9 lire into the euro: nothing is booked, and 900000 parts of 1936270 to a cent are left
abbrev pub nine_lire : Call
nine_lire = convert (record { from = 10; to = 20; source = 6; target = 0; amount = minors 9 })

abbrev heir : ℕ → Share
heir account = record { account = account; weight = 1 }

-- a euro from account 40 to three shares of equal weight
abbrev pub thirds : Lawful by_place → Call
thirds law = split by_place law (record { account = 40; currency = 0; amount = minors 100 }) (heir 50 ∷ heir 51 ∷ heir 52 ∷ []) 3 3

abbrev posting_of : ℕ → ℤ → Posting
posting_of account cents = record { account = account; currency = 0; amount = record { 0 = cents } }

-- five cents from account 50 to account 51
abbrev pub five_cents : Call
five_cents = post (posting_of 50 (neg_ℤ (pos 5)) ∷ posting_of 51 (pos 5) ∷ [])

-- what was asked and answered, from the latest call back: two slips of nine lire do not make a cent, and three do
abbrev pub told : Lawful by_place → List Event
told law =
    event (ask audit) (Ok (record { kind = 83; room = 3999966; records = 0 }))
    ∷ event (ask records) (Ok [])
    ∷ event (ask given) (Ok 3)
    ∷ event (ask mark) (Ok 7)
    ∷ event (ask fit) (Ok true)
    ∷ event (ask kind) (Ok 83)
    ∷ event (ask room) (Ok 3999966)
    ∷ event (ask (cell 40 17)) (Ok (pos 763730))
    ∷ event five_cents (Ok tt)
    ∷ event (thirds law) (Ok (map minors (34 ∷ 33 ∷ 33 ∷ []), map fraction_of (neg_ℤ (pos 2) ∷ pos 1 ∷ pos 1 ∷ [])))
    ∷ event (sweep 40 17) (Ok (minors 1))
    ∷ event (carry 7 3 40) (Ok tt)
    ∷ event (sweep 40 17) (Err (by_book 15 0))
    ∷ event (take_up 3) (Ok 3)
    ∷ event (park 7 3) (Ok 3)
    ∷ event nine_lire (Ok (minors 0, 3))
    ∷ event (carry 7 2 40) (Ok tt)
    ∷ event (carry 7 1 40) (Err (by_book 12 0))
    ∷ event (carry 7 1 40) (Ok tt)
    ∷ event nine_lire (Ok (minors 0, 2))
    ∷ event nine_lire (Ok (minors 0, 1))
    ∷ []

abbrev call_of : Event → Call
call_of (event c r) = c

-- the calls alone
abbrev pub calls : Lawful by_place → List Call
calls law = map call_of (told law)

-- the run answers what was reckoned by hand
pub record WorkedRun : Type 0 where
  pub fits : new_book.fit ≡ true
  pub answers : (law : Lawful by_place) → events new_book (calls law) ≡ told law

-- ---- sweeps

-- q of cells of the euro fraction of the lira, of which 1936270 parts are a cent
pub record ReckonedSweeps : Type 0 where
  pub none : sweepable (EuroOf Itl) (pos 1936269) ≡ pos 0
  pub one : sweepable (EuroOf Itl) (pos 2700000) ≡ pos 1
  -- a debt is cut toward zero too: rounded down it would be 2
  pub debt : sweepable (EuroOf Itl) (neg_ℤ (pos 2700000)) ≡ neg_ℤ (pos 1)
  pub most : sweepable (EuroOf Itl) (pos 4000000000) ≡ pos 1000
  pub most_debt : sweepable (EuroOf Itl) (neg_ℤ (pos 4000000000)) ≡ neg_ℤ (pos 1000)

-- ---- refusals: where several rules apply, the first in the register's order stands

-- what a call is refused with in a state, and that nothing moves
abbrev Refused : State → (c : Call) → Refusal → Type 0
Refused s c refusal = step s c ≡ (Err refusal, s)

-- a conversion of an amount between two currencies, from account 10
abbrev exchange_to : ℕ → ℕ → ℕ → Minor → Call
exchange_to to source target amount = convert (record { from = 10; to = to; source = source; target = target; amount = amount })

-- the same book on a ledger with a part in the exchange account
abbrev pub unfit_book : State
unfit_book = opened (record { room = 4000000; cell = where_listed (λ a k. cond (a == 0 && k == 33) (pos 1) (pos 0)); floor = floor_of; ceiling = ceiling_of }) 83 7

-- a share
abbrev share_of : ℕ → ℕ → Share
share_of account weight = record { account = account; weight = weight }

-- a split of cents from an account, with room for three portions
abbrev split_of : Lawful by_place → ℕ → ℕ → ℕ → List Share → Call
split_of law account currency cents shares = split by_place law (record { account = account; currency = currency; amount = minors cents }) shares 3 3

-- a leg of a post
abbrev leg_of : ℕ → ℕ → ℤ → Posting
leg_of account currency amount = record { account = account; currency = currency; amount = record { 0 = amount } }

-- a book that has given n slips, with m records on its docket
abbrev book_with : ℕ → ℕ → State
book_with n m = record {
  ledger = empty_ledger;
  kind = 83;
  fit = true;
  mark = 7;
  given = n;
  docket = replicate m (record { number = n; from = Of Itl; to = Euro; euro = no_parts; national = no_parts; standing = Out });
}

-- a book on an empty ledger of some room, none of whose cells may go above a ceiling
abbrev book_on : ℕ → ℤ → State
book_on space most = opened (record { room = space; cell = λ a k. pos 0; floor = floor_of; ceiling = λ a k. most }) 83 7

pub record ReckonedRefusals : Type 0 where
  -- an unfit book refuses first of all, and only a parking and a question are not refused
  pub unfit : (unfit_book.fit ≡ false) × Refused unfit_book (exchange_to 1 12 12 (minors 0)) (by_book 1 0) × Refused unfit_book (sweep 1 99) (by_book 1 0)
  pub unfit_parks : step unfit_book (park 7 1) ≡ (Ok 0, unfit_book)
  -- conversions: 2, 3, 4, 5, 9
  pub unknown_currency : Refused new_book (exchange_to 20 12 12 (minors 9)) (by_book 2 0)
  pub equal_currencies : Refused new_book (exchange_to 1 6 6 (minors 9)) (by_book 3 0)
  pub unnamed_account : Refused new_book (exchange_to 128 6 0 (minors 0)) (by_book 4 0)
  pub amount_out_of_range : Refused new_book (exchange_to 20 6 0 (minors 0)) (by_book 5 0) × Refused new_book (exchange_to 20 6 0 (minors 100000000000)) (by_book 5 0)
  pub booked_too_much : Refused new_book (exchange_to 20 0 2 (minors 99999999999)) (by_book 9 0)
  -- the 65th record 10, before the millionth slip 11; the 64th and the 999,999th are given
  pub docket_full : Refused (book_with 999999 64) nine_lire (by_book 10 0)
  pub slips_exhausted : Refused (book_with 999999 63) nine_lire (by_book 11 0)
  pub last_slip : (step (book_with 999998 63) nine_lire).0 ≡ Ok (minors 0, 999999)
  -- posts: 6, each leg 4, 2, 5 at its place, then 7 at the lowest currency
  pub one_leg : Refused new_book (post (leg_of 1 99 (pos 0) ∷ [])) (by_book 6 0)
  pub second_account : Refused new_book (post (leg_of 50 0 (pos 5) ∷ leg_of 1 99 (pos 0) ∷ [])) (by_book 4 2)
  pub second_currency : Refused new_book (post (leg_of 50 0 (pos 5) ∷ leg_of 51 12 (pos 0) ∷ [])) (by_book 2 2)
  pub second_amount : Refused new_book (post (leg_of 50 0 (pos 5) ∷ leg_of 51 1 (pos 0) ∷ [])) (by_book 5 2)
  pub first_amount : Refused new_book (post (leg_of 50 0 (pos 100000000000) ∷ leg_of 51 0 (neg_ℤ (pos 100000000000)) ∷ [])) (by_book 5 1)
  pub unbalanced : Refused new_book (post (leg_of 50 9 (pos 5) ∷ leg_of 51 4 (pos 5) ∷ [])) (by_book 7 4)
  -- splits: 2, 4, 5, 8 for the count, each share 4 then 8 at its place, W, 21
  pub split_currency : (law : Lawful by_place) → Refused new_book (split_of law 1 12 0 []) (by_book 2 0)
  pub split_account : (law : Lawful by_place) → Refused new_book (split_of law 1 0 0 []) (by_book 4 0)
  pub split_amount : (law : Lawful by_place) → Refused new_book (split_of law 40 0 0 []) (by_book 5 0)
  pub split_count : (law : Lawful by_place) → Refused new_book (split_of law 40 0 9 []) (by_book 8 0)
  pub share_account : (law : Lawful by_place) → Refused new_book (split_of law 40 0 9 (share_of 50 0 ∷ share_of 1 1000001 ∷ [])) (by_book 4 2)
  pub share_weight : (law : Lawful by_place) → Refused new_book (split_of law 40 0 9 (share_of 50 0 ∷ share_of 51 1000001 ∷ [])) (by_book 8 2)
  pub no_weight : (law : Lawful by_place) → Refused new_book (split_of law 40 0 9 (share_of 50 0 ∷ [])) (by_book 8 0)
  pub lists_too_short : (law : Lawful by_place) → Refused new_book (split_of law 40 0 9 (heir 50 ∷ heir 51 ∷ heir 52 ∷ heir 53 ∷ [])) (by_book 21 0)
  -- slips: 12 before 4; 13; a number that is out 14
  pub foreign_slip : Refused new_book (carry 7 1 1) (by_book 12 0)
  pub not_on_docket : Refused new_book (take_up 1) (by_book 13 0)
  pub slip_is_out : Refused (step new_book nine_lire).1 (take_up 1) (by_book 14 0)
  pub other_mark : Refused (step new_book nine_lire).1 (carry 8 1 40) (by_book 12 0)
  pub carry_account : Refused (step new_book nine_lire).1 (carry 7 1 1) (by_book 4 0)
  -- sweeps: 4, 16, 15
  pub sweep_account : Refused new_book (sweep 1 11) (by_book 4 0)
  pub sweep_column : Refused new_book (sweep 40 11) (by_book 16 0) × Refused new_book (sweep 40 34) (by_book 16 0)
  pub sweep_nothing : Refused new_book (sweep 40 33) (by_book 15 0)
  -- the ledger's: six legs need room for six, and the second puts nine lire into the exchange account
  pub no_room : Refused (book_on 5 (pos 900000)) nine_lire (by_ledger 17 0 0)
  pub enough_room : (step (book_on 6 (pos 900000)) nine_lire).0 ≡ Ok (minors 0, 1)
  pub above_ceiling : Refused (book_on 6 (pos 8)) nine_lire (by_ledger 18 2 0)
