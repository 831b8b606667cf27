-- The legs of every accepted call make an entry. Assumes nothing.
use Rattle.std.proofs.Common.{◌≡◌, ℕ, ◌*◌, ◌<◌, ◌≤◌, Bool, true, false, cond, ◌&&◌, leb, List, ◌++◌, length, ℤ, pos, negsuc, ◌*ℤ◌, neg_ℤ, nat_abs, Some, Ok, Err, Result, sym, refl, ap, ◌∙◌, subst, mul-le-mul, arith}
use lib.Signed.{le_z}
use Rattle.std.proofs.lemmas.Int.{ints, unsigned_abs-mul}
use Rattle.std.proofs.lemmas.Bool.{leb-true, false≢true}
use Rattle.std.proofs.lemmas.Bool.Decides.{nat_tests}
use Rattle.register.specs.Register.{Refusal, by_book}
use Rattle.money.specs.declared.conversion.Conversion.{Conversion}
use Rattle.money.specs.declared.conversion.Route.{Route}
use Rattle.money.specs.declared.conversion.Route.TheVariants.{IntoEuro, FromEuro, Between}
use Rattle.money.specs.declared.currency.Currency.{Currency}
use Rattle.money.specs.Conversions.{most_amount, exact_from, exact_into, mills_from, mills_of_cents, exchanged, booked, convertible, bounded, converted}
use Rattle.money.specs.Rounding.{residue_of}
use Rattle.money.specs.Table.{number_of, rate, parts}
use Rattle.money.proofs.Bounds.{rate_bounds, parts_bounds}
use Rattle.money.proofs.Lossless.{accounted}
use Rattle.ledger.specs.declared.column.Column.TheVariants.{Money}
use Rattle.ledger.specs.declared.column.FractionColumn.{FractionColumn}
use Rattle.ledger.specs.declared.leg.Leg.{Leg}
use Rattle.ledger.specs.Columns.{currency_of, fraction_number, whole_parts}
use Rattle.ledger.specs.Entries.{EntryLegs, is_entry, most_account, most_column, most_legs}
use Rattle.ledger.proofs.Columns.{columns_numbered, fraction_bounds}
use Rattle.ledger.proofs.Entries.{legs_entry}
use Rattle.apportion.specs.declared.share.Share.{Share}
use Rattle.apportion.specs.Accounts.{named}
use Rattle.apportion.specs.Refusals.{verdict}
use Rattle.apportion.specs.Splits.{portions}
use Rattle.apportion.specs.Ties.{Tie, Lawful}
use Rattle.model.specs.declared.record.Record.{Record}
use Rattle.model.specs.declared.request.Division.{Division}
use Rattle.model.specs.declared.request.Exchange.{Exchange}
use Rattle.model.specs.declared.request.Posting.{Posting}
use Rattle.model.specs.Docket.{record_of, residues_of}
use Rattle.model.specs.Postings.{transfer, transfers, conversion_legs, carry_legs, split_legs, sweep_legs, most_swept}
use Rattle.model.specs.Results.{and_then, unless}
use Rattle.model.specs.State.{State, exchange_account, docket_account}
use Rattle.model.specs.Step.{Movement, unchanged, fitness, posted_legs, least_legs, unbalanced, balance, posting}
use Rattle.model.proofs.Accepted.{ok_same}
use Rattle.postings.specs.Laws.{SmallResidues, CallsMakeEntries}
use Rattle.postings.specs.Posts.{lowest_unbalanced, posted}
use Rattle.postings.proofs.Pairing.{paired_entry, paired_append, two_paired, transfer_paired, residues_paired, residues_few}
use Rattle.postings.proofs.Posting.{posted_entry}
use Rattle.postings.proofs.Splitting.{split_entry}
use Rattle.postings.proofs.Sweeping.{parts_small}
pub use Rattle.postings.proofs.Pairing.{named_within}

money_column : (c : Currency) → number_of c ≤ most_column
money_column c = columns_numbered.within (Money c)

-- ---- conversions

accepted : (b : Bool) (f : Refusal) (r : Result Conversion Refusal) (c : Conversion) → cond b r (Err f) ≡ Ok c → (b ≡ true) × (r ≡ Ok c)
accepted false f r c h = absurd (let z : ◌≡◌ {A = ℕ} 0 1 = cc in omega arith)
accepted true f r c h = (refl, h)

amount_small : (amount : ℤ) → convertible amount ≡ true → nat_abs amount ≤ most_amount
amount_small (pos n) h = grind (arith, nat_tests)
amount_small (negsuc n) h = absurd (false≢true h)

booked_small : (route : Route) (n : ℕ) → le_z (booked (exchanged route n)).0 (pos most_amount) ≡ true → nat_abs (booked (exchanged route n)).0 ≤ most_amount
booked_small (IntoEuro i) n h = leb-true _ _ h
booked_small (FromEuro j) n h = leb-true _ _ h
booked_small (Between i j) n h = leb-true _ _ h

-- What is known of a conversion that is carried out.
record Carried (route : Route) (amount : ℤ) (c : Conversion) : Type 0 where
  is : c ≡ exchanged route (nat_abs amount)
  amount_most : nat_abs amount ≤ most_amount
  booked_most : nat_abs (booked c).0 ≤ most_amount

carried : (route : Route) (amount : ℤ) (c : Conversion) → converted route amount ≡ Ok c → Carried route amount c
carried route amount c h =
    let a = accepted (convertible amount) (by_book 5 0) (bounded (exchanged route (nat_abs amount))) c h in
    let b = accepted (le_z (booked (exchanged route (nat_abs amount))).0 (pos most_amount)) (by_book 9 0) (Ok (exchanged route (nat_abs amount))) c a.1 in
    let e = ok_same (exchanged route (nat_abs amount)) c b.1 in
    record {
      is = sym e;
      amount_most = amount_small amount a.0;
      booked_most = subst (λ v. nat_abs (booked v).0 ≤ most_amount) e (booked_small route (nat_abs amount) b.0);
    }

residue_small : (x d : ℕ) → 0 < d → d ≤ 10_000_000 → nat_abs (residue_of x d) ≤ most_amount
residue_small x d h k = let a = accounted x d h in omega (arith, ints, a.low, a.high)

exchanged_small : (route : Route) (n number : ℕ) (from to : Currency) → SmallResidues (record_of number from to (exchanged route n))
exchanged_small (IntoEuro i) n number from to = record {
  euro = residue_small (exact_from i n) (10 * rate i) (omega (arith, rate_bounds i)) (omega (arith, rate_bounds i));
  national = omega arith;
}
exchanged_small (FromEuro j) n number from to = record {
  euro = omega arith;
  national = residue_small (exact_into j (mills_of_cents n)) (parts j) (omega (arith, parts_bounds j)) (omega (arith, parts_bounds j));
}
exchanged_small (Between i j) n number from to = record {
  euro = residue_small (exact_from i n) (rate i) (omega (arith, rate_bounds i)) (omega (arith, rate_bounds i));
  national = residue_small (exact_into j (mills_from i n)) (parts j) (omega (arith, parts_bounds j)) (omega (arith, parts_bounds j));
}

pub record_small : (route : Route) (amount : ℤ) (c : Conversion) (number : ℕ) (from to : Currency) → converted route amount ≡ Ok c → SmallResidues (record_of number from to c)
record_small route amount c number from to h =
    subst (λ v. SmallResidues (record_of number from to v)) (sym (carried route amount c h).is) (exchanged_small route (nat_abs amount) number from to)

pub conversion_entry : (x : Exchange) (from to : Currency) (route : Route) (c : Conversion) (number : ℕ)
    → named x.from ≡ true → named x.to ≡ true → converted route x.amount.0 ≡ Ok c
    → EntryLegs (conversion_legs x from to (booked c) (record_of number from to c))
conversion_entry x from to route c number hf ht h =
    let r = record_of number from to c in
    let known = carried route x.amount.0 c h in
    let zs = transfers exchange_account docket_account (residues_of r) in
    let in_legs = transfer x.from exchange_account (number_of from) x.amount.0 in
    let out_legs = transfer exchange_account x.to (number_of to) (booked c).0 in
    paired_entry (in_legs ++ (out_legs ++ zs))
    (paired_append in_legs (out_legs ++ zs)
    (transfer_paired x.from exchange_account (number_of from) x.amount.0 (named_within x.from hf) (omega arith) (money_column from) known.amount_most)
    (paired_append out_legs zs
    (transfer_paired exchange_account x.to (number_of to) (booked c).0 (omega arith) (named_within x.to ht) (money_column to) known.booked_most)
    (residues_paired exchange_account docket_account r (omega arith) (omega arith) (record_small route x.amount.0 c number from to h))))
    (omega (arith, residues_few exchange_account docket_account r))

-- ---- carries

pub carry_entry : (r : Record) (account : ℕ) → SmallResidues r → account ≤ most_account → EntryLegs (carry_legs r account)
carry_entry r account s h =
    paired_entry (carry_legs r account) (residues_paired docket_account account r (omega arith) h s) (omega (arith, residues_few docket_account account r))

-- ---- sweeps

pub sweep_entry : (account : ℕ) (f : FractionColumn) (q : ℤ) → account ≤ most_account → nat_abs q ≤ most_swept → EntryLegs (sweep_legs account f q)
sweep_entry account f q h m =
    let k = number_of (currency_of f) in
    let z = q *ℤ pos (whole_parts f) in
    let small : nat_abs z ≤ most_amount = omega (arith, unsigned_abs-mul q (pos (whole_parts f)), mul-le-mul m (parts_small f).1) in
    paired_entry (sweep_legs account f q)
    (paired_append _ _
    (two_paired account exchange_account k q (neg_ℤ q) h (omega arith) (money_column (currency_of f)) (omega arith) (omega (arith, ints)) (omega (arith, ints)))
    (two_paired account exchange_account (fraction_number f) (neg_ℤ z) z h (omega arith) (fraction_bounds f).1 (omega (arith, ints)) small (omega (arith, ints))))
    (omega arith)

-- ---- posts

then_then : {A B C : Type 0} (r : Result A Refusal) (f : A → Result B Refusal) (g : B → Result C Refusal) → and_then (and_then r f) g ≡ and_then r (λ x. and_then (f x) g)
then_then (Ok x) f g = refl
then_then (Err e) f g = refl

-- a post moves the legs that are posted, once the book is fit
pub posting_is : (s : State) (ps : List Posting) → posting s ps ≡ and_then (fitness s) (λ _. and_then (posted ps) (λ ls. Ok (record { answer = tt; legs = Some ls; change = unchanged })))
unfolding posted lowest_unbalanced
posting_is s ps =
    let move : List Leg → Result (Movement (Unit {0})) Refusal = λ ls. Ok (record { answer = tt; legs = Some ls; change = unchanged }) in
    let counted = unless (leb least_legs (length ps) && leb (length ps) most_legs) 6 0 in
    let settle : List Leg → Result (List Leg) Refusal = λ ls. and_then (balance (unbalanced ls)) (λ _. Ok ls) in
    let path : and_then (posted ps) move ≡ and_then counted (λ _. and_then (posted_legs 1 ps) (λ ls. and_then (balance (unbalanced ls)) (λ _. move ls))) =
    then_then counted (λ _. and_then (posted_legs 1 ps) settle) move
    ∙ ap (λ (r : Result (Movement (Unit {0})) Refusal). and_then counted (λ _. r))
    (then_then (posted_legs 1 ps) settle move ∙ (λ i. and_then (posted_legs 1 ps) (λ ls. then_then (balance (unbalanced ls)) (λ _. Ok ls) move i))) in
    λ i. and_then (fitness s) (λ _. sym path i)

-- ---- all of them

pub calls_make_entries : CallsMakeEntries
calls_make_entries = record {
  conversion = conversion_entry;
  records = record_small;
  carry = carry_entry;
  sweep = sweep_entry;
  split = split_entry;
  post = posted_entry;
}

-- ---- the same for the test, as the contracts have it

pub split_is_entry : (tie : Tie) → Lawful tie → (d : Division) (c : Currency) (shares : List Share) (m n : ℕ)
    → named d.account ≡ true → verdict d.amount.0 shares m n ≡ Ok tt
    → is_entry (split_legs d c shares (portions tie (nat_abs d.amount.0) shares)) ≡ true
split_is_entry tie law d c shares m n account h = legs_entry _ (split_entry tie law d c shares m n account h)
