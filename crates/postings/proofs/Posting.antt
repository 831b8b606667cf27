-- Posts: their legs one after the other, and what an accepted one rests on. Assumes nothing.
use Rattle.std.proofs.Common.{◌≡◌, ℕ, suc, ◌+◌, ◌≤◌, Bool, cond, ◌&&◌, leb, List, [], ◌∷◌, ◌++◌, length, nat_abs, Some, None, Ok, Result, sym, refl, ap, subst, arith}
use Rattle.std.specs.List.{AllByRecursion, find}
use Rattle.std.proofs.lemmas.Bool.{leb-true, and_parts}
use Rattle.register.specs.Register.{Refusal}
use Rattle.money.specs.Conversions.{most_amount}
use Rattle.money.specs.declared.currency.Currency.{Currency}
use Rattle.money.specs.Table.{number_of, first_that}
use Rattle.ledger.specs.declared.column.Column.TheVariants.{Money}
use Rattle.ledger.specs.declared.leg.Leg.{Leg}
use Rattle.ledger.specs.Entries.{most_legs, InRange, EntryLegs}
use Rattle.ledger.specs.Legs.{leg}
use Rattle.ledger.proofs.Columns.{columns_numbered}
use Rattle.ledger.proofs.Rises.{column_off}
use Rattle.model.specs.declared.request.Posting.{Posting}
use Rattle.model.specs.Results.{and_then, unless}
use Rattle.model.specs.Step.{account_at, currency_at, postable, posted_leg, posted_legs, least_legs, balance}
use Rattle.model.proofs.Accepted.{and_then_lem, ok_same, passed, account_named}
use Rattle.model.proofs.Posts.{Posted, posted_legs_lem, balanced_none, currency_sum, column_sum_lem}
use Rattle.postings.specs.Posts.{lowest_unbalanced, posted}

-- the first that passes a test is the same by the table as by a search
pub find_first : (p : Currency → Bool) (cs : List Currency) → find p cs ≡ first_that p cs
find_first p [] = refl
find_first p (c ∷ cs) = ap (cond (p c) (Some c)) (find_first p cs)

-- what the legs before and those left make together
abbrev pub joined : List Leg → Result (List Leg) Refusal → Result (List Leg) Refusal
joined ls r = and_then r (λ rest. Ok (ls ++ rest))

-- ---- what an accepted post rests on

posted_leg_range : (place : ℕ) (p : Posting) (l : Leg) → posted_leg place p ≡ Ok l → InRange l
posted_leg_range place p l e =
    let a = and_then_lem (account_at p.account place) _ l e in
    let b = and_then_lem (currency_at p.currency place) _ l a.2 in
    let d = and_then_lem (unless (postable p.amount.0) 5 place) _ l b.2 in
    let named = account_named p.account place a.0 a.1 in
    let small = and_parts (leb 1 (nat_abs p.amount.0)) (leb (nat_abs p.amount.0) most_amount) (passed (postable p.amount.0) 5 place d.0 d.1) in
    subst InRange (ok_same (leg p.account (number_of b.0) p.amount.0) l d.2)
    (record { account = omega (arith, named.high); column = columns_numbered.within (Money b.0); amount = leb-true _ _ small.1 })

posted_legs_range : (place : ℕ) (ps : List Posting) (ls : List Leg) → posted_legs place ps ≡ Ok ls → AllByRecursion InRange ls × (length ls ≡ length ps)
posted_legs_range place [] ls e = subst (λ xs. AllByRecursion InRange xs × (length xs ≡ 0)) (ok_same [] ls e) (tt, refl)
posted_legs_range place (p ∷ ps) ls e =
    let a = and_then_lem (posted_leg place p) _ ls e in
    let b = and_then_lem (posted_legs (place + 1) ps) _ ls a.2 in
    let more = posted_legs_range (place + 1) ps b.0 b.1 in
    subst (λ xs. AllByRecursion InRange xs × (length xs ≡ suc (length ps))) (ok_same (a.0 ∷ b.0) ls b.2) ((posted_leg_range place p a.0 a.1, more.0), ap suc more.1)

-- the legs of an accepted post make an entry
pub read_entry : (ps : List Posting) (ls : List Leg) → length ps ≤ most_legs → posted_legs 1 ps ≡ Ok ls → lowest_unbalanced ls ≡ None → EntryLegs ls
unfolding lowest_unbalanced
read_entry ps ls k e u =
    let range = posted_legs_range 1 ps ls e in
    let read = posted_legs_lem 1 ps ls e in
    record {
      few = omega (arith, range.1);
      each = range.0;
      balanced = λ j. column_sum_lem ls ls j (currency_sum ls tt (ap balance u)) (subst (AllByRecursion Posted) (sym read.0) read.1) (column_off ls j);
    }

pub posted_entry : (ps : List Posting) (ls : List Leg) → posted ps ≡ Ok ls → EntryLegs ls
unfolding posted
posted_entry ps ls e =
    let a = and_then_lem (unless (leb least_legs (length ps) && leb (length ps) most_legs) 6 0) _ ls e in
    let n = and_parts (leb least_legs (length ps)) (leb (length ps) most_legs) (passed (leb least_legs (length ps) && leb (length ps) most_legs) 6 0 a.0 a.1) in
    let b = and_then_lem (posted_legs 1 ps) _ ls a.2 in
    let d = and_then_lem (balance (lowest_unbalanced b.0)) _ ls b.2 in
    subst EntryLegs (ok_same b.0 ls d.2) (read_entry ps b.0 (leb-true _ _ n.1) b.1 (balanced_none (lowest_unbalanced b.0) d.0 d.1))
