-- Legs that come in pairs, out of one account and into another. Assumes nothing.
use Rattle.std.proofs.Common.{◌≡◌, ℕ, ◌≤◌, true, leb, List, [], ◌∷◌, ◌++◌, length, ℤ, pos, ◌+ℤ◌, neg_ℤ, nat_abs, refl, arith}
use Rattle.std.specs.List.{AllByRecursion}
use Rattle.std.proofs.ByRecursion.{All-append}
use Rattle.std.proofs.lemmas.Int.{ints}
use Rattle.std.proofs.lemmas.Bool.{and_parts, leb-true}
use Rattle.money.specs.declared.currency.Currency.{Currency}
use Rattle.money.specs.declared.currency.Currency.TheVariants.{Euro, National as Of}
use Rattle.money.specs.declared.quantity.Parts.{Parts}
use Rattle.money.specs.Conversions.{most_amount}
use Rattle.apportion.specs.Accounts.{first_named, last_named, named}
use Rattle.ledger.specs.declared.leg.Leg.{Leg}
use Rattle.ledger.specs.Columns.{fraction_number}
use Rattle.ledger.specs.Entries.{most_account, most_column, most_legs, InRange, EntryLegs}
use Rattle.ledger.specs.Legs.{leg, in_column, column_sum}
use Rattle.ledger.proofs.Columns.{fraction_bounds}
use Rattle.ledger.proofs.Rises.{by_equal, in_column_here, in_column_off, column_append}
use Rattle.model.specs.declared.record.Record.{Record}
use Rattle.model.specs.Docket.{Residue, euro_fraction, national_fraction, residues_of}
use Rattle.model.specs.Postings.{transfer, transfers}
use Rattle.postings.specs.Laws.{SmallResidues}

pub named_within : (account : ℕ) → named account ≡ true → account ≤ most_account
named_within account h = leb-true account most_account (and_parts (leb first_named account) (leb account last_named) h).1

-- legs in range that sum to zero in every column
pub record Paired (ls : List Leg) : Type 0 where
  pub each : AllByRecursion InRange ls
  pub balanced : (k : ℕ) → column_sum ls k ≡ pos 0

pub paired_entry : (ls : List Leg) → Paired ls → length ls ≤ most_legs → EntryLegs ls
paired_entry ls p few = record { few = few; each = p.each; balanced = p.balanced }

none_paired : Paired []
unfolding column_sum
none_paired = record { each = tt; balanced = λ k. refl }

pub paired_append : (xs ys : List Leg) → Paired xs → Paired ys → Paired (xs ++ ys)
paired_append xs ys p q = record {
  each = All-append InRange xs ys p.each q.each;
  balanced = λ k. let a = p.balanced k in let b = q.balanced k in omega (arith, ints, column_append xs ys k);
}

-- two legs in one column whose amounts cancel
pub two_paired : (a b k : ℕ) (x y : ℤ) → a ≤ most_account → b ≤ most_account → k ≤ most_column → nat_abs x ≤ most_amount → nat_abs y ≤ most_amount → x +ℤ y ≡ pos 0
    → Paired (leg a k x ∷ leg b k y ∷ [])
unfolding column_sum
two_paired a b k x y ha hb hk hx hy e = record {
  each = (record { account = ha; column = hk; amount = hx }, (record { account = hb; column = hk; amount = hy }, tt));
  balanced = λ j. by_equal k j
      (λ s.
      let u : in_column (leg a k x) j ≡ x = in_column_here (leg a k x) j s in
      let v : in_column (leg b k y) j ≡ y = in_column_here (leg b k y) j s in
      omega (arith, ints))
      (λ d.
      let u : in_column (leg a k x) j ≡ pos 0 = in_column_off (leg a k x) j d in
      let v : in_column (leg b k y) j ≡ pos 0 = in_column_off (leg b k y) j d in
      omega (arith, ints));
}

pub transfer_paired : (p q k : ℕ) (x : ℤ) → p ≤ most_account → q ≤ most_account → k ≤ most_column → nat_abs x ≤ most_amount → Paired (transfer p q k x)
transfer_paired p q k x hp hq hk hx = two_paired p q k (neg_ℤ x) x hp hq hk (omega (arith, ints)) hx (omega (arith, ints))

transfers_paired : (p q : ℕ) (zs : List Residue) → p ≤ most_account → q ≤ most_account → AllByRecursion (λ z. nat_abs z.parts.0 ≤ most_amount) zs → Paired (transfers p q zs)
transfers_paired p q [] hp hq h = none_paired
transfers_paired p q (z ∷ zs) hp hq h =
    paired_append (transfer p q (fraction_number z.column) z.parts.0) (transfers p q zs)
    (transfer_paired p q (fraction_number z.column) z.parts.0 hp hq (fraction_bounds z.column).1 h.0)
    (transfers_paired p q zs hp hq h.1)

euro_small : (c : Currency) (z : Parts) → nat_abs z.0 ≤ most_amount → AllByRecursion (λ r. nat_abs r.parts.0 ≤ most_amount) (euro_fraction c z)
euro_small Euro z h = tt
euro_small (Of i) z h = (h, tt)

national_small : (c : Currency) (z : Parts) → nat_abs z.0 ≤ most_amount → AllByRecursion (λ r. nat_abs r.parts.0 ≤ most_amount) (national_fraction c z)
national_small Euro z h = tt
national_small (Of i) z h = (h, tt)

-- the residues of a record
pub residues_paired : (p q : ℕ) (r : Record) → p ≤ most_account → q ≤ most_account → SmallResidues r → Paired (transfers p q (residues_of r))
residues_paired p q r hp hq s =
    transfers_paired p q (residues_of r) hp hq
    (All-append (λ z. nat_abs z.parts.0 ≤ most_amount) (euro_fraction r.from r.euro) (national_fraction r.to r.national) (euro_small r.from r.euro s.euro) (national_small r.to r.national s.national))

few_residues : (p q : ℕ) (from to : Currency) (y z : Parts) → length (transfers p q (euro_fraction from y ++ national_fraction to z)) ≤ 4
few_residues p q Euro Euro y z = omega arith
few_residues p q Euro (Of j) y z = omega arith
few_residues p q (Of i) Euro y z = omega arith
few_residues p q (Of i) (Of j) y z = omega arith

pub residues_few : (p q : ℕ) (r : Record) → length (transfers p q (residues_of r)) ≤ 4
residues_few p q r = few_residues p q r.from r.to r.euro r.national
