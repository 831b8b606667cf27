-- What an accepted call has passed. Assumes nothing.
use Rattle.std.proofs.Common.{◌≡◌, ℕ, ◌<◌, ◌≤◌, Bool, true, false, cond, leb, Some, None, Ok, Err, Option, Result, refl, ap, arith}
use Rattle.std.proofs.lemmas.Bool.{and_parts, leb-true}
use Rattle.register.specs.Register.{Refusal}
use Rattle.money.specs.declared.currency.Currency.{Currency}
use Rattle.money.specs.Table.{number_of, numbered}
use Rattle.money.proofs.Names.{names}
use Rattle.ledger.specs.Limits.{accounts}
use Rattle.apportion.specs.Accounts.{named}
use Rattle.model.specs.History.{currency_in}
use Rattle.model.specs.Results.{and_then, unless, present}
use Rattle.model.specs.Step.{currency_at, account_at}

-- both of two answers, if the second is no refusal
pub and_then_lem : {A B : Type 0} (r : Result A Refusal) (f : A → Result B Refusal) (y : B) → and_then r f ≡ Ok y → (x : A) × (r ≡ Ok x) × (f x ≡ Ok y)
and_then_lem (Ok x) f y e = (x, refl, e)
and_then_lem (Err q) f y e = let z : ◌≡◌ {A = ℕ} 0 1 = cc in absurd (omega arith)

pub ok_same : {A : Type 0} (x y : A) → ◌≡◌ {A = Result A Refusal} (Ok x) (Ok y) → x ≡ y
ok_same x y e = cc

-- what stands beside a refusal under a test
pub cond_then : {A : Type 0} (b : Bool) (r : Result A Refusal) (q : Refusal) (y : A) → cond b r (Err q) ≡ Ok y → r ≡ Ok y
cond_then true r q y e = e
cond_then false r q y e = let z : ◌≡◌ {A = ℕ} 0 1 = cc in absurd (omega arith)

pub cond_else : {A : Type 0} (b : Bool) (r : Result A Refusal) (q : Refusal) (y : A) → cond b (Err q) r ≡ Ok y → r ≡ Ok y
cond_else true r q y e = let z : ◌≡◌ {A = ℕ} 0 1 = cc in absurd (omega arith)
cond_else false r q y e = e

pub passed : (b : Bool) (n place : ℕ) (x : Unit {0}) → unless b n place ≡ Ok x → b ≡ true
passed true n place x e = refl
passed false n place x e = let z : ◌≡◌ {A = ℕ} 0 1 = cc in absurd (omega arith)

pub found_there : {A : Type 0} (o : Option A) (n place : ℕ) (x : A) → present o n place ≡ Ok x → o ≡ Some x
found_there (Some y) n place x e = ap Some (ok_same y x e)
found_there None n place x e = let z : ◌≡◌ {A = ℕ} 0 1 = cc in absurd (omega arith)

-- a named account is none of the book's own
pub record Named (a : ℕ) : Type 0 where
  pub low : 2 ≤ a
  pub high : a < accounts

pub is_named : (a : ℕ) → named a ≡ true → Named a
is_named a e =
    let p = and_parts (leb 2 a) (leb a 127) e in
    let h : a ≤ 127 = leb-true a 127 p.1 in
    record { low = leb-true 2 a p.0; high = omega arith }

pub account_named : (a place : ℕ) (x : Unit {0}) → account_at a place ≡ Ok x → Named a
account_named a place x e = is_named a (passed (named a) _ _ x e)

-- the number names the currency
pub record Names (n : ℕ) (c : Currency) : Type 0 where
  pub number : number_of c ≡ n
  pub currency : currency_in (numbered n) ≡ c

pub currency_named : (n place : ℕ) (c : Currency) → currency_at n place ≡ Ok c → Names n c
currency_named n place c e =
    let f : numbered n ≡ Some c = found_there (numbered n) _ _ c e in
    record { number = names.number_is n c f; currency = ap currency_in f }
