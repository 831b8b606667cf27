-- What posts owe. Assumes nothing.
use Rattle.std.proofs.Common.{◌≡◌, ℕ, ◌+◌, ◌<◌, ◌≤◌, Bool, true, false, cond, not, ◌&&◌, leb, ◌≢◌, List, [], ◌∷◌, length, ℤ, pos, negsuc, Some, None, Ok, Option, sym, refl, ap, ◌∙◌, subst, ap₂, arith}
use Rattle.std.specs.List.{AllByRecursion}
use Rattle.std.proofs.ByRecursion.{All-weaker}
use Rattle.std.proofs.lemmas.Bool.{not-false, eqb-true}
use Rattle.money.specs.declared.currency.Currency.{Currency}
use Rattle.money.specs.declared.currency.Currency.TheVariants.{Euro, National as Of}
use Rattle.money.specs.declared.currency.National.TheVariants.{Bef, Dem, Esp, Frf, Iep, Itl, Luf, Nlg, Ats, Pte, Fim}
use Rattle.money.specs.Table.{number_of, currencies, first_that}
use Rattle.ledger.specs.declared.leg.Leg.{Leg}
use Rattle.ledger.specs.Entries.{most_legs, is_zero}
use Rattle.ledger.specs.Legs.{leg, column_sum, rise}
use Rattle.ledger.specs.Limits.{accounts}
use Rattle.ledger.proofs.Rises.{by_equal, column_off}
use Rattle.model.specs.declared.request.Posting.{Posting}
use Rattle.model.specs.Calls.{post}
use Rattle.model.specs.History.{Event, status, origin, post_legs}
use Rattle.model.specs.Results.{unless}
use Rattle.model.specs.State.{State}
use Rattle.model.specs.Step.{Movement, unchanged, fitness, account_at, currency_at, postable, posted_leg, posted_legs, least_legs, unbalanced, balance, posting}
use Rattle.model.proofs.Accepted.{and_then_lem, ok_same, Named, account_named, currency_named}
use Rattle.model.proofs.Kept.{Balanced, Sound}
use Rattle.model.proofs.Legs.{rise_elsewhere}
use Rattle.model.proofs.Sums.{nothing_euro, nothing_national}

-- a leg that a post may have
pub record Posted (l : Leg) : Type 0 where
  pub account : Named l.account
  pub currency : Currency
  pub column : l.column ≡ number_of currency

posted_leg_lem : (place : ℕ) (p : Posting) (l : Leg) → posted_leg place p ≡ Ok l → (l ≡ leg p.account p.currency p.amount.0) × Posted (leg p.account p.currency p.amount.0)
posted_leg_lem place p l e =
    let a = and_then_lem (account_at p.account place) _ l e in
    let c = and_then_lem (currency_at p.currency place) _ l a.2 in
    let n = currency_named p.currency place c.0 c.1 in
    let d = and_then_lem (unless (postable p.amount.0) 5 place) _ l c.2 in (
      sym (ok_same _ l d.2) ∙ ap (λ (k : ℕ). leg p.account k p.amount.0) n.number,
      record { account = account_named p.account place a.0 a.1; currency = c.0; column = sym n.number },
    )

pub posted_legs_lem : (place : ℕ) (ps : List Posting) (ls : List Leg) → posted_legs place ps ≡ Ok ls → (ls ≡ post_legs ps) × AllByRecursion Posted (post_legs ps)
posted_legs_lem place [] ls e = (sym (ok_same [] ls e), tt)
posted_legs_lem place (p ∷ ps) ls e =
    let a = and_then_lem (posted_leg place p) _ ls e in
    let b = and_then_lem (posted_legs (place + 1) ps) _ ls a.2 in
    let l = posted_leg_lem place p a.0 a.1 in
    let more = posted_legs_lem (place + 1) ps b.0 b.1 in
    (sym (ok_same _ ls b.2) ∙ ap₂ (λ (x : Leg) (xs : List Leg). x ∷ xs) l.0 more.0, (l.1, more.1))

-- ---- every currency sums to zero, and so does every column

none_first : (p : Currency → Bool) (cs : List Currency) → first_that p cs ≡ None → AllByRecursion (λ c. p c ≡ false) cs
none_first p [] e = tt
none_first p (c ∷ cs) e =
    (elim (p c) as (λ b. p c ≡ b → cond b (Some c) (first_that p cs) ≡ None → (p c ≡ false) × AllByRecursion (λ c. p c ≡ false) cs) [
      | true ↦ λ q f. let z : ◌≡◌ {A = ℕ} 0 1 = cc in absurd (omega arith)
      | false ↦ λ q f. (q, none_first p cs f)
    ]) refl e

each_currency : (P : Currency → Type 0) → AllByRecursion P currencies → (c : Currency) → P c
each_currency P x Euro = x.0
each_currency P x (Of Bef) = x.1.0
each_currency P x (Of Dem) = x.1.1.0
each_currency P x (Of Esp) = x.1.1.1.0
each_currency P x (Of Frf) = x.1.1.1.1.0
each_currency P x (Of Iep) = x.1.1.1.1.1.0
each_currency P x (Of Itl) = x.1.1.1.1.1.1.0
each_currency P x (Of Luf) = x.1.1.1.1.1.1.1.0
each_currency P x (Of Nlg) = x.1.1.1.1.1.1.1.1.0
each_currency P x (Of Ats) = x.1.1.1.1.1.1.1.1.1.0
each_currency P x (Of Pte) = x.1.1.1.1.1.1.1.1.1.1.0
each_currency P x (Of Fim) = x.1.1.1.1.1.1.1.1.1.1.1.0

pub is_zero_lem : (z : ℤ) → is_zero z ≡ true → z ≡ pos 0
is_zero_lem (pos n) e = ap pos (eqb-true n 0 e)
is_zero_lem (negsuc n) e = let z : ◌≡◌ {A = ℕ} 0 1 = cc in absurd (omega arith)

pub balanced_none : (o : Option Currency) (x : Unit {0}) → balance o ≡ Ok x → o ≡ None
balanced_none None x e = refl
balanced_none (Some c) x e = let z : ◌≡◌ {A = ℕ} 0 1 = cc in absurd (omega arith)

pub currency_sum : (ls : List Leg) (x : Unit {0}) → balance (unbalanced ls) ≡ Ok x → (c : Currency) → column_sum ls (number_of c) ≡ pos 0
currency_sum ls x e c =
    let all = none_first (λ c. not (is_zero (column_sum ls (number_of c)))) currencies (balanced_none (unbalanced ls) x e) in
    is_zero_lem (column_sum ls (number_of c)) (not-false _ (each_currency (λ c. not (is_zero (column_sum ls (number_of c))) ≡ false) all c))

-- a column in which a leg stands is a currency's, and any other is empty
pub column_sum_lem : (ls qs : List Leg) (k : ℕ) → ((c : Currency) → column_sum ls (number_of c) ≡ pos 0) → AllByRecursion Posted qs → (AllByRecursion (λ l. l.column ≢ k) qs → column_sum ls k ≡ pos 0) → column_sum ls k ≡ pos 0
column_sum_lem ls [] k z h f = f tt
column_sum_lem ls (q ∷ qs) k z h f =
    by_equal q.column k
    (λ e. subst (λ (j : ℕ). column_sum ls j ≡ pos 0) (sym h.0.column ∙ e) (z h.0.currency))
    (λ ne. column_sum_lem ls qs k z h.1 (λ g. f (ne, g)))

-- ---- the post

post_balanced : (ps : List Posting) → AllByRecursion Posted (post_legs ps) → ((k : ℕ) → column_sum (post_legs ps) k ≡ pos 0) → Balanced (post ps) tt (post_legs ps)
post_balanced ps h z =
    let past : (k : ℕ) → rise (post_legs ps) 0 k ≡ pos 0 = λ k. rise_elsewhere (post_legs ps) 0 k (All-weaker Posted (λ l. l.account ≢ 0) (λ l p. let lo : 2 ≤ l.account = p.account.low in omega arith) (post_legs ps) h) in
    record {
      within = All-weaker Posted (λ l. l.account < accounts) (λ l p. p.account.high) (post_legs ps) h;
      columns = z;
      euro = λ i. nothing_euro _ _ _ (past _);
      national = λ j. nothing_national _ _ (past _);
    }

post_sound : (o s : State) (h : List Event) (ps : List Posting) → AllByRecursion Posted (post_legs ps) → ((k : ℕ) → column_sum (post_legs ps) k ≡ pos 0)
    → Sound o s h (post ps) (record { answer = tt; legs = Some (post_legs ps); change = unchanged })
unfolding status origin
post_sound o s h ps p z = record {
  makes = record { statuses = λ n. refl; origins = λ n. refl };
  count = omega arith;
  timely = tt;
  told = refl;
  balanced = post_balanced ps p z;
  residues = λ k. rise_elsewhere (post_legs ps) 1 k (All-weaker Posted (λ l. l.account ≢ 1) (λ l p. let lo : 2 ≤ l.account = p.account.low in omega arith) (post_legs ps) p);
  due = tt;
  fair = tt;
}

pub post_accepted : (o s : State) (h : List Event) (ps : List Posting) (v : Movement (Unit {0})) → posting s ps ≡ Ok v → Sound o s h (post ps) v
post_accepted o s h ps v e =
    let a = and_then_lem (fitness s) _ v e in
    let b = and_then_lem (unless (leb least_legs (length ps) && leb (length ps) most_legs) 6 0) _ v a.2 in
    let c = and_then_lem (posted_legs 1 ps) _ v b.2 in
    let d = and_then_lem (balance (unbalanced c.0)) _ v c.2 in
    let p = posted_legs_lem 1 ps c.0 c.1 in
    let z : (k : ℕ) → column_sum (post_legs ps) k ≡ pos 0 =
    subst (λ (ls : List Leg). (k : ℕ) → column_sum ls k ≡ pos 0) p.0
    (λ k. column_sum_lem c.0 (post_legs ps) k (currency_sum c.0 d.0 d.1) p.1 (λ g. column_off c.0 k (subst (AllByRecursion (λ l. l.column ≢ k)) (sym p.0) g))) in
    subst (Sound o s h (post ps)) (ap (λ (ls : List Leg). record { answer = tt; legs = Some ls; change = unchanged }) (sym p.0) ∙ ok_same _ v d.2) (post_sound o s h ps p.1 z)
