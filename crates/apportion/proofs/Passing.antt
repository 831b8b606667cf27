-- The check passes exactly what can be divided. Assumes nothing.
use Rattle.std.proofs.Common.{◌≡◌, ℕ, zero, suc, ◌+◌, ◌<◌, ◌≤◌, Bool, true, false, cond, ◌||◌, eqb, ltb, List, [], ◌∷◌, length, ℤ, pos, negsuc, nat_abs, Ok, Err, Result, sym, refl, ap, ◌∙◌, subst, arith}
use Rattle.std.proofs.lemmas.Bool.{false≢true, ltb-false, le-ltb, eqb-false, ne_eqb, or_parts, cond-true, cond-false}
use Rattle.std.proofs.lemmas.Bool.Decides.{nat_tests}
use Rattle.register.specs.Register.{BookFault}
use Rattle.register.specs.Register.{Refusal, book_answer}
use Rattle.money.specs.Conversions.{most_amount, convertible}
use Rattle.apportion.specs.declared.share.Share.{Share}
use Rattle.apportion.specs.Accounts.{named}
use Rattle.apportion.specs.Refusals.{most_weight, most_shares, each_share, some_weight, checked, Divisible, Checks}
use Rattle.apportion.specs.Splits.{share_at, weight_at, all_weights}
use Rattle.apportion.proofs.Checks.{in_range_lem, weight_some}

-- an answer that is Ok does not come from the Err of a test
passed : (b : Bool) (e : Refusal) (r : Result ℕ Refusal) (w : ℕ) → cond b (Err e) r ≡ Ok w → (b ≡ false) × (r ≡ Ok w)
passed true e r w h = absurd (let z : ◌≡◌ {A = ℕ} 0 1 = cc in omega arith)
passed false e r w h = (refl, h)

accepted : (b : Bool) (e : Refusal) (r : Result ℕ Refusal) (w : ℕ) → cond b r (Err e) ≡ Ok w → (b ≡ true) × (r ≡ Ok w)
accepted false e r w h = absurd (let z : ◌≡◌ {A = ℕ} 0 1 = cc in omega arith)
accepted true e r w h = (refl, h)

each_ok : (from : ℕ) (shares : List Share) (last : Result ℕ Refusal) (w : ℕ) → each_share from shares last ≡ Ok w
    → (last ≡ Ok w) × ((i : ℕ) → i < length shares → named (share_at shares i).account ≡ true) × ((i : ℕ) → weight_at shares i ≤ most_weight)
each_ok from [] last w h = (h, λ i l. absurd (omega arith), λ i. omega arith)
each_ok from (s ∷ shares) last w h =
    let a = accepted (named s.account) _ _ w h in
    let b = passed (ltb most_weight s.weight) _ _ w a.1 in
    let rest = each_ok (from + 1) shares last w b.1 in
    (rest.0, each_account s shares a.0 rest.1, each_weight s shares (ltb-false most_weight s.weight b.0) rest.2)
  where
    each_account : (s : Share) (shares : List Share) → named s.account ≡ true → ((i : ℕ) → i < length shares → named (share_at shares i).account ≡ true)
        → (i : ℕ) → i < length (s ∷ shares) → named (share_at (s ∷ shares) i).account ≡ true
    each_account s shares h t zero l = h
    each_account s shares h t (suc i) l = t i (omega arith)

    each_weight : (s : Share) (shares : List Share) → s.weight ≤ most_weight → ((i : ℕ) → weight_at shares i ≤ most_weight) → (i : ℕ) → weight_at (s ∷ shares) i ≤ most_weight
    each_weight s shares h t zero = h
    each_weight s shares h t (suc i) = t i

ok_same : (a b : ℕ) → ◌≡◌ {A = Result ℕ Refusal} (Ok a) (Ok b) → a ≡ b
ok_same a b h = cc

-- an amount in range is a natural number
in_units : (amount : ℤ) → convertible amount ≡ true → (amount ≡ pos (nat_abs amount)) × (0 < nat_abs amount) × (nat_abs amount ≤ most_amount)
in_units (pos n) a = (refl, grind (arith, nat_tests), grind (arith, nat_tests))
in_units (negsuc n) a = absurd (false≢true a)

pub divisible : (amount : ℤ) (shares : List Share) (w : ℕ) → checked amount shares ≡ Ok w → (amount ≡ pos (nat_abs amount)) × Divisible (nat_abs amount) shares w
divisible amount shares w h =
    let a = accepted (convertible amount) _ _ w h in
    let b = passed (eqb (length shares) 0 || ltb most_shares (length shares)) _ _ w a.1 in
    let b2 = or_parts _ _ b.0 in
    let c = each_ok 1 shares (some_weight shares) w b.1 in
    let d = passed (eqb (all_weights shares) 0) _ _ w c.0 in
    let e : all_weights shares ≡ w = ok_same (all_weights shares) w d.1 in
    let u = in_units amount a.0 in (
      u.0,
      record {
        amount_least = u.1;
        amount_most = u.2;
        shares_least = above_0 (length shares) (eqb-false (length shares) 0 b2.0);
        shares_most = ltb-false most_shares (length shares) b2.1;
        account = c.1;
        weight = c.2;
        sum = sym e;
        sum_least = subst (λ n. 0 < n) e (above_0 (all_weights shares) (eqb-false (all_weights shares) 0 d.0));
      },
    )
  where
    above_0 : (n : ℕ) → (n ≡ 0 → ⊥) → 0 < n
    above_0 n d = omega arith

each_passes : (from : ℕ) (shares : List Share) (last : Result ℕ Refusal) → ((i : ℕ) → i < length shares → named (share_at shares i).account ≡ true) → ((i : ℕ) → weight_at shares i ≤ most_weight)
    → each_share from shares last ≡ last
each_passes from [] last a w = refl
each_passes from (s ∷ shares) last a w =
    cond-true _ _ _ (a 0 (omega arith))
    ∙ cond-false _ _ _ (le-ltb most_weight s.weight (w 0))
    ∙ each_passes (from + 1) shares last (λ i l. a (suc i) (omega arith)) (λ i. w (suc i))

-- what can be divided passes
admits : (n : ℕ) (shares : List Share) (w : ℕ) → Divisible n shares w → checked (pos n) shares ≡ Ok w
admits n shares w d =
    let s = d.amount_least in
    let m = d.amount_most in
    let a = d.shares_least in
    let p = d.sum_least in
    let e = d.sum in
    in_range_lem (pos n) shares (grind (arith, nat_tests)) (sym (ne_eqb (length shares) 0 (λ z. omega arith))) d.shares_most
    ∙ each_passes 1 shares (some_weight shares) d.account d.weight
    ∙ weight_some shares (λ z. omega arith)
    ∙ ap Ok (sym e)

err_ok : (r : Refusal) (w : ℕ) → ◌≡◌ {A = Result ℕ Refusal} (Err r) (Ok w) → ⊥
err_ok r w h = let z : ◌≡◌ {A = ℕ} 0 1 = cc in omega arith

pub checks : (amount : ℤ) (shares : List Share) (r : Result ℕ BookFault) → book_answer r ≡ checked amount shares → Checks amount shares r
checks amount shares (Ok w) h = let d = divisible amount shares w (sym h) in (nat_abs amount, d.0, d.1)
checks amount shares (Err f) h = λ n w e d. err_ok _ w (h ∙ ap (λ z. checked z shares) e ∙ admits n shares w d)
