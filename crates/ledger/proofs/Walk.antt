-- The verdict on legs, one leg on. Assumes nothing.
use Rattle.std.proofs.Common.{◌≡◌, ℕ, ◌+◌, ◌<◌, ◌≤◌, Bool, true, false, cond, ltb, List, length, get_or, take, drop, Ok, Err, Result, sym, refl, ap, ◌∙◌, arith}
use Rattle.std.proofs.lemmas.List.{at_drop_more, at_drop_all}
use Rattle.std.proofs.lemmas.Bool.{cond-false, le-ltb, ltb-false}
use Rattle.register.specs.Register.{Refusal, by_ledger}
use Rattle.ledger.specs.declared.leg.Leg.{Leg}
use Rattle.ledger.specs.Meaning.{Meaning, entered, fits, stops, roomy, verdict}
use Rattle.ledger.proofs.Meanings.{entered_none, entered_more}

-- the walk from leg i on, the first i having been entered
abbrev pub left : Meaning → List Leg → ℕ → Result (Unit {0}) Refusal
left m ls i = stops (entered m (take i ls)) (i + 1) (drop i ls)

pub left_none : (m : Meaning) (ls : List Leg) → left m ls 0 ≡ stops m 1 ls
left_none m ls = ap (λ n. stops n 1 ls) (entered_none m)

pub left_more : (m : Meaning) (ls : List Leg) (i : ℕ) (d : Leg) → i < length ls → left m ls i ≡ cond (fits (entered m (take (i + 1) ls)) (get_or ls i d)) (left m ls (i + 1)) (Err (by_ledger 18 (i + 1) 0))
unfolding stops
left_more m ls i d h =
    at_drop_more (stops (entered m (take i ls)) (i + 1)) ls i d h
    ∙ ap (λ n. cond (fits n (get_or ls i d)) (stops n (i + 1 + 1) (drop (i + 1) ls)) (Err (by_ledger 18 (i + 1) 0))) (entered_more m ls i d h)

pub left_all : (m : Meaning) (ls : List Leg) (i : ℕ) → length ls ≤ i → left m ls i ≡ Ok tt
unfolding stops
left_all m ls i h = at_drop_all (stops (entered m (take i ls)) (i + 1)) ls i h

pub verdict_walk : (m : Meaning) (ls : List Leg) → length ls ≤ m.room → verdict m ls ≡ left m ls 0
unfolding verdict
verdict_walk m ls h = cond-false _ _ _ (le-ltb m.room (length ls) h) ∙ sym (left_none m ls)

-- a walk that ends well does not stop at this leg, nor after it
pub cond_taken : (b : Bool) (r : Result (Unit {0}) Refusal) (f : Refusal) → cond b r (Err f) ≡ Ok tt → (b ≡ true) × (r ≡ Ok tt)
cond_taken true r f e = (refl, e)
cond_taken false r f e = absurd (let z : ◌≡◌ {A = ℕ} 0 1 = cc in omega arith)

cond_passed : (b : Bool) (r : Result (Unit {0}) Refusal) (f : Refusal) → cond b (Err f) r ≡ Ok tt → (b ≡ false) × (r ≡ Ok tt)
cond_passed false r f e = (refl, e)
cond_passed true r f e = absurd (let z : ◌≡◌ {A = ℕ} 0 1 = cc in omega arith)

-- there is room, or the verdict is the refusal for want of it
pub room_suffices : (m : Meaning) (ls : List Leg) → roomy m ls ≡ Ok tt → length ls ≤ m.room
room_suffices m ls e = ltb-false _ _ (cond_passed _ _ _ e).0

cond_refused : (b : Bool) (e f : Refusal) (taken r : Result (Unit {0}) Refusal) → taken ≡ Ok tt → cond b (Err e) taken ≡ Err f → cond b (Err e) r ≡ Err f
cond_refused true e f taken r ok h = h
cond_refused false e f taken r ok h = absurd (let z : ◌≡◌ {A = ℕ} 0 1 = cc in omega arith)

pub room_refused : (m : Meaning) (ls : List Leg) (f : Refusal) → roomy m ls ≡ Err f → verdict m ls ≡ Err f
unfolding verdict
room_refused m ls f e = cond_refused _ _ f (Ok tt) (stops m 1 ls) refl e

pub left_step : (m : Meaning) (ls : List Leg) (i : ℕ) (d : Leg) → i < length ls → left m ls i ≡ Ok tt → (fits (entered m (take (i + 1) ls)) (get_or ls i d) ≡ true) × (left m ls (i + 1) ≡ Ok tt)
left_step m ls i d h e = cond_taken _ _ _ (sym (left_more m ls i d h) ∙ e)

pub verdict_taken : (m : Meaning) (ls : List Leg) → verdict m ls ≡ Ok tt → (length ls ≤ m.room) × (stops m 1 ls ≡ Ok tt)
unfolding verdict
verdict_taken m ls e = let p = cond_passed (ltb m.room (length ls)) (stops m 1 ls) _ e in (ltb-false _ _ p.0, p.1)

-- the walk stopped at leg i, or ended
pub verdict_stopped : (m : Meaning) (ls : List Leg) (i : ℕ) (d : Leg) → length ls ≤ m.room → i < length ls → left m ls i ≡ left m ls 0 → fits (entered m (take (i + 1) ls)) (get_or ls i d) ≡ false → Err (by_ledger 18 (i + 1) 0) ≡ verdict m ls
verdict_stopped m ls i d enough h same out = sym (verdict_walk m ls enough ∙ sym same ∙ left_more m ls i d h ∙ cond-false _ _ _ out)

pub verdict_walked : (m : Meaning) (ls : List Leg) (i : ℕ) → length ls ≤ m.room → length ls ≤ i → left m ls i ≡ left m ls 0 → Ok tt ≡ verdict m ls
verdict_walked m ls i enough h same = sym (verdict_walk m ls enough ∙ sym same ∙ left_all m ls i h)
