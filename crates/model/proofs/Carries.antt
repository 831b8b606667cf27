-- What carries, parkings, take-ups and questions owe. Assumes nothing.
use Rattle.std.proofs.Common.{◌≡◌, ℕ, zero, suc, ◌<◌, ◌≤◌, true, false, cond, not, eqb, List, ◌++◌, length, ℤ, pos, Some, None, Ok, Option, sym, refl, ap, ◌∙◌, subst, inl, inr, arith}
use Rattle.std.proofs.lemmas.Bool.{eqb-true}
use Rattle.money.specs.declared.currency.Currency.{Currency}
use Rattle.money.specs.declared.currency.Currency.TheVariants.{Euro, National as Of}
use Rattle.ledger.specs.Legs.{column_sum, rise}
use Rattle.ledger.specs.Limits.{accounts}
use Rattle.model.specs.declared.record.Record.{Record}
use Rattle.model.specs.declared.record.Standing.{Standing}
use Rattle.model.specs.declared.record.Standing.TheVariants.{Out, Parked}
use Rattle.model.specs.Calls.{Question, cell, room, kind, fit, mark, given, records, audit, Answer, carry, park, take_up, ask}
use Rattle.model.specs.Conservation.{DueAnswer, Ours}
use Rattle.model.specs.Docket.{is_out, found, euro_fraction, national_fraction, residues_of}
use Rattle.model.specs.History.{Event, Status, held, carried, status, Origin, origin, not_carried, residue_legs, origin_legs}
use Rattle.model.specs.Postings.{transfers, carry_legs}
use Rattle.model.specs.Results.{unless, present}
use Rattle.model.specs.State.{State}
use Rattle.model.specs.Step.{Movement, restates, strikes, still, fitness, account_at, if_out, slip_record, carrying, parking, taking_up, asked}
use Rattle.model.proofs.Accepted.{and_then_lem, ok_same, passed, found_there, Named, account_named}
use Rattle.model.proofs.Changes.{Turning, held≢never, given_known}
use Rattle.model.proofs.Docket.{recorded, is_there, Found, found_is}
use Rattle.model.proofs.Kept.{Balanced, Sound, Kept}
use Rattle.model.proofs.Legs.{origin_from, origin_column, origin_all, origin_past}
use Rattle.model.proofs.Slips.{cond_same, cond_other}
use Rattle.model.proofs.Sums.{nothing_euro, nothing_national}

-- ---- calls without legs

due_answer : (o s : State) (h : List Event) (q : Question) → Kept o s h → DueAnswer o h q (asked s q)
due_answer o s h (cell a k) x = x.cells a k
due_answer o s h room x = x.room
due_answer o s h kind x = x.kind
due_answer o s h fit x = x.fit
due_answer o s h mark x = x.mark
due_answer o s h given x = x.count
due_answer o s h records x = x.track.docket ∙ ap (not_carried (status h) (origin h)) x.count
due_answer o s h audit x = (x.kind, x.room, ap length (x.track.docket ∙ ap (not_carried (status h) (origin h)) x.count))

asks : (o s : State) (h : List Event) (q : Question) → Kept o s h → Sound o s h (ask q) (still (asked s q))
unfolding status origin rise column_sum
asks o s h q k = record {
  makes = record { statuses = λ n. refl; origins = λ n. refl };
  count = omega arith;
  timely = tt;
  told = refl;
  balanced = record { within = tt; columns = λ k. refl; euro = λ i. nothing_euro _ _ _ refl; national = λ j. nothing_national _ _ refl };
  residues = λ k. refl;
  due = due_answer o s h q k;
  fair = tt;
}

-- ---- the record of a number

-- what the docket has of a number that is found, by the history
pub docket_found : (o s : State) (h : List Event) (n : ℕ) (r : Record) → Kept o s h → found n s.docket ≡ Some r → Found (status h) (origin h) s.given n r
docket_found o s h n r k e = found_is (status h) (origin h) s.given n r (sym (ap (found n) k.track.docket) ∙ e)

standing_out : (t : Standing) → is_out t ≡ true → t ≡ Out
standing_out Out e = refl
standing_out Parked e = let z : ◌≡◌ {A = ℕ} 0 1 = cc in absurd (omega arith)

standing_parked : (t : Standing) → not (is_out t) ≡ true → t ≡ Parked
standing_parked Out e = let z : ◌≡◌ {A = ℕ} 0 1 = cc in absurd (omega arith)
standing_parked Parked e = refl

out_found : (q : Option Record) (r : Record) → if_out q ≡ Some r → (q ≡ Some r) × (r.standing ≡ Out)
out_found None r e = let z : ◌≡◌ {A = ℕ} 0 1 = cc in absurd (omega arith)
out_found (Some x) r e =
    (elim (is_out x.standing) as (λ b. is_out x.standing ≡ b → cond b (Some x) None ≡ Some r → (Some x ≡ Some r) × (r.standing ≡ Out)) [
      | true ↦ λ t f. (f, let same : x ≡ r = cc in sym (ap (λ (y : Record). y.standing) same) ∙ standing_out x.standing t)
      | false ↦ λ t f. let z : ◌≡◌ {A = ℕ} 0 1 = cc in absurd (omega arith)
    ]) refl e

slip_found : (s : State) (m n : ℕ) (r : Record) → slip_record s m n ≡ Some r → (m ≡ s.mark) × (found n s.docket ≡ Some r) × (r.standing ≡ Out)
slip_found s m n r e =
    (elim (eqb m s.mark) as (λ b. eqb m s.mark ≡ b → cond b (if_out (found n s.docket)) None ≡ Some r → (m ≡ s.mark) × (found n s.docket ≡ Some r) × (r.standing ≡ Out)) [
      | true ↦ λ t f. let x = out_found (found n s.docket) r f in (eqb-true m s.mark t, x.0, x.1)
      | false ↦ λ t f. let z : ◌≡◌ {A = ℕ} 0 1 = cc in absurd (omega arith)
    ]) refl e

-- a slip whose record is not found is not this book's
slip_missing : (o s : State) (h : List Event) (m n : ℕ) → Kept o s h → slip_record s m n ≡ None → Ours o h m n → ⊥
slip_missing o s h m n k e ours =
    let lives = given_known s.given (status h) n k.track.known (λ z. held≢never Out (sym ours.1 ∙ z)) in
    let there : found n s.docket ≡ Some (recorded n (origin h n) Out) = ap (found n) k.track.docket ∙ is_there (status h) (origin h) s.given n Out lives.0 lives.1 ours.1 in
    let same : slip_record s m n ≡ Some (recorded n (origin h n) Out) = cond_same m s.mark (if_out (found n s.docket)) None (ours.0 ∙ sym k.mark) ∙ ap if_out there in
    let z : ◌≡◌ {A = ℕ} 0 1 = cc in
    omega arith

-- a number of the docket becomes t
turns : (g n : ℕ) (t : ℕ → Status) (w : ℕ → Origin) (r : Record) (x : Status) → Found t w g n r → Turning g n x t (λ m. cond (eqb n m) x (t m)) w w
turns g n t w r x f = record {
  low = f.low;
  high = f.high;
  standing = r.standing;
  was = f.status;
  is = cond_same n n x (t n) refl;
  statuses = λ m ne. cond_other n m x (t m) (λ e. ne (sym e));
  origins = λ m. refl;
}

-- ---- carrying

-- the residues of a record, as the history tells them
told_residues : (p q : ℕ) (from to : Currency) (e n : ℤ)
    → transfers p q (euro_fraction from (record { 0 = e }) ++ national_fraction to (record { 0 = n })) ≡ residue_legs p q 11 from e ++ residue_legs p q 22 to n
told_residues p q Euro Euro e n = refl
told_residues p q Euro (Of j) e n = refl
told_residues p q (Of i) Euro e n = refl
told_residues p q (Of i) (Of j) e n = refl

pub told_record : (p q n : ℕ) (w : Origin) (t : Standing) → transfers p q (residues_of (recorded n w t)) ≡ origin_legs p q w
told_record p q n w t = told_residues p q w.from w.to w.euro w.national

carry_balanced : (m n a : ℕ) (w : Origin) → Named a → Balanced (carry m n a) tt (origin_legs 1 a w)
carry_balanced m n a w f =
    let lo : 2 ≤ a = f.low in
    let hi : a < accounts = f.high in
    let past : (k : ℕ) → rise (origin_legs 1 a w) 0 k ≡ pos 0 = λ k. origin_past 1 a 0 w k (omega arith) (omega arith) in
    record {
      within = origin_all (λ l. l.account < accounts) 1 a w (λ _ _. omega arith) (λ _ _. hi);
      columns = λ k. origin_column 1 a w k;
      euro = λ i. nothing_euro _ _ _ (past _);
      national = λ j. nothing_national _ _ (past _);
    }

carry_sound : (o s : State) (h : List Event) (m n a : ℕ) (r : Record) → m ≡ o.mark → Named a → Found (status h) (origin h) s.given n r → r.standing ≡ Out
    → Sound o s h (carry m n a) (record { answer = tt; legs = Some (carry_legs r a); change = strikes n a })
unfolding status origin
carry_sound o s h m n a r is f d t =
    let lo : 2 ≤ a = f.low in
    record {
      makes = turns s.given n (status h) (origin h) r (carried a) d;
      count = omega arith;
      timely = (r.standing, d.status);
      told = ap (λ (x : Record). transfers 1 a (residues_of x)) d.origin ∙ told_record 1 a n (origin h n) r.standing;
      balanced = carry_balanced m n a (origin h n) f;
      residues = λ k. origin_from 1 a (origin h n) k (omega arith);
      due = (is, d.status ∙ ap held t);
      fair = tt;
    }

pub carry_accepted : (o s : State) (h : List Event) (m n a : ℕ) (v : Movement (Unit {0})) → Kept o s h → carrying s m n a ≡ Ok v → Sound o s h (carry m n a) v
carry_accepted o s h m n a v k e =
    let x = and_then_lem (fitness s) _ v e in
    let y = and_then_lem (present (slip_record s m n) 12 0) _ v x.2 in
    let z = and_then_lem (account_at a 0) _ v y.2 in
    let p = slip_found s m n y.0 (found_there (slip_record s m n) 12 0 y.0 y.1) in
    subst (Sound o s h (carry m n a)) (ok_same _ v z.2)
    (carry_sound o s h m n a y.0 (p.0 ∙ k.mark) (account_named a 0 z.0 z.1) (docket_found o s h n y.0 k p.1) p.2)

-- ---- parking and taking up

park_sound : (o s : State) (h : List Event) (m n : ℕ) (r : Record) → m ≡ o.mark → Found (status h) (origin h) s.given n r → r.standing ≡ Out
    → Sound o s h (park m n) (record { answer = n; legs = None; change = restates n Parked })
unfolding status origin rise column_sum
park_sound o s h m zero r is d t = let lo : 1 ≤ 0 = d.low in absurd (omega arith)
park_sound o s h m (suc n) r is d t = record {
  makes = turns s.given (suc n) (status h) (origin h) r (held Parked) d;
  count = omega arith;
  timely = (r.standing, d.status);
  told = refl;
  balanced = record { within = tt; columns = λ k. refl; euro = λ i. nothing_euro _ _ _ refl; national = λ j. nothing_national _ _ refl };
  residues = λ k. refl;
  due = inl (refl, (is, d.status ∙ ap held t));
  fair = tt;
}

park_none : (o s : State) (h : List Event) (m n : ℕ) → (Ours o h m n → ⊥) → Sound o s h (park m n) (still 0)
unfolding status origin rise column_sum
park_none o s h m n other = record {
  makes = record { statuses = λ n. refl; origins = λ n. refl };
  count = omega arith;
  timely = tt;
  told = refl;
  balanced = record { within = tt; columns = λ k. refl; euro = λ i. nothing_euro _ _ _ refl; national = λ j. nothing_national _ _ refl };
  residues = λ k. refl;
  due = inr (refl, other);
  fair = tt;
}

parks_at : (o s : State) (h : List Event) (m n : ℕ) (q : Option Record) → Kept o s h → slip_record s m n ≡ q → Sound o s h (park m n) (parking n q)
parks_at o s h m n None k e = park_none o s h m n (slip_missing o s h m n k e)
parks_at o s h m n (Some r) k e = let p = slip_found s m n r e in park_sound o s h m n r (p.0 ∙ k.mark) (docket_found o s h n r k p.1) p.2

pub park_accepted : (o s : State) (h : List Event) (m n : ℕ) (v : Movement ℕ) → Kept o s h → ◌≡◌ {A = Movement ℕ} (parking n (slip_record s m n)) v → Sound o s h (park m n) v
park_accepted o s h m n v k e = subst (Sound o s h (park m n)) e (parks_at o s h m n (slip_record s m n) k refl)

take_sound : (o s : State) (h : List Event) (n : ℕ) (r : Record) → Found (status h) (origin h) s.given n r → r.standing ≡ Parked
    → Sound o s h (take_up n) (record { answer = n; legs = None; change = restates n Out })
unfolding status origin rise column_sum
take_sound o s h n r d t = record {
  makes = turns s.given n (status h) (origin h) r (held Out) d;
  count = omega arith;
  timely = (r.standing, d.status);
  told = refl;
  balanced = record { within = tt; columns = λ k. refl; euro = λ i. nothing_euro _ _ _ refl; national = λ j. nothing_national _ _ refl };
  residues = λ k. refl;
  due = (refl, d.status ∙ ap held t);
  fair = tt;
}

pub take_up_accepted : (o s : State) (h : List Event) (n : ℕ) (v : Movement ℕ) → Kept o s h → taking_up s n ≡ Ok v → Sound o s h (take_up n) v
take_up_accepted o s h n v k e =
    let x = and_then_lem (fitness s) _ v e in
    let y = and_then_lem (present (found n s.docket) 13 0) _ v x.2 in
    let z = and_then_lem (unless (not (is_out y.0.standing)) 14 0) _ v y.2 in
    subst (Sound o s h (take_up n)) (ok_same _ v z.2)
    (take_sound o s h n y.0 (docket_found o s h n y.0 k (found_there (found n s.docket) 13 0 y.0 y.1)) (standing_parked y.0.standing (passed _ 14 0 z.0 z.1)))

pub ask_accepted : (o s : State) (h : List Event) (q : Question) (v : Movement (Answer q)) → Kept o s h → ◌≡◌ {A = Movement (Answer q)} (still (asked s q)) v → Sound o s h (ask q) v
ask_accepted o s h q v k e = subst (Sound o s h (ask q)) e (asks o s h q k)
