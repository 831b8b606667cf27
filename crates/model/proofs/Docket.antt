-- The docket that the numbers make: what finding, striking and restating a record do with it. Assumes nothing.
use Rattle.std.proofs.Common.{◌≡◌, ℕ, zero, suc, ◌≤◌, true, false, cond, eqb, ◌≢◌, ◌⊎◌, List, [], ◌∷◌, ◌++◌, Some, None, sym, refl, ap, ◌∙◌, ap₂, inl, inr, ⊎_elim, append-nil, arith}
use Rattle.std.proofs.lemmas.Bool.{eq-eqb, ne_eqb, cases_lt}
use Rattle.ledger.proofs.Rises.{by_equal}
use Rattle.model.specs.declared.record.Record.{Record}
use Rattle.model.specs.declared.record.Standing.{Standing}
use Rattle.model.specs.Docket.{found, without, with_standing, restated}
use Rattle.model.specs.History.{Status, never, held, carried, Origin, record_for, not_carried}

-- the record of a number in a standing
abbrev pub recorded : ℕ → Origin → Standing → Record
recorded n w t = record { number = n; from = w.from; to = w.to; euro = record { 0 = w.euro }; national = record { 0 = w.national }; standing = t }

pub same_docket : (t t' : ℕ → Status) (w w' : ℕ → Origin) (g : ℕ)
    → ((m : ℕ) → 1 ≤ m → m ≤ g → t' m ≡ t m) → ((m : ℕ) → 1 ≤ m → m ≤ g → w' m ≡ w m) → not_carried t w g ≡ not_carried t' w' g
unfolding not_carried
same_docket t t' w w' zero e d = refl
same_docket t t' w w' (suc g) e d =
    ap₂ (λ (x y : List Record). x ++ y)
    (same_docket t t' w w' g (λ m lo hi. e m lo (omega arith)) (λ m lo hi. d m lo (omega arith)))
    (ap₂ (λ (s : Status) (o : Origin). record_for s (suc g) o) (sym (e (suc g) (omega arith) (omega arith))) (sym (d (suc g) (omega arith) (omega arith))))

-- ---- in the first of two lists, or in the second

found_right : (n : ℕ) (xs ys : List Record) → found n xs ≡ None → found n (xs ++ ys) ≡ found n ys
found_right n [] ys e = refl
found_right n (x ∷ xs) ys e =
    (elim (eqb x.number n) as (λ b. cond b (Some x) (found n xs) ≡ None → cond b (Some x) (found n (xs ++ ys)) ≡ found n ys) [
      | true ↦ λ q. let z : ◌≡◌ {A = ℕ} 0 1 = cc in absurd (omega arith)
      | false ↦ λ q. found_right n xs ys q
    ]) e

found_left : (n : ℕ) (xs ys : List Record) → found n ys ≡ None → found n (xs ++ ys) ≡ found n xs
found_left n [] ys e = e
found_left n (x ∷ xs) ys e =
    elim (eqb x.number n) as (λ b. cond b (Some x) (found n (xs ++ ys)) ≡ cond b (Some x) (found n xs)) [
      | true ↦ refl
      | false ↦ found_left n xs ys e
    ]

without_right : (n : ℕ) (xs ys : List Record) → found n xs ≡ None → without n (xs ++ ys) ≡ xs ++ without n ys
without_right n [] ys e = refl
without_right n (x ∷ xs) ys e =
    (elim (eqb x.number n) as (λ b. cond b (Some x) (found n xs) ≡ None → cond b (xs ++ ys) (x ∷ without n (xs ++ ys)) ≡ x ∷ (xs ++ without n ys)) [
      | true ↦ λ q. let z : ◌≡◌ {A = ℕ} 0 1 = cc in absurd (omega arith)
      | false ↦ λ q. ap (λ (l : List Record). x ∷ l) (without_right n xs ys q)
    ]) e

-- a number that is not there cannot be struck
without_none : (n : ℕ) (xs : List Record) → found n xs ≡ None → without n xs ≡ xs
without_none n xs e = sym (ap (without n) (append-nil xs)) ∙ without_right n xs [] e ∙ append-nil xs

without_left : (n : ℕ) (xs ys : List Record) → found n ys ≡ None → without n (xs ++ ys) ≡ without n xs ++ ys
without_left n [] ys e = without_none n ys e
without_left n (x ∷ xs) ys e =
    elim (eqb x.number n) as (λ b. cond b (xs ++ ys) (x ∷ without n (xs ++ ys)) ≡ cond b xs (x ∷ without n xs) ++ ys) [
      | true ↦ refl
      | false ↦ ap (λ (l : List Record). x ∷ l) (without_left n xs ys e)
    ]

restated_right : (n : ℕ) (p : Standing) (xs ys : List Record) → found n xs ≡ None → restated n p (xs ++ ys) ≡ xs ++ restated n p ys
restated_right n p [] ys e = refl
restated_right n p (x ∷ xs) ys e =
    (elim (eqb x.number n) as (λ b. cond b (Some x) (found n xs) ≡ None → cond b (with_standing p x ∷ (xs ++ ys)) (x ∷ restated n p (xs ++ ys)) ≡ x ∷ (xs ++ restated n p ys)) [
      | true ↦ λ q. let z : ◌≡◌ {A = ℕ} 0 1 = cc in absurd (omega arith)
      | false ↦ λ q. ap (λ (l : List Record). x ∷ l) (restated_right n p xs ys q)
    ]) e

restated_none : (n : ℕ) (p : Standing) (xs : List Record) → found n xs ≡ None → restated n p xs ≡ xs
restated_none n p xs e = sym (ap (restated n p) (append-nil xs)) ∙ restated_right n p xs [] e ∙ append-nil xs

restated_left : (n : ℕ) (p : Standing) (xs ys : List Record) → found n ys ≡ None → restated n p (xs ++ ys) ≡ restated n p xs ++ ys
restated_left n p [] ys e = restated_none n p ys e
restated_left n p (x ∷ xs) ys e =
    elim (eqb x.number n) as (λ b. cond b (with_standing p x ∷ (xs ++ ys)) (x ∷ restated n p (xs ++ ys)) ≡ cond b (with_standing p x ∷ xs) (x ∷ restated n p xs) ++ ys) [
      | true ↦ refl
      | false ↦ ap (λ (l : List Record). x ∷ l) (restated_left n p xs ys e)
    ]

-- ---- one number

other_number : (s : Status) (m n : ℕ) (w : Origin) → m ≢ n → found n (record_for s m w) ≡ None
other_number never m n w ne = refl
other_number (held q) m n w ne = rw (ne_eqb m n ne)
other_number (carried a) m n w ne = refl

found_same : (t : Standing) (n : ℕ) (w : Origin) → found n (recorded n w t ∷ []) ≡ Some (recorded n w t)
found_same t n w = rw (eq-eqb n n refl)

struck : (s : Status) (n : ℕ) (w : Origin) → without n (record_for s n w) ≡ []
struck never n w = refl
struck (held q) n w = rw (eq-eqb n n refl)
struck (carried a) n w = refl

restated_same : (q p : Standing) (n : ℕ) (w : Origin) → restated n p (record_for (held q) n w) ≡ record_for (held p) n w
restated_same q p n w = rw (eq-eqb n n refl)

-- ---- in the docket of the numbers 1 to g

not_there : (t : ℕ → Status) (w : ℕ → Origin) (g n : ℕ) → ((m : ℕ) → 1 ≤ m → m ≤ g → m ≢ n) → found n (not_carried t w g) ≡ None
unfolding not_carried
not_there t w zero n h = refl
not_there t w (suc g) n h =
    found_left n (not_carried t w g) (record_for (t (suc g)) (suc g) (w (suc g))) (other_number (t (suc g)) (suc g) n (w (suc g)) (h (suc g) (omega arith) (omega arith)))
    ∙ not_there t w g n (λ m lo hi. h m lo (omega arith))

there : (t : ℕ → Status) (w : ℕ → Origin) (g n : ℕ) → 1 ≤ n → n ≤ g → found n (not_carried t w g) ≡ found n (record_for (t n) n (w n))
unfolding not_carried
there t w zero n lo hi = absurd (omega arith)
there t w (suc g) n lo hi =
    by_equal n (suc g)
    (λ e. found_right n (not_carried t w g) (record_for (t (suc g)) (suc g) (w (suc g))) (not_there t w g n (λ m l h. omega arith)) ∙ ap (λ (m : ℕ). found n (record_for (t m) m (w m))) (sym e))
    (λ ne. found_left n (not_carried t w g) (record_for (t (suc g)) (suc g) (w (suc g))) (other_number (t (suc g)) (suc g) n (w (suc g)) (λ e. ne (sym e)))
    ∙ there t w g n lo (omega arith))

-- a number that is on the docket is found
pub is_there : (t : ℕ → Status) (w : ℕ → Origin) (g n : ℕ) (p : Standing) → 1 ≤ n → n ≤ g → t n ≡ held p → found n (not_carried t w g) ≡ Some (recorded n (w n) p)
is_there t w g n p lo hi e = there t w g n lo hi ∙ ap (λ (s : Status). found n (record_for s n (w n))) e ∙ found_same p n (w n)

-- What a record that is found says of its number.
pub record Found (t : ℕ → Status) (w : ℕ → Origin) (g n : ℕ) (r : Record) : Type 0 where
  pub low : 1 ≤ n
  pub high : n ≤ g
  pub status : t n ≡ held r.standing
  pub origin : r ≡ recorded n (w n) r.standing

found_one : (t : ℕ → Status) (w : ℕ → Origin) (g n : ℕ) (r : Record) (s : Status) → 1 ≤ n → n ≤ g → t n ≡ s → found n (record_for s n (w n)) ≡ Some r → Found t w g n r
found_one t w g n r never lo hi e f = let z : ◌≡◌ {A = ℕ} 0 1 = cc in absurd (omega arith)
found_one t w g n r (held q) lo hi e f =
    let same : recorded n (w n) q ≡ r = cc (found_same q n (w n)) in
    let standing : q ≡ r.standing = ap (λ (x : Record). x.standing) same in
    record { low = lo; high = hi; status = e ∙ ap held standing; origin = sym same ∙ ap (recorded n (w n)) standing }
found_one t w g n r (carried a) lo hi e f = let z : ◌≡◌ {A = ℕ} 0 1 = cc in absurd (omega arith)

found_at : (t : ℕ → Status) (w : ℕ → Origin) (g n : ℕ) (r : Record) → ((1 ≤ n) × (n ≤ g)) ⊎ (found n (not_carried t w g) ≡ None) → found n (not_carried t w g) ≡ Some r → Found t w g n r
found_at t w g n r (inl h) e = found_one t w g n r (t n) h.0 h.1 refl (sym (there t w g n h.0 h.1) ∙ e)
found_at t w g n r (inr h) e = let z : ◌≡◌ {A = ℕ} 0 1 = cc in absurd (omega arith)

on_or_off : (t : ℕ → Status) (w : ℕ → Origin) (g n : ℕ) → ((1 ≤ n) × (n ≤ g)) ⊎ (found n (not_carried t w g) ≡ None)
on_or_off t w g zero = inr (not_there t w g zero (λ m lo hi. omega arith))
on_or_off t w g (suc n) = ⊎_elim (λ l. inr (not_there t w g (suc n) (λ m lo hi. omega arith))) (λ l. inl (omega arith, l)) (cases_lt g (suc n))

pub found_is : (t : ℕ → Status) (w : ℕ → Origin) (g n : ℕ) (r : Record) → found n (not_carried t w g) ≡ Some r → Found t w g n r
found_is t w g n r e = found_at t w g n r (on_or_off t w g n) e

-- ---- the docket after a number is carried, restated or given

pub strike : (n a : ℕ) (t t' : ℕ → Status) (w : ℕ → Origin) (g : ℕ)
    → t' n ≡ carried a → ((m : ℕ) → m ≢ n → t' m ≡ t m) → without n (not_carried t w g) ≡ not_carried t' w g
unfolding not_carried
strike n a t t' w zero e d = refl
strike n a t t' w (suc g) e d =
    by_equal (suc g) n
    (λ q.
    without_right n (not_carried t w g) (record_for (t (suc g)) (suc g) (w (suc g))) (not_there t w g n (λ m lo hi. omega arith))
    ∙ ap₂ (λ (x y : List Record). x ++ y) (same_docket t t' w w g (λ m lo hi. d m (omega arith)) (λ m lo hi. refl))
    (ap (λ (m : ℕ). without m (record_for (t (suc g)) (suc g) (w (suc g)))) (sym q) ∙ struck (t (suc g)) (suc g) (w (suc g))
    ∙ ap (λ (s : Status). record_for s (suc g) (w (suc g))) (sym (ap t' q ∙ e))))
    (λ ne.
    without_left n (not_carried t w g) (record_for (t (suc g)) (suc g) (w (suc g))) (other_number (t (suc g)) (suc g) n (w (suc g)) ne)
    ∙ ap₂ (λ (x y : List Record). x ++ y) (strike n a t t' w g e d) (ap (λ (s : Status). record_for s (suc g) (w (suc g))) (sym (d (suc g) ne))))

pub restate : (n : ℕ) (q p : Standing) (t t' : ℕ → Status) (w : ℕ → Origin) (g : ℕ)
    → t n ≡ held q → t' n ≡ held p → ((m : ℕ) → m ≢ n → t' m ≡ t m) → restated n p (not_carried t w g) ≡ not_carried t' w g
unfolding not_carried
restate n q p t t' w zero a e d = refl
restate n q p t t' w (suc g) a e d =
    by_equal (suc g) n
    (λ k.
    restated_right n p (not_carried t w g) (record_for (t (suc g)) (suc g) (w (suc g))) (not_there t w g n (λ m lo hi. omega arith))
    ∙ ap₂ (λ (x y : List Record). x ++ y) (same_docket t t' w w g (λ m lo hi. d m (omega arith)) (λ m lo hi. refl))
    (ap₂ (λ (m : ℕ) (s : Status). restated m p (record_for s (suc g) (w (suc g)))) (sym k) (ap t k ∙ a) ∙ restated_same q p (suc g) (w (suc g))
    ∙ ap (λ (s : Status). record_for s (suc g) (w (suc g))) (sym (ap t' k ∙ e))))
    (λ ne.
    restated_left n p (not_carried t w g) (record_for (t (suc g)) (suc g) (w (suc g))) (other_number (t (suc g)) (suc g) n (w (suc g)) ne)
    ∙ ap₂ (λ (x y : List Record). x ++ y) (restate n q p t t' w g a e d) (ap (λ (s : Status). record_for s (suc g) (w (suc g))) (sym (d (suc g) ne))))
