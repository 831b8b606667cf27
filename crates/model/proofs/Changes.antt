-- The docket and the docket account follow the numbers, once for each kind of change. Assumes nothing.
use Rattle.std.proofs.Common.{◌≡◌, ℕ, zero, suc, ◌+◌, ◌<◌, ◌≤◌, ◌≢◌, List, [], ◌∷◌, ◌++◌, length, ℤ, pos, ◌+ℤ◌, neg_ℤ, sym, refl, ap, ◌∙◌, ap₂, ⊎_elim, append_assoc, append-nil, arith}
use borrow.Author.Differences.{ints}
use Rattle.std.proofs.lemmas.Bool.{cases_lt}
use Rattle.ledger.specs.Legs.{sum_to}
use Rattle.ledger.proofs.Rises.{by_equal}
use Rattle.model.specs.declared.record.Record.{Record}
use Rattle.model.specs.declared.record.Standing.{Standing}
use Rattle.model.specs.declared.record.Standing.TheVariants.{Out}
use Rattle.model.specs.Docket.{without, restated}
use Rattle.model.specs.History.{Status, never, held, carried, Origin, residue_in, held_in, record_for, not_carried}
use Rattle.model.specs.Step.{Change, unchanged, issues, restates, strikes, docket_after, given_after}
use Rattle.model.proofs.Docket.{recorded, same_docket, strike, restate}
use Rattle.model.proofs.Sums.{sum_same, sum_change}

-- ---- what a change does: g numbers are given, with statuses t and origins w before it, t' and w' after it

pub record Unmoved (t t' : ℕ → Status) (w w' : ℕ → Origin) : Type 0 where
  pub statuses : (n : ℕ) → t' n ≡ t n
  pub origins : (n : ℕ) → w' n ≡ w n

-- the records are out, and numbered from g + 1 on
abbrev pub Issued : ℕ → List Record → (ℕ → Status) → (ℕ → Origin) → Type 0
Issued g [] t w = Unit {0}
Issued g (r ∷ rs) t w = (t (suc g) ≡ held Out) × (r ≡ recorded (suc g) (w (suc g)) Out) × Issued (suc g) rs t w

pub record Issuing (g : ℕ) (rs : List Record) (t t' : ℕ → Status) (w w' : ℕ → Origin) : Type 0 where
  pub statuses : (n : ℕ) → n ≤ g → t' n ≡ t n
  pub origins : (n : ℕ) → n ≤ g → w' n ≡ w n
  pub fresh : Issued g rs t' w'
  pub beyond : (n : ℕ) → g + length rs < n → t' n ≡ t n

-- one number is on the docket, and becomes s
pub record Turning (g n : ℕ) (s : Status) (t t' : ℕ → Status) (w w' : ℕ → Origin) : Type 0 where
  pub low : 1 ≤ n
  pub high : n ≤ g
  pub standing : Standing
  pub was : t n ≡ held standing
  pub is : t' n ≡ s
  pub statuses : (m : ℕ) → m ≢ n → t' m ≡ t m
  pub origins : (m : ℕ) → w' m ≡ w m

abbrev pub Makes : ℕ → (t t' : ℕ → Status) (w w' : ℕ → Origin) → Change → Type 0
Makes g t t' w w' unchanged = Unmoved t t' w w'
Makes g t t' w w' (issues rs) = Issuing g rs t t' w w'
Makes g t t' w w' (restates n p) = Turning g n (held p) t t' w w'
Makes g t t' w w' (strikes n a) = Turning g n (carried a) t t' w w'

-- ---- statuses: those of the numbers 1 to g are known, and no others

pub record Known (g : ℕ) (t : ℕ → Status) : Type 0 where
  pub later : (n : ℕ) → g < n → t n ≡ never
  pub zeroth : t 0 ≡ never
  pub born : (n : ℕ) → 1 ≤ n → n ≤ g → t n ≢ never

pub held≢never : (p : Standing) → held p ≢ never
held≢never p e = let z : ◌≡◌ {A = ℕ} 0 1 = cc in omega arith

pub carried≢never : (a : ℕ) → carried a ≢ never
carried≢never a e = let z : ◌≡◌ {A = ℕ} 0 1 = cc in omega arith

known_unmoved : (g : ℕ) (t t' : ℕ → Status) (w w' : ℕ → Origin) → Unmoved t t' w w' → Known g t → Known g t'
known_unmoved g t t' w w' u k = record {
  later = λ n h. u.statuses n ∙ k.later n h;
  zeroth = u.statuses 0 ∙ k.zeroth;
  born = λ n lo hi e. k.born n lo hi (sym (u.statuses n) ∙ e);
}

issued_born : (g : ℕ) (rs : List Record) (t : ℕ → Status) (w : ℕ → Origin) → Issued g rs t w → (n : ℕ) → g < n → n ≤ g + length rs → t n ≢ never
issued_born g [] t w i n lo hi e = omega arith
issued_born g (r ∷ rs) t w i n lo hi e =
    by_equal n (suc g)
    (λ q. held≢never Out (sym i.0 ∙ ap t (sym q) ∙ e))
    (λ ne. issued_born (suc g) rs t w i.2 n (omega arith) (omega arith) e)

known_issuing : (g : ℕ) (rs : List Record) (t t' : ℕ → Status) (w w' : ℕ → Origin) → Issuing g rs t t' w w' → Known g t → Known (g + length rs) t'
known_issuing g rs t t' w w' i k = record {
  later = λ n h. i.beyond n h ∙ k.later n (omega arith);
  zeroth = i.statuses 0 (omega arith) ∙ k.zeroth;
  born = λ n lo hi e. ⊎_elim
      (λ l. issued_born g rs t' w' i.fresh n l hi e)
      (λ l. k.born n lo l (sym (i.statuses n l) ∙ e))
      (cases_lt g n);
}

known_turning : (g n : ℕ) (s : Status) (t t' : ℕ → Status) (w w' : ℕ → Origin) → s ≢ never → Turning g n s t t' w w' → Known g t → Known g t'
known_turning g n s t t' w w' ne x k =
    let lo : 1 ≤ n = x.low in
    let hi : n ≤ g = x.high in
    record {
      later = λ m h. x.statuses m (omega arith) ∙ k.later m h;
      zeroth = x.statuses 0 (omega arith) ∙ k.zeroth;
      born = λ m l h e. by_equal m n (λ q. ne (sym x.is ∙ sym (ap t' q) ∙ e)) (λ q. k.born m l h (sym (x.statuses m q) ∙ e));
    }

-- a number with a status is one of them
pub given_known : (g : ℕ) (t : ℕ → Status) (n : ℕ) → Known g t → t n ≢ never → (1 ≤ n) × (n ≤ g)
given_known g t zero k ne = absurd (ne k.zeroth)
given_known g t (suc n) k ne = (omega arith, ⊎_elim (λ l. absurd (ne (k.later (suc n) l))) (λ l. l) (cases_lt g (suc n)))

-- ---- the docket

-- the docket d of the numbers 1 to g, with statuses t and origins w
pub record Track (g : ℕ) (d : List Record) (t : ℕ → Status) (w : ℕ → Origin) : Type 0 where
  pub docket : d ≡ not_carried t w g
  pub known : Known g t

more_records : (g : ℕ) (rs : List Record) (t : ℕ → Status) (w : ℕ → Origin) → Issued g rs t w → not_carried t w g ++ rs ≡ not_carried t w (g + length rs)
unfolding not_carried
more_records g [] t w i = let e : g ≡ g + 0 = omega arith in append-nil (not_carried t w g) ∙ ap (not_carried t w) e
more_records g (r ∷ rs) t w i =
    let one : r ∷ [] ≡ record_for (t (suc g)) (suc g) (w (suc g)) = ap (λ (x : Record). x ∷ []) i.1 ∙ ap (λ (s : Status). record_for s (suc g) (w (suc g))) (sym i.0) in
    let e : suc g + length rs ≡ g + suc (length rs) = omega arith in
    sym (append_assoc (not_carried t w g) (r ∷ []) rs)
    ∙ ap (λ (x : List Record). (not_carried t w g ++ x) ++ rs) one
    ∙ more_records (suc g) rs t w i.2
    ∙ ap (not_carried t w) e

pub track_change : (x : Change) (g : ℕ) (d : List Record) (t t' : ℕ → Status) (w w' : ℕ → Origin) → Makes g t t' w w' x → Track g d t w
    → Track (given_after g x) (docket_after d x) t' w'
track_change unchanged g d t t' w w' u k = record {
  docket = k.docket ∙ same_docket t t' w w' g (λ m lo hi. u.statuses m) (λ m lo hi. u.origins m);
  known = known_unmoved g t t' w w' u k.known;
}
track_change (issues rs) g d t t' w w' i k = record {
  docket =
      ap (λ (x : List Record). x ++ rs) (k.docket ∙ same_docket t t' w w' g (λ m lo hi. i.statuses m hi) (λ m lo hi. i.origins m hi))
      ∙ more_records g rs t' w' i.fresh;
  known = known_issuing g rs t t' w w' i k.known;
}
track_change (restates n p) g d t t' w w' x k = record {
  docket =
      ap (restated n p) k.docket ∙ restate n x.standing p t t' w g x.was x.is x.statuses
      ∙ same_docket t' t' w w' g (λ m lo hi. refl) (λ m lo hi. x.origins m);
  known = known_turning g n (held p) t t' w w' (held≢never p) x k.known;
}
track_change (strikes n a) g d t t' w w' x k = record {
  docket =
      ap (without n) k.docket ∙ strike n a t t' w g x.is x.statuses
      ∙ same_docket t' t' w w' g (λ m lo hi. refl) (λ m lo hi. x.origins m);
  known = known_turning g n (carried a) t t' w w' (carried≢never a) x k.known;
}

-- ---- the docket account

-- the residues of the numbers 1 to g that are not carried, in column k
abbrev pub held_sum : (ℕ → Status) → (ℕ → Origin) → ℕ → ℕ → ℤ
held_sum t w g k = sum_to g (λ n. held_in (t (suc n)) (w (suc n)) k)

-- the residues of new records, numbered from g + 1 on
abbrev pub issued_in : (ℕ → Origin) → ℕ → List Record → ℕ → ℤ
issued_in w g [] k = pos 0
issued_in w g (r ∷ rs) k = residue_in (w (suc g)) k +ℤ issued_in w (suc g) rs k

-- what a change takes into the docket account, where w is how origins are after it
abbrev pub residue_rise : (ℕ → Origin) → ℕ → Change → ℕ → ℤ
residue_rise w g unchanged k = pos 0
residue_rise w g (issues rs) k = issued_in w g rs k
residue_rise w g (restates n p) k = pos 0
residue_rise w g (strikes n a) k = neg_ℤ (residue_in (w n) k)

held_same : (t t' : ℕ → Status) (w w' : ℕ → Origin) (g k : ℕ) → ((n : ℕ) → n ≤ g → t' n ≡ t n) → ((n : ℕ) → n ≤ g → w' n ≡ w n) → held_sum t' w' g k ≡ held_sum t w g k
held_same t t' w w' g k e d =
    sum_same g (λ n. held_in (t' (suc n)) (w' (suc n)) k) (λ n. held_in (t (suc n)) (w (suc n)) k)
    (λ n l. ap₂ (λ (s : Status) (o : Origin). held_in s o k) (e (suc n) (omega arith)) (d (suc n) (omega arith)))

held_more : (g : ℕ) (rs : List Record) (t : ℕ → Status) (w : ℕ → Origin) (k : ℕ) → Issued g rs t w → held_sum t w (g + length rs) k ≡ held_sum t w g k +ℤ issued_in w g rs k
unfolding sum_to
held_more g [] t w k i =
    let z : g + 0 ≡ g = omega arith in
    let e : held_sum t w (g + 0) k ≡ held_sum t w g k = ap (λ (n : ℕ). held_sum t w n k) z in
    omega (arith, ints)
held_more g (r ∷ rs) t w k i =
    let z : g + suc (length rs) ≡ suc g + length rs = omega arith in
    let e : held_sum t w (g + suc (length rs)) k ≡ held_sum t w (suc g + length rs) k = ap (λ (n : ℕ). held_sum t w n k) z in
    let more : held_sum t w (suc g + length rs) k ≡ held_sum t w (suc g) k +ℤ issued_in w (suc g) rs k = held_more (suc g) rs t w k i.2 in
    let one : held_in (t (suc g)) (w (suc g)) k ≡ residue_in (w (suc g)) k = ap (λ (s : Status). held_in s (w (suc g)) k) i.0 in
    let next : held_sum t w (suc g) k ≡ held_sum t w g k +ℤ held_in (t (suc g)) (w (suc g)) k = refl in
    omega (arith, ints)

held_turned : (g n : ℕ) (s : Status) (t t' : ℕ → Status) (w w' : ℕ → Origin) (k : ℕ) → Turning g n s t t' w w'
    → held_sum t' w' g k +ℤ residue_in (w' n) k ≡ held_sum t w g k +ℤ held_in s (w' n) k
held_turned g zero s t t' w w' k x = let lo : 1 ≤ 0 = x.low in absurd (omega arith)
held_turned g (suc n) s t t' w w' k x =
    let hi : suc n ≤ g = x.high in
    let c : held_sum t' w' g k +ℤ held_in (t (suc n)) (w (suc n)) k ≡ held_sum t w g k +ℤ held_in (t' (suc n)) (w' (suc n)) k =
    sum_change g n (λ m. held_in (t (suc m)) (w (suc m)) k) (λ m. held_in (t' (suc m)) (w' (suc m)) k) (omega arith)
    (λ m ne. ap₂ (λ (s : Status) (o : Origin). held_in s o k) (x.statuses (suc m) (omega arith)) (x.origins (suc m))) in
    let a : held_in (t (suc n)) (w (suc n)) k ≡ residue_in (w' (suc n)) k = ap₂ (λ (s : Status) (o : Origin). held_in s o k) x.was (sym (x.origins (suc n))) in
    let b : held_in (t' (suc n)) (w' (suc n)) k ≡ held_in s (w' (suc n)) k = ap (λ (s : Status). held_in s (w' (suc n)) k) x.is in
    omega (arith, ints)

pub held_change : (x : Change) (g : ℕ) (t t' : ℕ → Status) (w w' : ℕ → Origin) (k : ℕ) → Makes g t t' w w' x
    → held_sum t' w' (given_after g x) k ≡ held_sum t w g k +ℤ residue_rise w' g x k
held_change unchanged g t t' w w' k u = let e = held_same t t' w w' g k (λ n _. u.statuses n) (λ n _. u.origins n) in omega (arith, ints)
held_change (issues rs) g t t' w w' k i =
    let e = held_same t t' w w' g k i.statuses i.origins in
    let m = held_more g rs t' w' k i.fresh in
    omega (arith, ints)
held_change (restates n p) g t t' w w' k x = let e = held_turned g n (held p) t t' w w' k x in omega (arith, ints)
held_change (strikes n a) g t t' w w' k x = let e = held_turned g n (carried a) t t' w w' k x in omega (arith, ints)
