-- The law of every run, by one induction over its calls. Assumes nothing.
use Rattle.std.proofs.Common.{◌≡◌, ℕ, zero, suc, ◌+◌, ◌<◌, ◌≤◌, Bool, true, List, [], ◌∷◌, ◌++◌, ℤ, pos, Ok, Err, Result, sym, refl, ap, ◌∙◌, subst, ⊎_elim, append-nil, arith}
use borrow.Author.Differences.{ints}
use Rattle.std.proofs.lemmas.Bool.{and_parts}
use Rattle.register.specs.Register.{Refusal}
use Rattle.money.specs.declared.currency.Currency.{Currency}
use Rattle.money.specs.declared.currency.Currency.TheVariants.{Euro, National as Of}
use Rattle.money.specs.Table.{table}
use Rattle.ledger.specs.Entries.{is_zero}
use Rattle.ledger.specs.Legs.{sum_to}
use Rattle.ledger.specs.Limits.{columns}
use Rattle.ledger.specs.Meaning.{Meaning}
use Rattle.ledger.proofs.Columns.{national_bounds}
use Rattle.ledger.proofs.Rises.{by_equal, sum_zero}
use Rattle.model.specs.Calls.{Call, post, convert, split, carry, park, take_up, sweep, ask, Reply}
use Rattle.model.specs.Conservation.{money_columns, EachAccepted, CarriedOnce, HoldsResidues, Exact, Conserved, ConservedFrom, Conservation, StillConserved, ConservedThrough}
use Rattle.model.specs.History.{Event, event, after, events, Status, never, held, carried, status, Origin, origin, numbers_given, carries_of, residue_at, held_in, not_carried, risen, legs_taken}
use Rattle.model.specs.State.{State, all_below, clear_at, opened}
use Rattle.model.specs.Step.{Movement, movement, ledger_verdict, moved, settled, performed, step}
use Rattle.model.proofs.Accepted.{ok_same}
use Rattle.model.proofs.Carries.{carry_accepted, park_accepted, take_up_accepted, ask_accepted}
use Rattle.model.proofs.Changes.{held_sum}
use Rattle.model.proofs.Converts.{convert_accepted}
use Rattle.model.proofs.Kept.{Sound, Kept, kept_step, kept_refused, exact_start, exact_refused, exact_step}
use Rattle.model.proofs.Legs.{at_off}
use Rattle.model.proofs.Posts.{post_accepted, is_zero_lem}
use Rattle.model.proofs.Slips.{AllowedThen, after_carry}
use Rattle.model.proofs.Splits.{split_accepted}
use Rattle.model.proofs.Sums.{sum_same}
use Rattle.model.proofs.Sweeps.{sweep_accepted}

-- ---- a step: refused, or a movement

ways_ledger : {A : Type 0} (s : State) (v : Movement A) (r : Result (Unit {0}) Refusal) (P : Result A Refusal × State → Type 0)
    → ((f : Refusal) → P (Err f, s)) → ((x : Unit {0}) → r ≡ Ok x → P (Ok v.answer, moved s v)) → P (settled s v r)
ways_ledger s v (Ok x) P stay go = go x refl
ways_ledger s v (Err f) P stay go = stay f

pub ways : {A : Type 0} (s : State) (r : Result (Movement A) Refusal) (P : Result A Refusal × State → Type 0)
    → ((f : Refusal) → P (Err f, s)) → ((v : Movement A) → r ≡ Ok v → (x : Unit {0}) → ledger_verdict s.ledger v.legs ≡ Ok x → P (Ok v.answer, moved s v)) → P (performed s r)
ways s (Ok v) P stay go = ways_ledger s v (ledger_verdict s.ledger v.legs) P stay (go v refl)
ways s (Err f) P stay go = stay f

-- every call meets what it owes
sound : (o s : State) (h : List Event) (c : Call) (v : Movement (Reply c)) → Kept o s h → movement s c ≡ Ok v → Sound o s h c v
sound o s h (post ps) v k e = post_accepted o s h ps v e
sound o s h (convert x) v k e = convert_accepted o s h x v k e
sound o s h (split tie law d shares m n) v k e = split_accepted o s h tie law d shares m n v e
sound o s h (carry m n a) v k e = carry_accepted o s h m n a v k e
sound o s h (park m n) v k e = park_accepted o s h m n v k (ok_same _ v e)
sound o s h (take_up n) v k e = take_up_accepted o s h n v k e
sound o s h (sweep a j) v k e = sweep_accepted o s h a j v k e
sound o s h (ask q) v k e = ask_accepted o s h q v k (ok_same _ v e)

-- ---- along a run from the state s with the history h

kept_from : (o s : State) (h : List Event) → Kept o s h → (cs : List Call) → Kept o (after s cs) (events s cs ++ h)
unfolding after events
kept_from o s h k [] = k
kept_from o s h k (c ∷ cs) =
    let u : State = after s cs in
    let g : List Event = events s cs ++ h in
    let i : Kept o u g = kept_from o s h k cs in
    ways u (movement u c) (λ p. Kept o p.1 (event c p.0 ∷ g)) (λ f. kept_refused o u g c f i) (λ v e x t. kept_step o u g c v x t (sound o u g c v i e) i)

exact_from_lem : (o s : State) (h : List Event) → Kept o s h → (cs : List Call) → Exact s (after s cs) (events s cs)
unfolding after events
exact_from_lem o s h k [] = exact_start s
exact_from_lem o s h k (c ∷ cs) =
    let u : State = after s cs in
    let g : List Event = events s cs in
    let x : Exact s u g = exact_from_lem o s h k cs in
    let i : Kept o u (g ++ h) = kept_from o s h k cs in
    ways u (movement u c) (λ p. Exact s p.1 (event c p.0 ∷ g)) (λ f. exact_refused s u g c f x) (λ v e _ _. exact_step o s u (g ++ h) g c v (sound o u (g ++ h) c v i e) x)

-- ---- a book that opens fit

pub all_below_lem : (p : ℕ → Bool) (n : ℕ) → all_below p n ≡ true → (k : ℕ) → k < n → p k ≡ true
unfolding all_below
all_below_lem p zero e k h = absurd (omega arith)
all_below_lem p (suc n) e k h =
    let b = and_parts (all_below p n) (p n) e in
    by_equal k n (λ q. subst (λ (m : ℕ). p m ≡ true) (sym q) b.1) (λ ne. all_below_lem p n b.0 k (omega arith))

clear : (m : Meaning) → all_below (clear_at m) columns ≡ true → (k : ℕ) → k < columns → m.cell 1 k ≡ pos 0
clear m e k h = is_zero_lem (m.cell 1 k) (and_parts (is_zero (m.cell 0 k)) (is_zero (m.cell 1 k)) (all_below_lem (clear_at m) columns e k h)).1

start : (m : Meaning) (kind mark : ℕ) → (opened m kind mark).fit ≡ true → Kept (opened m kind mark) (opened m kind mark) []
unfolding status numbers_given carries_of risen legs_taken not_carried sum_to
start m kind mark e = record {
  kind = refl;
  fit = e;
  mark = refl;
  count = refl;
  track = record { docket = refl; known = record { later = λ n h. refl; zeroth = refl; born = λ n lo hi z. omega arith } };
  numbers = refl;
  once = λ n. refl;
  allows = tt;
  residues = λ k h. clear m e k h;
  totals = λ k. refl;
  cells = λ a k. omega (arith, ints);
  room = omega arith;
  answers = tt;
  splits = tt;
}

-- ---- the law

-- no fraction stands in a money column
no_fraction : (base : ℕ) (c : Currency) (z : ℤ) (k : ℕ) → 11 ≤ base → k < money_columns → residue_at base c z k ≡ pos 0
no_fraction base Euro z k b h = refl
no_fraction base (Of i) z k b h = let n = national_bounds i in at_off (base + (table i).number) k z (omega (arith, n.0))

no_money : (t : Status) (w : Origin) (k : ℕ) → k < money_columns → held_in t w k ≡ pos 0
no_money never w k h = refl
no_money (held p) w k h =
    let a = no_fraction 11 w.from w.euro k (omega arith) h in
    let b = no_fraction 22 w.to w.national k (omega arith) h in
    omega (arith, ints)
no_money (carried a) w k h = refl

none_held : (t : ℕ → Status) (w : ℕ → Origin) (g k : ℕ) → k < money_columns → held_sum t w g k ≡ pos 0
none_held t w g k h = sum_same g (λ n. held_in (t (suc n)) (w (suc n)) k) (λ n. pos 0) (λ n _. no_money (t (suc n)) (w (suc n)) k h) ∙ sum_zero g

carried_once_lem : (o s : State) (h : List Event) → Kept o s h → CarriedOnce h
carried_once_lem o s h k = record {
  known = λ n lo hi. k.track.known.born n lo (subst (λ (m : ℕ). n ≤ m) (sym k.count) hi);
  unknown = λ n w. ⊎_elim
      (λ e. ap (status h) e ∙ k.track.known.zeroth)
      (λ l. k.track.known.later n (subst (λ (m : ℕ). m < n) (sym k.count) l))
      w;
  once = k.once;
  final = λ later earlier mark n a e. (after_carry later earlier mark n a (subst (EachAccepted AllowedThen) e k.allows)).1;
}

holds_residues : (o s : State) (h : List Event) → Kept o s h → HoldsResidues s h
holds_residues o s h k = record {
  fractions = λ j lo hi. k.residues j hi ∙ ap (λ (g : ℕ). held_sum (status h) (origin h) g j) k.count;
  money = λ j lo. k.residues j (omega arith) ∙ none_held (status h) (origin h) s.given j lo;
}

conserved : (o s u : State) (h g : List Event) → Exact s u g → Kept o u (g ++ h) → Conserved o s u h g
conserved o s u h g x k = record {
  answers = k.answers;
  numbered = k.numbers;
  carried_once = carried_once_lem o u (g ++ h) k;
  docket = k.track.docket ∙ ap (not_carried (status (g ++ h)) (origin (g ++ h))) k.count;
  fractions_between = x;
  docket_account = holds_residues o u (g ++ h) k;
  column_totals = k.totals;
  cell_rises = k.cells;
  room_falls = k.room;
  splits = k.splits;
}

conserved_at : (m : Meaning) (kind mark : ℕ) → (opened m kind mark).fit ≡ true → (before since : List Call)
    → Conserved (opened m kind mark) (after (opened m kind mark) before) (after (after (opened m kind mark) before) since)
    (events (opened m kind mark) before) (events (after (opened m kind mark) before) since)
conserved_at m kind mark e before since =
    let o : State = opened m kind mark in
    let s : State = after o before in
    let h : List Event = events o before in
    let k : Kept o s h = subst (Kept o s) (append-nil h) (kept_from o o [] (start m kind mark e) before) in
    conserved o s (after s since) h (events s since) (exact_from_lem o s h k since) (kept_from o s h k since)

pub conservation : Conservation
conservation m kind mark = record { always = conserved_at m kind mark }

one_more : (s : State) (c : Call) (r : Result (Reply c) Refusal) (s' : State) → ◌≡◌ {A = Result (Reply c) Refusal × State} (r, s') (step s c)
    → (m : Meaning) (kind mark : ℕ) → (opened m kind mark).fit ≡ true → (before since : List Call) → after (after (opened m kind mark) before) since ≡ s
    → Conserved (opened m kind mark) (after (opened m kind mark) before) s' (events (opened m kind mark) before) (event c r ∷ events (after (opened m kind mark) before) since)
unfolding after events
one_more s c r s' e m kind mark fit before since reached =
    let o : State = opened m kind mark in
    let u : State = after o before in
    let told : ◌≡◌ {A = Result (Reply c) Refusal × State} (step (after u since) c) (r, s') = ap (λ (t : State). step t c) reached ∙ sym e in
    subst (λ (p : Result (Reply c) Refusal × State). Conserved o u p.1 (events o before) (event c p.0 ∷ events u since)) told
    (conserved_at m kind mark fit before (c ∷ since))

-- a call that answers and leaves what the step says keeps the law
pub still_conserved : (s : State) (c : Call) (r : Result (Reply c) Refusal) (s' : State) → ◌≡◌ {A = Result (Reply c) Refusal × State} (r, s') (step s c) → StillConserved s c r s'
still_conserved s c r s' e = record { always = one_more s c r s' e }

-- a book as it opens has the law
pub opened_conserves : (s : State) (m : Meaning) (kind mark : ℕ) → s ≡ opened m kind mark → ConservedFrom s
opened_conserves s m kind mark e = subst ConservedFrom (sym e) (conservation m kind mark)

-- ---- calls one after another

pub after-append : (s : State) (cs ds : List Call) → after s (cs ++ ds) ≡ after (after s ds) cs
unfolding after
after-append s [] ds = refl
after-append s (c ∷ cs) ds = ap (λ (t : State). (step t c).1) (after-append s cs ds)

pub events-append : (s : State) (cs ds : List Call) → events s (cs ++ ds) ≡ events (after s ds) cs ++ events s ds
unfolding after events
events-append s [] ds = refl
events-append s (c ∷ cs) ds =
    let t : after s (cs ++ ds) ≡ after (after s ds) cs = after-append s cs ds in
    let h : events s (cs ++ ds) ≡ events (after s ds) cs ++ events s ds = events-append s cs ds in
    λ i. event c (step (t i) c).0 ∷ h i

many_more : (s : State) (cs : List Call) (s' : State) → s' ≡ after s cs
    → (m : Meaning) (kind mark : ℕ) → (opened m kind mark).fit ≡ true → (before since : List Call) → after (after (opened m kind mark) before) since ≡ s
    → Conserved (opened m kind mark) (after (opened m kind mark) before) s' (events (opened m kind mark) before) (events s cs ++ events (after (opened m kind mark) before) since)
many_more s cs s' e m kind mark fit before since reached =
    let o : State = opened m kind mark in
    let u : State = after o before in
    let state : after u (cs ++ since) ≡ s' = after-append u cs since ∙ ap (λ (t : State). after t cs) reached ∙ sym e in
    let history : events u (cs ++ since) ≡ events s cs ++ events u since = events-append u cs since ∙ ap (λ (t : State). events t cs ++ events u since) reached in
    subst (λ (h : List Event). Conserved o u s' (events o before) h) history
    (subst (λ (t : State). Conserved o u t (events o before) (events u (cs ++ since))) state (conserved_at m kind mark fit before (cs ++ since)))

-- calls that leave what their steps say keep the law
pub conserved_through : (s : State) (cs : List Call) (s' : State) → s' ≡ after s cs → ConservedThrough s cs s'
conserved_through s cs s' e = record { always = many_more s cs s' e }
