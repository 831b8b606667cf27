-- Requests leave no slip out. Assumes nothing.
use Rattle.std.proofs.Common.{◌≡◌, ℕ, zero, suc, true, cond, eqb, List, [], ◌∷◌, ◌++◌, Some, None, Ok, Err, Option, Result, sym, refl, ap, ◌∙◌, subst, inl, ⊎_elim, arith}
use Rattle.std.proofs.lemmas.Bool.{cases_eq, eq-eqb, ne_eqb, cond-true, cond-false}
use Rattle.register.specs.Register.{Refusal}
use Rattle.money.specs.declared.quantity.Minor.{Minor}
use Rattle.ledger.specs.Meaning.{Meaning}
use Rattle.model.specs.declared.record.Standing.TheVariants.{Out, Parked}
use Rattle.model.specs.declared.request.Exchange.{Exchange}
use Rattle.model.specs.Calls as calls
use Rattle.model.specs.Calls.{Call, Reply}
use Rattle.model.specs.Conservation.{EachAccepted, Due, Ours, Conserved}
use Rattle.model.specs.History.{Event, event, after, events, Mention, none, gives, parking_of, mention, Status, never, held, carried as carried_to, becomes, status}
use Rattle.model.specs.State.{State, opened}
use Rattle.model.specs.Step.{step}
use Rattle.model.proofs.EveryCall.{every_call}
use Rattle.model.proofs.Runs.{conservation}
use Rattle.reader.specs.Requests.{Asked, post, convert, split, carry, sweep, read_line}
use Rattle.requests.specs.Laws.{NoneOut, LeavesNoneOut}
use Rattle.requests.specs.Requests.{Rule, parked, handed_back, taken_up, request_calls, read_calls, line_calls}

-- at most the number m is out
abbrev OnlyOut : List Event → ℕ → Type 0
OnlyOut h m = (n : ℕ) → status h n ≡ held Out → n ≡ m

not_held_out : (t : Status) → t ≡ never → t ≡ held Out → ⊥
not_held_out t e f = let z : ◌≡◌ {A = ℕ} 0 1 = cc in omega arith

parked_not_out : held Parked ≡ held Out → ⊥
parked_not_out e = let z : ◌≡◌ {A = ℕ} 0 1 = cc in omega arith

carried_not_out : (a : ℕ) → carried_to a ≡ held Out → ⊥
carried_not_out a e = let z : ◌≡◌ {A = ℕ} 0 1 = cc in omega arith

-- ---- what one call says of a number

module _ (h : List Event) where
  -- a call that is refused, or that speaks of no number
  refused_none : (c : Call) (f : Refusal) → NoneOut h → NoneOut (event c (Err f) ∷ h)
  unfolding status
  refused_none c f free = free

  refused_only : (c : Call) (f : Refusal) (m : ℕ) → OnlyOut h m → OnlyOut (event c (Err f) ∷ h) m
  unfolding status
  refused_only c f m only = only

  silent : (c : Call) (r : Result (Reply c) Refusal) → ((x : Reply c) → mention c x ≡ none) → NoneOut h → NoneOut (event c r ∷ h)
  unfolding status
  silent c (Ok x) says free = λ n e. free n (ap (λ (k : Mention). becomes k n (status h n)) (sym (says x)) ∙ e)
  silent c (Err f) says free = free

  -- one number becomes out
  becomes_out : (m n : ℕ) (t : Status) → (t ≡ held Out → ⊥) → becomes (gives m) n t ≡ held Out → n ≡ m
  becomes_out m n t free e = ⊎_elim (λ (q : m ≡ n). sym q) (λ (q : m ≡ n → ⊥). absurd (free (sym (cond-false _ (held Out) t (ne_eqb m n q)) ∙ e))) (cases_eq m n)

  given_only : (x : Exchange) (b : Minor) (m : ℕ) → NoneOut h → OnlyOut (event (calls.convert x) (Ok (b, m)) ∷ h) m
  unfolding status
  given_only x b m free = λ n e. becomes_out m n (status h n) (free n) e

  retaken_only : (k m : ℕ) → NoneOut h → OnlyOut (event (calls.take_up k) (Ok m) ∷ h) m
  unfolding status
  retaken_only k m free = λ n e. becomes_out m n (status h n) (free n) e

  -- the number that is out becomes something else
  becomes_other : (m n : ℕ) (t s : Status) → (s ≡ held Out → ⊥) → (t ≡ held Out → n ≡ m) → ◌≡◌ {A = Status} (cond (eqb m n) s t) (held Out) → ⊥
  becomes_other m n t s other only e =
      ⊎_elim (λ (q : m ≡ n). other (sym (cond-true _ s t (eq-eqb m n q)) ∙ e)) (λ (q : m ≡ n → ⊥). q (sym (only (sym (cond-false _ s t (ne_eqb m n q)) ∙ e)))) (cases_eq m n)

  carried_none : (mark m a : ℕ) → OnlyOut h m → NoneOut (event (calls.carry mark m a) (Ok tt) ∷ h)
  unfolding status
  carried_none mark m a only = λ n e. becomes_other m n (status h n) (carried_to a) (carried_not_out a) (only n) e

  -- a parking that answers 0 speaks of no number
  answers_zero : (mark m k n : ℕ) → k ≡ 0 → status (event (calls.park mark m) (Ok k) ∷ h) n ≡ held Out → status h n ≡ held Out
  unfolding status
  answers_zero mark m k n z e = ap (λ (j : ℕ). becomes (parking_of j) n (status h n)) (sym z) ∙ e

  parked_none : (o : State) (mark m k : ℕ) → mark ≡ o.mark → status h 0 ≡ never → OnlyOut h m → Due o h (calls.park mark m) k → NoneOut (event (calls.park mark m) (Ok k) ∷ h)
  unfolding status
  parked_none o mark zero k same zeroth only due = λ n e.
      let z : k ≡ 0 = ⊎_elim (λ (q : (k ≡ 0) × Ours o h mark 0). q.0) (λ (q : (k ≡ 0) × (Ours o h mark 0 → ⊥)). q.0) due in
      let out : status h n ≡ held Out = answers_zero mark 0 k n z e in
      not_held_out (status h 0) zeroth (ap (status h) (sym (only n out)) ∙ out)
  parked_none o mark (suc m) k same zeroth only due = λ n e.
      ⊎_elim
      (λ (q : (k ≡ suc m) × Ours o h mark (suc m)). becomes_other (suc m) n (status h n) (held Parked) parked_not_out (only n) (ap (λ (j : ℕ). becomes (parking_of j) n (status h n)) (sym q.0) ∙ e))
      (λ (q : (k ≡ 0) × (Ours o h mark (suc m) → ⊥)).
      let out : status h n ≡ held Out = answers_zero mark (suc m) k n q.0 e in
      q.1 (same, ap (status h) (sym (only n out)) ∙ out))
      due

-- ---- calls on a book that opened fit

after_mark : (o : State) (cs : List Call) → (after o cs).mark ≡ o.mark
unfolding after
after_mark o [] = refl
after_mark o (c ∷ cs) = (every_call.keeps (after o cs) c).2 ∙ after_mark o cs

module _ (m : Meaning) (letter mark : ℕ) (fit : (opened m letter mark).fit ≡ true) (before : List Call) where
  abbrev o : State
  o = opened m letter mark

  abbrev s : State
  s = after o before

  abbrev h : List Event
  h = events o before

  law : (since : List Call) → Conserved o s (after s since) h (events s since)
  law since = (conservation m letter mark).always fit before since

  -- a parking that ends the number that is out
  park_none : (since : List Call) (n : ℕ) → OnlyOut (events s since ++ h) n → NoneOut (events s (calls.park s.mark n ∷ since) ++ h)
  unfolding events after
  park_none since n only =
      let t : State = after s since in
      let g : List Event = events s since ++ h in
      let p = every_call.parks t s.mark n in
      let due : EachAccepted (Due o) (event (calls.park s.mark n) (Ok p.0) ∷ g) = subst (λ (r : Result ℕ Refusal). EachAccepted (Due o) (event (calls.park s.mark n) r ∷ g)) p.1 (law (calls.park s.mark n ∷ since)).answers in
      subst (λ (r : Result ℕ Refusal). NoneOut (event (calls.park s.mark n) r ∷ g)) (sym p.1)
      (parked_none g o s.mark n p.0 (after_mark o before) ((law since).carried_once.unknown 0 (inl refl)) only due.0)

  one_silent : (c : Call) → ((x : Reply c) → mention c x ≡ none) → NoneOut h → NoneOut (events s (c ∷ []) ++ h)
  unfolding events after
  one_silent c says free = silent h c (step s c).0 says free

  convert_none : (x : Exchange) (r : Result (Minor × ℕ) Refusal) → r ≡ (step s (calls.convert x)).0 → NoneOut h → NoneOut (events s (parked s r ++ (calls.convert x ∷ [])) ++ h)
  unfolding events after
  convert_none x (Ok given) e free =
      park_none (calls.convert x ∷ []) given.1 (subst (λ (r : Result (Minor × ℕ) Refusal). OnlyOut (event (calls.convert x) r ∷ h) given.1) e (given_only h x given.0 given.1 free))
  convert_none x (Err f) e free = subst (λ (r : Result (Minor × ℕ) Refusal). NoneOut (event (calls.convert x) r ∷ h)) e (refused_none h (calls.convert x) f free)

  module _ (n a : ℕ) where
    abbrev t : State
    t = (step s (calls.take_up n)).1

    abbrev taken : List Event
    taken = event (calls.take_up n) (step s (calls.take_up n)).0 ∷ h

    settle_none : (k : ℕ) (q : Result (Unit {0}) Refusal) → q ≡ (step t (calls.carry s.mark k a)).0 → OnlyOut taken k → NoneOut (events s ((handed_back s k q ++ (calls.carry s.mark k a ∷ [])) ++ (calls.take_up n ∷ [])) ++ h)
    unfolding events after
    settle_none k (Ok done) e only = subst (λ (r : Result (Unit {0}) Refusal). NoneOut (event (calls.carry s.mark k a) r ∷ taken)) e (carried_none taken s.mark k a only)
    settle_none k (Err f) e only =
        park_none (calls.carry s.mark k a ∷ calls.take_up n ∷ []) k (subst (λ (r : Result (Unit {0}) Refusal). OnlyOut (event (calls.carry s.mark k a) r ∷ taken) k) e (refused_only taken (calls.carry s.mark k a) f k only))

    carry_none : (r : Result ℕ Refusal) → r ≡ (step s (calls.take_up n)).0 → NoneOut h → NoneOut (events s (taken_up s t a r ++ (calls.take_up n ∷ [])) ++ h)
    unfolding events after
    carry_none (Ok k) e free = settle_none k (step t (calls.carry s.mark k a)).0 refl (subst (λ (r : Result ℕ Refusal). OnlyOut (event (calls.take_up n) r ∷ h) k) e (retaken_only h n k free))
    carry_none (Err f) e free = subst (λ (r : Result ℕ Refusal). NoneOut (event (calls.take_up n) r ∷ h)) e (refused_none h (calls.take_up n) f free)

  request_none : (rule : Rule) (q : Asked) → NoneOut h → NoneOut (events s (request_calls rule s q) ++ h)
  request_none rule (post ps) free = one_silent (calls.post ps) (λ x. refl) free
  request_none rule (convert x) free = convert_none x (step s (calls.convert x)).0 refl free
  request_none rule (split d shares) free = one_silent (calls.split rule.tie rule.law d shares 15 15) (λ x. refl) free
  request_none rule (carry n a) free = carry_none n a (step s (calls.take_up n)).0 refl free
  request_none rule (sweep a k) free = one_silent (calls.sweep a k) (λ x. refl) free

  read_none : (rule : Rule) (r : Result (Option Asked) Refusal) → NoneOut h → NoneOut (events s (read_calls rule s r) ++ h)
  unfolding events
  read_none rule (Ok None) free = free
  read_none rule (Ok (Some q)) free = request_none rule q free
  read_none rule (Err f) free = free

pub line_leaves_none_out : (rule : Rule) (u : State) (line : List ℕ) → LeavesNoneOut u (line_calls rule u line)
line_leaves_none_out rule u line = record {
  parked = λ m letter mark fit before reached free. subst (λ (t : State). NoneOut (events t (line_calls rule t line) ++ events (opened m letter mark) before)) reached (read_none m letter mark fit before rule (read_line line) free);
}
