-- Calls on slips one after another, as the requests tell them. Assumes nothing.
use Rattle.std.proofs.Common.{◌≡◌, ℕ, [], ◌∷◌, ◌++◌, Ok, Err, Result, sym, ap, ◌∙◌}
use Rattle.register.specs.Register.{Refusal}
use Rattle.money.specs.declared.quantity.Minor.{Minor}
use Rattle.model.specs.declared.request.Exchange.{Exchange}
use Rattle.model.specs.Calls.{Call, Reply, convert, carry, park, take_up}
use Rattle.model.specs.History.{after}
use Rattle.model.specs.State.{State}
use Rattle.model.specs.Step.{step}
use Rattle.requests.specs.Requests.{parked, conversion_calls, handed_back, taken_up, carry_calls, carried}

-- what a call did, as its step says
abbrev pub Did : State → (c : Call) → Result (Reply c) Refusal → State → Type 0
Did s c r t = ◌≡◌ {A = Result (Reply c) Refusal × State} (r, t) (step s c)

pub answered : (s : State) (c : Call) (r : Result (Reply c) Refusal) (t : State) → Did s c r t → r ≡ (step s c).0
answered s c r t e = λ i. (e i).0

pub left : (s : State) (c : Call) (r : Result (Reply c) Refusal) (t : State) → Did s c r t → t ≡ (step s c).1
left s c r t e = λ i. (e i).1

-- one call
pub one_call : (s : State) (c : Call) (r : Result (Reply c) Refusal) (t : State) → Did s c r t → t ≡ after s (c ∷ [])
unfolding after
one_call s c r t e = left s c r t e

-- a call and one that followed it
pub two_calls : (s t u : State) (c d : Call) (r : Result (Reply c) Refusal) (q : Result (Reply d) Refusal) → Did s c r t → Did t d q u → u ≡ after s (d ∷ c ∷ [])
unfolding after
two_calls s t u c d r q e f = left t d q u f ∙ ap (λ (v : State). (step v d).1) (left s c r t e)

pub three_calls : (s t u v : State) (c d f : Call) (r : Result (Reply c) Refusal) (q : Result (Reply d) Refusal) (p : Result (Reply f) Refusal) → Did s c r t → Did t d q u → Did u f p v → v ≡ after s (f ∷ d ∷ c ∷ [])
unfolding after
three_calls s t u v c d f r q p x y z = left u f p v z ∙ ap (λ (w : State). (step w f).1) (two_calls s t u c d r q x y)

-- ---- a conversion

module _ (s t : State) (x : Exchange) where
  pub conversion_refused : (f : Refusal) → Did s (convert x) (Err f) t → t ≡ after s (conversion_calls s x)
  conversion_refused f e =
      one_call s (convert x) (Err f) t e
      ∙ ap (λ (r : Result (Minor × ℕ) Refusal). after s (parked s r ++ (convert x ∷ []))) (answered s (convert x) (Err f) t e)

  pub conversion_parked : (b : Minor) (n m k : ℕ) (u : State) → Did s (convert x) (Ok (b, n)) t → m ≡ s.mark → Did t (park m n) (Ok k) u → u ≡ after s (conversion_calls s x)
  conversion_parked b n m k u e same f =
      two_calls s t u (convert x) (park m n) (Ok (b, n)) (Ok k) e f
      ∙ ap (λ (j : ℕ). after s (park j n ∷ convert x ∷ [])) same
      ∙ ap (λ (r : Result (Minor × ℕ) Refusal). after s (parked s r ++ (convert x ∷ []))) (answered s (convert x) (Ok (b, n)) t e)

-- ---- a carry

module _ (s t : State) (n a : ℕ) where
  -- what the take-up answered and left, in the calls and in the answer
  calls_by : (r : Result ℕ Refusal) → Did s (take_up n) r t → after s (taken_up s t a r ++ (take_up n ∷ [])) ≡ after s (carry_calls s n a)
  calls_by r e = λ i. after s (taken_up s (e i).1 a (e i).0 ++ (take_up n ∷ []))

  pub not_taken_up : (f : Refusal) → Did s (take_up n) (Err f) t → t ≡ after s (carry_calls s n a)
  not_taken_up f e = one_call s (take_up n) (Err f) t e ∙ calls_by (Err f) e

  pub not_taken_up_answer : (f : Refusal) → Did s (take_up n) (Err f) t → Err f ≡ carried s n a
  not_taken_up_answer f e = rw (sym (answered s (take_up n) (Err f) t e))

  module _ (k m : ℕ) (e : Did s (take_up n) (Ok k) t) (same : m ≡ s.mark) where
    pub carry_answer_lem : (r : Result (Unit {0}) Refusal) (u : State) → Did t (carry m k a) r u → r ≡ carried s n a
    carry_answer_lem r u f =
        answered t (carry m k a) r u f
        ∙ ap (λ (j : ℕ). (step t (carry j k a)).0) same
        ∙ (λ i. (step (e i).1 (carry s.mark k a)).0)
        ∙ rw (sym (answered s (take_up n) (Ok k) t e))

    handed : (r : Result (Unit {0}) Refusal) (u : State) → Did t (carry m k a) r u → after s ((handed_back s k r ++ (carry s.mark k a ∷ [])) ++ (take_up n ∷ [])) ≡ after s (carry_calls s n a)
    handed r u f =
        ap (λ (q : Result (Unit {0}) Refusal). after s ((handed_back s k q ++ (carry s.mark k a ∷ [])) ++ (take_up n ∷ []))) (answered t (carry m k a) r u f ∙ ap (λ (j : ℕ). (step t (carry j k a)).0) same)
        ∙ calls_by (Ok k) e

    pub carry_accepted : (u : State) → Did t (carry m k a) (Ok tt) u → u ≡ after s (carry_calls s n a)
    carry_accepted u f =
        two_calls s t u (take_up n) (carry m k a) (Ok k) (Ok tt) e f
        ∙ ap (λ (j : ℕ). after s (carry j k a ∷ take_up n ∷ [])) same
        ∙ handed (Ok tt) u f

    pub carry_refused : (g : Refusal) (u v : State) (j : ℕ) → Did t (carry m k a) (Err g) u → Did u (park m k) (Ok j) v → v ≡ after s (carry_calls s n a)
    carry_refused g u v j f p =
        three_calls s t u v (take_up n) (carry m k a) (park m k) (Ok k) (Err g) (Ok j) e f p
        ∙ ap (λ (i : ℕ). after s (park i k ∷ carry i k a ∷ take_up n ∷ [])) same
        ∙ handed (Err g) u f
