-- Openings, and every call in every state. Assumes nothing.
use Rattle.std.proofs.Common.{◌≡◌, ℕ, zero, suc, ◌<◌, Bool, true, false, ◌⊎◌, Some, None, Ok, Err, Option, Result, refl, ap, inl, inr, arith}
use Rattle.std.proofs.lemmas.Bool.{and_parts, and_from}
use Rattle.register.specs.Register.{Refusal, by_book}
use Rattle.ledger.specs.Entries.{is_zero}
use Rattle.ledger.specs.Limits.{columns}
use Rattle.model.specs.declared.record.Record.{Record}
use Rattle.model.specs.Calls.{Call, post, convert, split, carry, park, take_up, sweep, ask}
use Rattle.model.specs.Laws.{Fitness, NeverRefused, EveryCall}
use Rattle.model.specs.Results.{and_then, unless}
use Rattle.model.specs.State.{State, all_below, clear_at}
use Rattle.model.specs.Step.{Movement, parking, slip_record, fitness, movement, performed, step}
use Rattle.model.proofs.Posts.{is_zero_lem}
use Rattle.model.proofs.Runs.{all_below_lem, ways}

-- ---- openings

below_all : (p : ℕ → Bool) (n : ℕ) → ((k : ℕ) → k < n → p k ≡ true) → all_below p n ≡ true
unfolding all_below
below_all p zero f = refl
below_all p (suc n) f = and_from (all_below p n) (p n) (below_all p n (λ k h. f k (omega arith))) (f n (omega arith))

pub fitness_clear : Fitness
fitness_clear = record {
  fits = λ m letter mark c. below_all (clear_at m) columns (λ k h. and_from (is_zero (m.cell 0 k)) (is_zero (m.cell 1 k)) (ap is_zero (c k h).0) (ap is_zero (c k h).1));
  clear = λ m letter mark e k h.
      let b = and_parts (is_zero (m.cell 0 k)) (is_zero (m.cell 1 k)) (all_below_lem (clear_at m) columns e k h) in
      (is_zero_lem (m.cell 0 k) b.0, is_zero_lem (m.cell 1 k) b.1);
}

-- ---- calls

unmoved : (s : State) (c : Call) (refusal : Refusal) → (step s c).0 ≡ Err refusal → (step s c).1 ≡ s
unmoved s c refusal =
    ways s (movement s c) (λ p. p.0 ≡ Err refusal → p.1 ≡ s) (λ f e. refl) (λ v q x t e. let z : ◌≡◌ {A = ℕ} 0 1 = cc in absurd (omega arith))

parks_at : (s : State) (n : ℕ) (o : Option Record) → (r : ℕ) × ((performed s (Ok (parking n o))).0 ≡ Ok r)
parks_at s n None = (0, refl)
parks_at s n (Some x) = (n, refl)

unfit_first : {A : Type 0} (s : State) (next : Unit {0} → Result (Movement A) Refusal) → s.fit ≡ false → performed s (and_then (fitness s) next) ≡ (Err (by_book 1 0), s)
unfit_first s next e = ap (λ (b : Bool). performed s (and_then (unless b 1 0) next)) e

unfit_refuses : (s : State) (c : Call) → s.fit ≡ false → NeverRefused c ⊎ (step s c ≡ (Err (by_book 1 0), s))
unfit_refuses s (post ps) e = inr (unfit_first s _ e)
unfit_refuses s (convert x) e = inr (unfit_first s _ e)
unfit_refuses s (split tie law d shares m n) e = inr (unfit_first s _ e)
unfit_refuses s (carry m n a) e = inr (unfit_first s _ e)
unfit_refuses s (park m n) e = inl tt
unfit_refuses s (take_up n) e = inr (unfit_first s _ e)
unfit_refuses s (sweep a k) e = inr (unfit_first s _ e)
unfit_refuses s (ask q) e = inl tt

pub every_call : EveryCall
every_call = record {
  refused = unmoved;
  answers = λ s q. refl;
  parks = λ s m n. parks_at s n (slip_record s m n);
  unfit = unfit_refuses;
  keeps = λ s c. ways s (movement s c) (λ p. (p.1.kind ≡ s.kind) × (p.1.fit ≡ s.fit) × (p.1.mark ≡ s.mark)) (λ f. (refl, refl, refl)) (λ v q x t. (refl, refl, refl));
}
