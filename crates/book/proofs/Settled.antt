-- What the ledger answers to a proposed entry settles the call. Assumes nothing.
use Rattle.std.proofs.Common.{◌≡◌, Ok, Err, Result, sym, refl, ap, ◌∙◌}
use Rattle.register.specs.Register.{Refusal}
use Rattle.ledger.specs.declared.entry.Entry.{Entry}
use Rattle.ledger.specs.Held.{legs_of}
use Rattle.ledger.specs.Meaning.{Meaning, entered, after, verdict, settled as ledger_settled}
use Rattle.model.specs.Calls.{Call}
use Rattle.model.specs.State.{State}
use Rattle.model.specs.Step.{Movement, unchanged, ledger_verdict, movement, performed, settled, step}
use Rattle.book.specs.Proposals.{entering}

-- the state with another ledger
abbrev pub holding : State → Meaning → State
holding s m = record { ledger = m; kind = s.kind; fit = s.fit; mark = s.mark; given = s.given; docket = s.docket }

module _ {A : Type 0} (s : State) (x : A) (e : Entry) (p : Result (Movement A) Refusal) (m : Meaning) (proposed : Ok (entering x e unchanged) ≡ p) where
  -- the ledger takes the entry
  pub taken_settles : (y : A) → y ≡ x → Ok tt ≡ verdict s.ledger (legs_of e) → m ≡ after s.ledger (legs_of e) → (Ok y, holding s m) ≡ performed s p
  taken_settles y same ok is =
      let grown : m ≡ entered s.ledger (legs_of e) = is ∙ ap (λ r. ledger_settled r (entered s.ledger (legs_of e)) s.ledger) (sym ok) in
      (λ i. (Ok (same i), holding s (grown i))) ∙ ap (settled s (entering x e unchanged)) ok ∙ ap (performed s) proposed

  -- the ledger refuses it
  pub refused_settles : (f : Refusal) → Err f ≡ verdict s.ledger (legs_of e) → m ≡ s.ledger → (Err f, holding s m) ≡ performed s p
  refused_settles f refuses is = (λ i. (Err f, holding s (is i))) ∙ ap (settled s (entering x e unchanged)) refuses ∙ ap (performed s) proposed

-- no call changes the mark
settled_mark : {A : Type 0} (s : State) (v : Movement A) (r : Result (Unit {0}) Refusal) → (settled s v r).1.mark ≡ s.mark
settled_mark s v (Ok taken) = refl
settled_mark s v (Err refusal) = refl

performed_mark : {A : Type 0} (s : State) (p : Result (Movement A) Refusal) → (performed s p).1.mark ≡ s.mark
performed_mark s (Ok v) = settled_mark s v (ledger_verdict s.ledger v.legs)
performed_mark s (Err refusal) = refl

pub step_mark : (s : State) (c : Call) → (step s c).1.mark ≡ s.mark
step_mark s c = performed_mark s (movement s c)
