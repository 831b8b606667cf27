-- What is read of a stream, and what the stream holds. Assumes nothing.
use Rattle.std.proofs.Common.{◌≡◌, ℕ, ◌+◌, ◌≤◌, ◌<◌, true, false, leb, List, [], ◌++◌, length, take, Some, None, Ok, Err, Option, Result, IfSome, OnOk, sym, refl, ap, ◌∙◌, subst, arith}
use Rattle.std.proofs.lemmas.List.{length-take, take_all}
use Rattle.std.proofs.lemmas.Bool.{leb-true, leb-false, le-leb, lt-leb, cond-true, cond-false}
use Rattle.std.specs.Option.{option_map}
use Rattle.std.specs.Io.KnownBytes.{Appends}
use Rattle.register.specs.Register.{by_reader}
use Rattle.model.specs.History.{after}
use Rattle.model.specs.State.{State}
use Rattle.reader.specs.Lines.{lines_of}
use Rattle.requests.specs.Requests.{Rule}
use Rattle.runner.specs.Answers.{most_input, answer_line, lines_text, input_calls}
use Rattle.runner.specs.Progress.{SomeDone}
use Rattle.runner.specs.Transcript.{transcript_of}
use Rattle.runner.proofs.Steps.{all_stopped, none_done}

-- either all is read, or enough to show that it is too long
by_length : {P : Type 0} (bs : List ℕ) → (length bs ≤ most_input → P) → (most_input < length bs → P) → P
by_length {P} bs f g =
    (elim (leb (length bs) most_input) as (λ b. leb (length bs) most_input ≡ b → P) [
      | true ↦ λ q. f (leb-true _ _ q)
      | false ↦ λ q. g (leb-false _ _ q)
    ]) refl

-- the front that is read of a stream
abbrev pub front : List ℕ → List ℕ
front bs = take (most_input + 1) bs

front_whole : (bs : List ℕ) → length bs ≤ most_input → front bs ≡ bs
front_whole bs h = take_all (most_input + 1) bs (omega arith)

front_long : (bs : List ℕ) → most_input < length bs → most_input < length (front bs)
front_long bs h = omega (arith, length-take (most_input + 1) bs)

module _ (rule : Rule) (s : State) where
  pub front_transcript : (bs : List ℕ) → transcript_of rule s (front bs) ≡ transcript_of rule s bs
  unfolding transcript_of
  front_transcript bs =
      by_length bs
      (λ h. ap (transcript_of rule s) (front_whole bs h))
      (λ h.
      let long : leb (length bs) most_input ≡ false = lt-leb _ _ h in
      let cut : leb (length (front bs)) most_input ≡ false = lt-leb _ _ (front_long bs h) in
      cond-false _ _ (answer_line 0 (Err (by_reader 22 0))) cut ∙ sym (cond-false _ _ _ long))

  pub front_calls : (bs : List ℕ) → input_calls rule s (front bs) ≡ input_calls rule s bs
  unfolding input_calls
  front_calls bs =
      by_length bs
      (λ h. ap (input_calls rule s) (front_whole bs h))
      (λ h.
      let long : leb (length bs) most_input ≡ false = lt-leb _ _ h in
      let cut : leb (length (front bs)) most_input ≡ false = lt-leb _ _ (front_long bs h) in
      cond-false _ _ [] cut ∙ sym (cond-false _ _ [] long))

  -- a whole run has done some first lines: all, or none of an input that is too long
  pub run_done : (t : State) (input : List ℕ) → t ≡ after s (input_calls rule s input) → SomeDone rule s t input
  unfolding input_calls after
  run_done t input e =
      by_length input
      (λ h. all_stopped rule s input [] t (lines_text rule 1 s (lines_of input)) (record { state = e ∙ ap (after s) (cond-true _ _ [] (le-leb _ _ h)); text = refl }))
      (λ h. subst (λ z. SomeDone rule s z input) (sym (e ∙ ap (after s) (cond-false _ _ [] (lt-leb _ _ h)))) (none_done rule s input))

  -- so it is where only the front was read
  pub front_done : (t : State) (bs items : List ℕ) → items ≡ front bs → (most_input < length items → t ≡ s) → SomeDone rule s t items → SomeDone rule s t bs
  front_done t bs items e unmoved d =
      by_length bs
      (λ h. subst (λ xs. SomeDone rule s t xs) (e ∙ front_whole bs h) d)
      (λ h. subst (λ z. SomeDone rule s z bs) (sym (unmoved (omega (arith, ap length e, front_long bs h)))) (none_done rule s bs))

  pub held_done : (t : State) (known : Option (List ℕ)) (items : List ℕ) → IfSome known (λ bs. items ≡ front bs) → (most_input < length items → t ≡ s) → SomeDone rule s t items → IfSome known (λ bs. SomeDone rule s t bs)
  held_done t None items e unmoved d = tt
  held_done t (Some bs) items e unmoved d = front_done t bs items e unmoved d

  pub same_read : (known : Option (List ℕ)) (items read : List ℕ) → read ≡ items → IfSome known (λ bs. items ≡ front bs) → IfSome known (λ bs. read ≡ front bs)
  same_read None items read e i = tt
  same_read (Some bs) items read e i = e ∙ i

  pub nothing_done : (known : Option (List ℕ)) → IfSome known (λ bs. SomeDone rule s s bs)
  nothing_done None = tt
  nothing_done (Some bs) = none_done rule s bs

  -- what was read is the front of what the stream held
  pub read_is : (held known : Option (List ℕ)) (n : ℕ) (start items : List ℕ) → held ≡ known → n ≡ most_input + 1 → start ≡ [] → IfSome (option_map (take n) held) (λ xs. items ≡ start ++ xs) → IfSome known (λ bs. items ≡ front bs)
  read_is held None n start items h l z e = tt
  read_is held (Some bs) n start items h l z e =
      rw (h, l, z) at e

  pub written : {E : Type 0} (r : Result (Unit {0}) E) (known old new : Option (List ℕ)) (items text : List ℕ) → IfSome known (λ bs. items ≡ front bs) → text ≡ transcript_of rule s items → OnOk r (Appends old new text) → OnOk r (IfSome known (λ bs. Appends old new (transcript_of rule s bs)))
  written (Err e) known old new items text i j k = tt
  written (Ok u) None old new items text i j k = tt
  written (Ok u) (Some bs) old new items text i j k = subst (Appends old new) (j ∙ ap (transcript_of rule s) i ∙ front_transcript bs) k

  pub moved : {E : Type 0} (r : Result (Unit {0}) E) (known : Option (List ℕ)) (t : State) (items : List ℕ) → IfSome known (λ bs. items ≡ front bs) → t ≡ after s (input_calls rule s items) → OnOk r (IfSome known (λ bs. t ≡ after s (input_calls rule s bs)))
  moved (Err e) known t items i j = tt
  moved (Ok u) None t items i j = tt
  moved (Ok u) (Some bs) t items i j = j ∙ ap (λ xs. after s (input_calls rule s xs)) i ∙ ap (after s) (front_calls bs)
