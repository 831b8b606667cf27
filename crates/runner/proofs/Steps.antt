-- The lines done so far, and one line more. Assumes nothing.
use Rattle.std.proofs.Common.{◌≡◌, ℕ, ◌+◌, List, [], ◌∷◌, ◌++◌, length, sym, refl, ap, ◌∙◌, subst, append_assoc, append-nil, arith}
use Rattle.std.proofs.lemmas.List.{length_push}
use Rattle.std.proofs.lemmas.Bool.{cond_both}
use Rattle.model.specs.Calls.{Call}
use Rattle.model.specs.History.{Event, after, events}
use Rattle.model.specs.State.{State, opened}
use Rattle.model.proofs.Runs.{after-append, events-append, conserved_through}
use Rattle.reader.specs.Lines.{lines_of}
use Rattle.requests.specs.Laws.{NoneOut, LeavesNoneOut}
use Rattle.requests.specs.Requests.{Rule, line_calls, line_performed}
use Rattle.requests.proofs.Parking.{line_leaves_none_out}
use Rattle.runner.specs.Answers.{answer_line, lines_calls, lines_text, input_calls}
use Rattle.runner.specs.Progress.{AllDone, SomeDone}

-- the state after lines
abbrev pub after_lines : Rule → State → List (List ℕ) → State
after_lines rule s ls = after s (lines_calls rule s ls)

module _ (rule : Rule) where
  -- the state after a line and others is that of the others after the line
  pub after_first : (s : State) (l : List ℕ) (ls : List (List ℕ)) → after_lines rule s (l ∷ ls) ≡ after_lines rule (after s (line_calls rule s l)) ls
  unfolding lines_calls
  after_first s l ls = after-append s (lines_calls rule (after s (line_calls rule s l)) ls) (line_calls rule s l)

  after_none : (s : State) → after_lines rule s [] ≡ s
  unfolding lines_calls after
  after_none s = refl

  pub after_line : (ls : List (List ℕ)) (s : State) (l : List ℕ) → after_lines rule s (ls ++ (l ∷ [])) ≡ after (after_lines rule s ls) (line_calls rule (after_lines rule s ls) l)
  unfolding lines_calls after
  after_line [] s l = refl
  after_line (m ∷ ls) s l =
      let t : State = after s (line_calls rule s m) in
      after_first s m (ls ++ (l ∷ []))
      ∙ after_line ls t l
      ∙ ap (λ (u : State). after u (line_calls rule u l)) (sym (after_first s m ls))

  pub text_line : (ls : List (List ℕ)) (n : ℕ) (s : State) (l : List ℕ) → lines_text rule n s (ls ++ (l ∷ [])) ≡ lines_text rule n s ls ++ answer_line (n + length ls) (line_performed rule (after_lines rule s ls) l)
  unfolding lines_text
  text_line [] n s l =
      append-nil (answer_line n (line_performed rule s l))
      ∙ ap (λ (k : ℕ). answer_line k (line_performed rule s l)) (omega arith)
      ∙ ap (λ (t : State). answer_line (n + 0) (line_performed rule t l)) (sym (after_none s))
  text_line (m ∷ ls) n s l =
      let t : State = after s (line_calls rule s m) in
      ap (λ (bs : List ℕ). answer_line n (line_performed rule s m) ++ bs)
      (text_line ls (n + 1) t l
      ∙ ap (λ (k : ℕ). lines_text rule (n + 1) t ls ++ answer_line k (line_performed rule (after_lines rule t ls) l)) (omega arith)
      ∙ ap (λ (u : State). lines_text rule (n + 1) t ls ++ answer_line (n + length (m ∷ ls)) (line_performed rule u l)) (sym (after_first s m ls)))
      ∙ sym (append_assoc (answer_line n (line_performed rule s m)) (lines_text rule (n + 1) t ls) _)

-- some first lines of the input are done, and the next is line `number`
pub record Going (rule : Rule) (s t : State) (input before since rest : List ℕ) (number : ℕ) : Type 0 where
  pub done : List (List ℕ)
  pub lines : done ++ lines_of rest ≡ lines_of input
  pub counted : 1 + length done ≡ number
  pub state : t ≡ after_lines rule s done
  pub text : since ≡ before ++ lines_text rule 1 s done

module _ (rule : Rule) (s : State) (input before : List ℕ) where
  pub going_start : Going rule s s input before before input 1
  unfolding lines_calls lines_text after
  going_start = record { done = []; lines = refl; counted = refl; state = refl; text = sym (append-nil before) }

  module _ (t u : State) (since later rest line more : List ℕ) (number : ℕ) (g : Going rule s t input before since rest number) (cut : lines_of rest ≡ line ∷ lines_of more) (moved : u ≡ after t (line_calls rule t line)) where
    state_more : u ≡ after_lines rule s (g.done ++ (line ∷ []))
    state_more = moved ∙ ap (λ (v : State). after v (line_calls rule v line)) g.state ∙ sym (after_line rule g.done s line)

    lines_more : (g.done ++ (line ∷ [])) ++ lines_of more ≡ lines_of input
    lines_more = append_assoc g.done (line ∷ []) (lines_of more) ∙ ap (λ (ls : List (List ℕ)). g.done ++ ls) (sym cut) ∙ g.lines

    pub going_more : later ≡ since ++ answer_line number (line_performed rule t line) → Going rule s u input before later more (number + 1)
    going_more e = record {
      done = g.done ++ (line ∷ []);
      lines = lines_more;
      counted = omega (arith, length_push g.done line, g.counted);
      state = state_more;
      text = e
          ∙ ap (λ (bs : List ℕ). bs ++ answer_line number (line_performed rule t line)) g.text
          ∙ append_assoc before (lines_text rule 1 s g.done) _
          ∙ ap (λ (bs : List ℕ). before ++ bs)
          ((λ i. lines_text rule 1 s g.done ++ answer_line (sym g.counted i) (line_performed rule (g.state i) line)) ∙ sym (text_line rule g.done 1 s line));
    }

    -- memory ran out as the answer was written
    pub going_stopped : SomeDone rule s u input
    going_stopped = record {
      done = g.done ++ (line ∷ []);
      others = lines_of more;
      lines = lines_more;
      state = state_more;
      law = conserved_through s (lines_calls rule s (g.done ++ (line ∷ []))) u state_more;
    }

  pub going_end : (t : State) (since rest : List ℕ) (number : ℕ) → Going rule s t input before since rest number → rest ≡ [] → AllDone rule s t input before since
  going_end t since rest number g e =
      let all : g.done ≡ lines_of input = sym (append-nil g.done) ∙ ap (λ (r : List ℕ). g.done ++ lines_of r) (sym e) ∙ g.lines in
      record { state = g.state ∙ ap (after_lines rule s) all; text = g.text ∙ ap (λ (ls : List (List ℕ)). before ++ lines_text rule 1 s ls) all }

  pub all_stopped : (t : State) (since : List ℕ) → AllDone rule s t input before since → SomeDone rule s t input
  all_stopped t since a = record {
    done = lines_of input;
    others = [];
    lines = append-nil (lines_of input);
    state = a.state;
    law = conserved_through s (lines_calls rule s (lines_of input)) t a.state;
  }

pub none_done : (rule : Rule) (s : State) (input : List ℕ) → SomeDone rule s s input
unfolding lines_calls after
none_done rule s input = record { done = []; others = lines_of input; lines = refl; state = refl; law = conserved_through s [] s refl }

-- ---- slips

none_made : (s : State) → LeavesNoneOut s []
unfolding events
none_made s = record { parked = λ m letter mark fit before reached free. free }

pub lines_leave_none_out : (rule : Rule) (s : State) (ls : List (List ℕ)) → LeavesNoneOut s (lines_calls rule s ls)
unfolding lines_calls events
lines_leave_none_out rule s [] = none_made s
lines_leave_none_out rule s (l ∷ ls) = record {
  parked = λ m letter mark fit before reached free.
      let o : State = opened m letter mark in
      let first : List Call = line_calls rule s l in
      let t : State = after s first in
      let others : List Call = lines_calls rule t ls in
      let there : after o (first ++ before) ≡ t = after-append o first before ∙ ap (λ (u : State). after u first) reached in
      let told : events o (first ++ before) ≡ events s first ++ events o before = events-append o first before ∙ ap (λ (u : State). events u first ++ events o before) reached in
      let none : NoneOut (events o (first ++ before)) = subst NoneOut (sym told) ((line_leaves_none_out rule s l).parked m letter mark fit before reached free) in
      let all : NoneOut (events t others ++ events o (first ++ before)) = (lines_leave_none_out rule t ls).parked m letter mark fit (first ++ before) there none in
      subst NoneOut
      (ap (λ (g : List Event). events t others ++ g) told ∙ sym (append_assoc (events t others) (events s first) (events o before)) ∙ ap (λ (g : List Event). g ++ events o before) (sym (events-append s others first)))
      all;
}

pub input_leaves_none_out : (rule : Rule) (s : State) (input : List ℕ) → LeavesNoneOut s (input_calls rule s input)
unfolding input_calls
input_leaves_none_out rule s input =
    cond_both _ (lines_calls rule s (lines_of input)) [] (LeavesNoneOut s) (λ _. lines_leave_none_out rule s (lines_of input)) (λ _. none_made s)
