-- The lines of a script, one after another.
use Rattle.std.proofs.Common.{◌≡◌, ℕ, List, [], ◌∷◌, ◌++◌, sym, refl, ap, ◌∙◌, subst, append_assoc, append-nil}
use Rattle.history.specs.Meaning.{Meaning}
use Rattle.kinds.specs.declared.seats.Seats.{Seats}
use Rattle.kinds.specs.Forms.{seats_parse}
use Rattle.ledger.specs.declared.call.Answer.{Answer}
use Rattle.register.specs.declared.register.Register.{Register}
use Rattle.register.specs.State.{State}
use Rattle.register.specs.Start.{started}
use Rattle.register.specs.View.{view}
use Rattle.serial.specs.Histories.{History, Reached}
use Rattle.serial.specs.SerialOrder.{SerialOrder, SerialLaw, found_at}
use Rattle.serial.specs.Reaches.{Reaches}
use Rattle.script.specs.Format.{call_of}
use Rattle.script.specs.Lines.{lines}
use Rattle.script.specs.Printed.{shown, printed}
use Rattle.script.proofs.Ended.{line_printed}
use Rattle.playing.specs.Played.{form, answer_to, noted, state_after, output, answers, events, final, Played}
use Rattle.playing.specs.Turns.{InBytes, Takes, Runs}

module _ {S : Type 0} (means : S → Meaning) where
  -- What is printed so far, and that the rest of the script goes on from here as the whole went on from the start.
  pub record Sofar (meaning : List ℕ → Meaning) (c : ℕ) (m : Meaning) (h : History Seats) (before : Register S Seats) (script rest out : List ℕ) (now : Register S Seats) : Type 0 where
    pub past : History Seats
    pub reaches : Reaches means form seats_parse c m past now
    pub prints : output meaning (view means before) (lines script) ≡ out ++ output meaning (view means now) (lines rest)
    pub leads : final meaning (view means before) (lines script) ≡ final meaning (view means now) (lines rest)
    pub notes : events meaning h (view means before) (lines script) ≡ events meaning past (view means now) (lines rest)

  abbrev pub Goes : Register S Seats → List ℕ → List ℕ → List ℕ → Register S Seats → Type 0
  Goes before script rest out now =
      (meaning : List ℕ → Meaning) → InBytes means meaning → (c : ℕ) (m : Meaning) (h : History Seats)
      → Reaches means form seats_parse c m h before → Sofar meaning c m h before script rest out now

  pub goes_none : (r : Register S Seats) (script : List ℕ) → Goes r script script [] r
  goes_none r script meaning by c m h reaches = record { past = h; reaches = reaches; prints = refl; leads = refl; notes = refl }

  pub goes_more : (before r t : Register S Seats) (script rest line more out : List ℕ) (a : Answer Seats)
      → Goes before script rest out r → lines rest ≡ line ∷ lines more → Takes means r line a t
      → Goes before script more (out ++ printed a) t
  goes_more before r t script rest line more out a goes cut takes meaning by c m h reaches =
      let s = goes meaning by c m h reaches in
      let u = takes meaning by c m s.past s.reaches in
      record {
        past = noted (view means r) (call_of line) s.past;
        reaches = u.reaches;
        prints = s.prints ∙ ap (λ l. out ++ output meaning (view means r) l) cut
            ∙ ap (λ (v : Answer Seats). out ++ (printed v ++ output meaning (state_after meaning (view means r) (call_of line)) (lines more))) (sym u.answers)
            ∙ ap (λ (v : State). out ++ (printed a ++ output meaning v (lines more))) (sym u.leads)
            ∙ sym (append_assoc out (printed a) (output meaning (view means t) (lines more)));
        leads = s.leads ∙ ap (final meaning (view means r)) cut ∙ ap (λ (v : State). final meaning v (lines more)) (sym u.leads);
        notes = s.notes ∙ ap (events meaning s.past (view means r)) cut ∙ ap (λ (v : State). events meaning (noted (view means r) (call_of line) s.past) v (lines more)) (sym u.leads);
      }

  pub goes_all : (before r : Register S Seats) (script rest out : List ℕ) → Goes before script rest out r → lines rest ≡ [] → Runs means before (lines script) out r
  goes_all before r script rest out goes none meaning by c m h reaches =
      let s = goes meaning by c m h reaches in
      record {
        prints = sym (s.prints ∙ ap (λ l. out ++ output meaning (view means r) l) none ∙ append-nil out);
        leads = sym (s.leads ∙ ap (final meaning (view means r)) none);
        reaches = subst (λ (e : History Seats). Reaches means form seats_parse c m e r) (sym (s.notes ∙ ap (events meaning s.past (view means r)) none)) s.reaches;
      }

  lines_answers : (meaning : List ℕ → Meaning) (s : State) (ls : List (List ℕ)) → lines (output meaning s ls) ≡ answers meaning s ls
  lines_answers meaning s [] = refl
  lines_answers meaning s (line ∷ more) =
      let a = answer_to s (call_of line) in
      let t = state_after meaning s (call_of line) in
      line_printed a (output meaning t more) ∙ ap (λ l. shown a ∷ l) (lines_answers meaning t more)

  -- a script from a register's start
  pub played : (meaning : List ℕ → Meaning) → InBytes means meaning → (c : ℕ) (m : Meaning) → SerialLaw form seats_parse c m
      → (r t : Register S Seats) → view means r ≡ started m c → Reaches means form seats_parse c m [] r
      → (script out : List ℕ) → Runs means r (lines script) out t → Played meaning c m script out
  played meaning by c m law r t starts reaches script out runs =
      let run = runs meaning by c m [] reaches in
      let order = law _ (final meaning (view means r) (lines script)) (subst (Reached form seats_parse c m _) run.leads run.reaches) in
      let prints = run.prints ∙ ap (λ (s : State). output meaning s (lines script)) starts in
      record {
        prints = prints;
        line_for_line = ap lines prints ∙ lines_answers meaning (started m c) (lines script);
        serial = subst (λ (s : State). SerialOrder form seats_parse c (found_at m) (events meaning [] s (lines script)) (final meaning s (lines script))) starts order;
      }
