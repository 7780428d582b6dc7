-- The law for fewer superiors: what it says of superiors holds of any that are among them.
use Rattle.std.proofs.Common.{ℕ, List, [], ◌∷◌, Result}
use Rattle.bank.specs.Laws.{Kind}
use Rattle.history.specs.declared.answer.Answer.{Answer}
use Rattle.history.specs.declared.call.Call.{Call}
use Rattle.history.specs.declared.fault.EngineFault.{EngineFault}
use Rattle.history.specs.Attempts.{History, at}
use Rattle.history.specs.Law.{Lawful, AreLawful}
use Rattle.history.specs.Rules.{State, shown}

module _ {M : Type 0} (kind : Kind M) (R S : ℕ → ℕ → Type 0) (among : (s d : ℕ) → R s d → S s d) (order : List ℕ) where
  lawful_among : (h : History) (call : Call) (s : State M) (answer : Result Answer EngineFault) (later : State M)
      → Lawful kind S order h call s answer later → Lawful kind R order h call s answer later
  lawful_among h call s answer later l =
      record {
        answers = l.answers;
        refuses = l.refuses;
        unaltered = l.unaltered;
        lowers = l.lowers;
        stops = l.stops;
        ends_early = l.ends_early;
        keeps = l.keeps;
        adds_up = l.adds_up;
        all_deepest = l.all_deepest;
        raises = l.raises;
        closes = l.closes;
        puts = l.puts;
        rests = l.rests;
        words = l.words;
        depths =
            record {
              not_deeper = λ x d r. l.depths.not_deeper x d (among x d r);
              superior_left = λ x d r. l.depths.superior_left x d (among x d r);
              near = l.depths.near;
            };
        stands = l.stands;
        records = l.records;
        notes = l.notes;
        endings = l.endings;
      }

  pub all_among : (calls : List Call) (h : History) (s : State M) (answers : List (Result Answer EngineFault)) (later : State M)
      → AreLawful kind S order h s calls answers later → AreLawful kind R order h s calls answers later
  all_among [] h s [] later l = l
  all_among [] h s (answer ∷ answers) later none = none
  all_among (call ∷ calls) h s [] later none = none
  all_among (call ∷ calls) h s (answer ∷ answers) later (after, l, rest) =
      (after, lawful_among h call s answer after l, all_among calls (at call (shown kind order s) ∷ h) after answers later rest)
