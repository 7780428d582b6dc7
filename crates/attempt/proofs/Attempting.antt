-- A run over any bank, from the making of its engine to the close.
use Rattle.std.proofs.Common.{◌≡◌, ℕ, true, zero, suc, ◌+◌, ◌*◌, List, [], ◌∷◌, ◌++◌, All, length, get_or, replicate, refl, ap, sym, subst, ◌∙◌, arith}
use Rattle.std.specs.Prelude.{Ok, Result, is_ok, vec_items}
use Rattle.std.proofs.lemmas.List.Elements.{All-nil, All-cons, All-append}
use Rattle.bank.specs.Laws.{Kind, Laws}
use Rattle.history.specs.declared.answer.Answer.{Answer}
use Rattle.history.specs.declared.answer.Answer.TheVariants.{Opened, Closed}
use Rattle.history.specs.declared.call.Call.{Call}
use Rattle.history.specs.declared.call.Call.TheVariants.{Open, Step, Close}
use Rattle.history.specs.declared.fault.EngineFault.{EngineFault}
use Rattle.history.specs.declared.outcome.Outcome.{Outcome}
use Rattle.history.specs.Attempts.{History, at}
use Rattle.history.specs.Law.{FitsCall, LedTo}
use Rattle.history.specs.Rules.{State, said, next, all_said, after_all}
use Rattle.history.specs.Schedule.{full, level_sum}
use Rattle.history.proofs.Facts.{Facts, facts, facts_next}
use Rattle.order.specs.declared.ordering.Order.{Order}
use Rattle.order.specs.Answers.{devices}
use Rattle.engine.specs.Making.{IsReady}
use Rattle.engine.specs.Tickets.{is_open}
use Rattle.engine.proofs.Orders.{permutes, some_device}
use Rattle.engine.proofs.Playing.{all_keep}
use Rattle.engine.proofs.Readiness.{ready_sum}
use Rattle.attempt.specs.declared.attempt.Attempt.{Attempt}
use Rattle.attempt.specs.Runs.{just_made, step_count, run_calls}
use Rattle.attempt.specs.Attempts.{Attempted}
use Rattle.attempt.proofs.Steps.{Keeps, step_open}
use Rattle.attempt.proofs.Resting.{Lasts, Rests, rests_within, stepped}
use Rattle.attempt.proofs.Blaming.{Descended, Tells, tells_step, Closes, tells_close}

-- ---- calls after calls

module _ {M : Type 0} (kind : Kind M) (order : List ℕ) where
  said_append : (s : State M) (calls more : List Call) → all_said kind order s (calls ++ more) ≡ all_said kind order s calls ++ all_said kind order (after_all kind order s calls) more
  said_append s [] more = refl
  said_append s (call ∷ calls) more = ap (λ (rest : List (Result Answer EngineFault)). said kind order s call ∷ rest) (said_append (next kind order s call) calls more)

  after_append : (s : State M) (calls more : List Call) → after_all kind order s (calls ++ more) ≡ after_all kind order (after_all kind order s calls) more
  after_append s [] more = refl
  after_append s (call ∷ calls) more = after_append (next kind order s call) calls more

-- no call of a run has a word that would have to fit
steps_fit : (t i : ℕ) → FitsCall (get_or (replicate t Step ++ Close ∷ []) i Open)
steps_fit zero zero = tt
steps_fit zero (suc i) = tt
steps_fit (suc t) zero = tt
steps_fit (suc t) (suc i) = steps_fit t i

run_fits : (t i : ℕ) → FitsCall (get_or (Open ∷ (replicate t Step ++ Close ∷ [])) i Open)
run_fits t zero = tt
run_fits t (suc i) = steps_fit t i

module _ {M : Type 0} {limit : ℕ} (kind : Kind M) (laws : Laws limit kind) (order : Order) (m : M) (sound : kind.sound m)
    (ready : IsReady (devices order) (kind.devices m)) where
  -- what holds of the engine from the opening on
  record Goes (s : State M) : Type 0 where
    led : (h : History) × LedTo kind (devices order) h s
    opened : is_open s.standing ≡ true
    tells : Tells kind laws (devices order) (permutes order) (some_device order) m s

  known : (s : State M) (h : History) → LedTo kind (devices order) h s → Facts kind laws (devices order) (permutes order) (some_device order) h s
  known s h led = facts kind laws (devices order) (permutes order) (some_device order) h s led

  keeps : (s : State M) → Goes s → Keeps kind laws (devices order) (permutes order) (some_device order) s
  keeps s g =
      let (h, led) = g.led in
      let f : Facts kind laws (devices order) (permutes order) (some_device order) h s = known s h led in
      record { sound = f.sound; scheduled = f.scheduled; in_range = f.in_range }

  led_on : (call : Call) → FitsCall call → (s : State M) → (h : History) × LedTo kind (devices order) h s → (h : History) × LedTo kind (devices order) h (next kind (devices order) s call)
  led_on call fits s (h, led) =
      let f : Facts kind laws (devices order) (permutes order) (some_device order) h s = known s h led in
      let n = facts_next kind laws (devices order) (permutes order) (some_device order) h s f call fits in
      (at call (kind.devices s.model) ∷ h, (n.sound, fits, (s, led, refl, refl)))

  lasts : Lasts kind laws (devices order) (permutes order) (some_device order) Goes
  lasts =
      record {
        keeps = keeps;
        opened = λ s g. g.opened;
        more = λ s g e. record {
          led = led_on Step tt s g.led;
          opened = step_open kind (devices order) s g.opened;
          tells = tells_step kind laws (devices order) (permutes order) (some_device order) m s (keeps s g) g.tells e;
        };
      }

  abbrev start : State M
  start = next kind (devices order) (just_made m) Open

  made : LedTo kind (devices order) [] (just_made m)
  made = (sound, record { count = ready.count; running = ready.running; awake = refl; blank = refl })

  starts : Goes start
  starts =
      let z : level_sum (kind.devices m) ≡ 0 = ready_sum order (kind.devices m) ready in
      let none : Descended kind laws (devices order) (permutes order) (some_device order) m start 0 =
      record { sum = z; model = refl; free = λ i h. absurd (omega arith); journal = refl } in
      record {
        led = led_on Open tt (just_made m) ([], made);
        opened = refl;
        tells = subst (Descended kind laws (devices order) (permutes order) (some_device order) m start) (sym z) none;
      }

  abbrev count : ℕ
  count = step_count kind (devices order) m

  rested : Rests kind laws (devices order) (permutes order) (some_device order) Goes start count
  rested = rests_within kind laws (devices order) (permutes order) (some_device order) Goes lasts (2 * full (devices order)) start starts (omega (arith, some_device order))

  abbrev end : State M
  end = stepped kind laws (devices order) (permutes order) (some_device order) start count

  closes : (outcome : Outcome) × Closes kind laws (devices order) (permutes order) (some_device order) m end outcome
  closes = tells_close kind laws (devices order) (permutes order) (some_device order) m end (keeps end rested.here) rested.here.tells rested.rests

  -- the answer of the close tells its outcome
  pub closes_so : (outcome : Outcome) → said kind (devices order) end Close ≡ Ok (Closed outcome)
      → Closes kind laws (devices order) (permutes order) (some_device order) m end outcome
  closes_so outcome e =
      let (found, c) = closes in
      subst (Closes kind laws (devices order) (permutes order) (some_device order) m end) (let q : found ≡ outcome = cc (c.answer, e) in q) c

  pub last : after_all kind (devices order) (just_made m) (run_calls kind (devices order) m) ≡ next kind (devices order) end Close
  last = after_append kind (devices order) start (replicate count Step) (Close ∷ [])

  all_obeyed : All (λ answer. is_ok answer ≡ true) (all_said kind (devices order) (just_made m) (run_calls kind (devices order) m))
  all_obeyed =
      let (found, c) = closes in
      let P : Result Answer EngineFault → Type 0 = λ answer. is_ok answer ≡ true in
      All-cons P (Ok Opened) _ refl
      (subst (All P) (sym (said_append kind (devices order) start (replicate count Step) (Close ∷ [])))
      (All-append P (all_said kind (devices order) start (replicate count Step)) _ rested.obeyed
      (All-cons P (said kind (devices order) end Close) [] (ap is_ok c.answer) (All-nil P))))

  -- an attempt that has the journal, the outcome and the counts of the run
  pub attempted : (attempt : Attempt) → vec_items attempt.journal ≡ (after_all kind (devices order) (just_made m) (run_calls kind (devices order) m)).journal
      → said kind (devices order) end Close ≡ Ok (Closed attempt.outcome)
      → attempt.calls ≡ 1 + length (run_calls kind (devices order) m) → attempt.devices ≡ length (devices order) → Attempted kind m order attempt
  attempted attempt journal outcome calls number =
      let c = closes_so attempt.outcome outcome in
      record {
        journal = journal;
        outcome = outcome;
        obeyed = all_obeyed;
        rests = rested.rests;
        not_before = rested.not_before;
        most = omega (arith, rested.most, some_device order);
        count = calls;
        number = number;
        law = (all_keep kind laws order (run_calls kind (devices order) m) (just_made m) _ _ (λ i h. run_fits count i) refl refl).lawful [] made;
        blames = c.blames;
        ways = journal ∙ ap (λ (s : State M). s.journal) last ∙ c.journal;
      }
