-- Every call of every history is lawful.
use Rattle.std.proofs.Common.{◌≡◌, ◌↔◌, ℕ, true, ◌-◌, ◌<◌, ◌≤◌, List, ◌∷◌, length}
use Rattle.std.proofs.Common.{refl, ap, sym, subst, ◌∙◌, ⊎_elim, arith}
use Rattle.std.specs.Prelude.{Some, None, Ok, Result}
use Rattle.order.specs.Orders.{Precedes}
use Rattle.bank.specs.Meaning.{Device, piles}
use Rattle.bank.specs.Laws.{Kind, Laws, HoldsWord}
use Rattle.history.specs.declared.answer.Answer.{Answer}
use Rattle.history.specs.declared.answer.Answer.TheVariants.{Stepped, Heard, Closed, Written}
use Rattle.history.specs.declared.answer.StepAnswer.TheVariants.{Lowered, Raised, Hindered, Alarmed}
use Rattle.history.specs.declared.answer.AlarmAnswer.TheVariants.{Kept}
use Rattle.history.specs.declared.call.Call.{Call}
use Rattle.history.specs.declared.call.Call.TheVariants.{Step, Close, Put}
use Rattle.history.specs.declared.fault.EngineFault.{EngineFault}
use Rattle.history.specs.declared.standing.Standing.{Standing}
use Rattle.history.specs.declared.standing.Standing.TheVariants.{Awake, GoingDown, ComingUp}
use Rattle.history.specs.declared.standing.Stage.TheVariants as stage
use Rattle.history.specs.Schedule.{device_of, full, level_sum}
use Rattle.history.specs.Attempts.{at, History, under_way, opening, descent, next_device, outcome, stage_of}
use Rattle.history.specs.Rules.{State, shown, said, next, answer_to, step_answer, model_after}
use Rattle.history.specs.Law.{OneLower, OneHigher, IsAt, Stopped, lowerings, LedTo, Lawful, FitsCall, Obeys}
use Rattle.history.specs.Keeping.{InRange}
use Rattle.history.proofs.Schedules.{all_deepest, scheduled_depths}
use Rattle.history.proofs.Unwinding.{Held, unwinds_words}
use Rattle.history.proofs.Moves.{Lowering, lowering, Raising, raising, Putting, putting, all_up}
use Rattle.history.proofs.Standings.{goes_down, comes_up}
use Rattle.history.proofs.Refusals.{refuses}
use Rattle.history.proofs.Outcomes.{goes_free, is_stopped, keeps, ends_early, closes_with}
use Rattle.history.proofs.Effects.{Effect, lowers, raises, closes, puts, rests, effect, alters, model_told, stays_still, unaltered}
use Rattle.history.specs.Journals.{Notes}
use Rattle.history.specs.Endings.{Endings}
use Rattle.history.proofs.Noting.{notes}
use Rattle.history.proofs.Ending.{endings}
use Rattle.history.proofs.Facts.{Facts, facts, facts_next, here, range_at, told_so, counts_on}

module _ {M : Type 0} {limit : ℕ} (kind : Kind M) (laws : Laws limit kind) (superior : ℕ → ℕ → Type 0) (order : List ℕ)
    (precedes : Precedes (length order) superior order) (some : 1 ≤ length order) where
  abbrev Known : History → State M → Type 0
  Known h s = Facts kind laws order precedes.permutes some h s

  module _ (h : History) (s : State M) (f : Known h s) (call : Call) (fits : FitsCall call) where
    abbrev now : List Device
    now = shown kind order s

    abbrev answer : Result Answer EngineFault
    answer = said kind order s call

    abbrev later : State M
    later = next kind order s call

    range : (st : Standing) → s.standing ≡ st → InRange (full order) st (level_sum now)
    range = range_at kind laws order precedes.permutes some h s f

    -- a step is answered so, where the engine stands at `st`
    step_told : call ≡ Step → (st : Standing) → s.standing ≡ st → answer ≡ step_answer order st now
    step_told c st e = ap (λ (x : Standing). answer_to order x call now) e ∙ ap (λ (x : Call). answer_to order st x now) c

    going : IsAt order stage.GoingDown h now → s.standing ≡ GoingDown (descent order h).kept
    going g = (goes_down order h now s.standing (here kind laws order precedes.permutes some h s f) (ap stage_of f.stands ∙ g)).3

    lower : call ≡ Step → IsAt order stage.GoingDown h now → (Stopped order h now → ⊥)
        → (answer ≡ Ok (Stepped Lowered)) × OneLower (next_device order now) now (shown kind order later)
    lower c g n =
        let (lowered, free) = goes_free order h now (descent order h).kept n in
        let told : answer ≡ Ok (Stepped Lowered) = step_told c _ (going g) ∙ ap (λ (a : Answer). Ok a) lowered in
        let r : InRange (full order) (GoingDown (descent order h).kept) (level_sum now) = range _ (going g) in
        let l : Lowering kind laws order precedes.permutes some s.model =
        lowering kind laws order precedes.permutes some s.model f.sound f.scheduled r.limit in (
          told,
          subst (λ (m : M). OneLower (next_device order now) now (kind.devices m)) (sym (model_told kind order s call (Ok (Stepped Lowered)) told))
              (l.one free),
        )

    stop : call ≡ Step → IsAt order stage.GoingDown h now → Stopped order h now → later.model ≡ s.model
    stop c g q =
        let told : answer ≡ step_answer order (GoingDown (descent order h).kept) now = step_told c _ (going g) in
        ⊎_elim (λ e. model_told kind order s call (Ok (Stepped Alarmed)) (told ∙ ap (λ (a : Answer). Ok a) e))
        (λ e. model_told kind order s call (Ok (Stepped Hindered)) (told ∙ ap (λ (a : Answer). Ok a) e)) (is_stopped order h now (descent order h).kept q)

    raise : call ≡ Step → IsAt order stage.ComingUp h now → (answer ≡ Ok (Stepped Raised)) × ((x : ℕ) × OneHigher x now (shown kind order later))
    raise c g =
        let (end, st) = comes_up order s.standing (ap stage_of f.stands ∙ g) in
        let i : InRange (full order) (ComingUp end) (level_sum now) = range _ st in
        let j : ℕ = level_sum now - 1 in
        let r : Raising kind laws order precedes.permutes some s.model j =
        raising kind laws order precedes.permutes some s.model j f.sound f.scheduled (omega (arith, i.least)) in
        let told : answer ≡ Ok (Stepped Raised) = step_told c _ st in (
          told,
          (
            device_of order j,
            subst (λ (m : M). OneHigher (device_of order j) now (kind.devices m)) (sym (model_told kind order s call (Ok (Stepped Raised)) told)) r.one,
          ),
        )

    add_up : answer ≡ Ok (Stepped Lowered) → level_sum (shown kind order later) ≡ lowerings order (at call now ∷ h)
    add_up e =
        let counted = counts_on kind laws order precedes.permutes some h s f call fits in
        grind (arith, effect order now call s.standing, ap alters e, counted)

    close : call ≡ Close → under_way h ≡ true
        → (answer ≡ Ok (Closed (outcome order (descent order h) now))) × (piles (shown kind order later) ≡ piles (opening h))
    close c u =
        let told : answer ≡ Ok (Closed (outcome order (descent order h) now)) =
        ap (λ (x : Call). answer_to order s.standing x now) c ∙ closes_with order h now s.standing f.stands u in
        let (sound, scheduled, none, (first, is, same)) =
        all_up kind laws order precedes.permutes some (Held order h now) (level_sum now) s.model f.sound f.scheduled refl (f.unwinds u).stack in (
          told,
          ap (λ (m : M). piles (kind.devices m)) (model_told kind order s call (Ok (Closed (outcome order (descent order h) now))) told)
              ∙ same ∙ ap piles (same_first first (opening h) (sym is ∙ (f.unwinds u).first)),
        )
      where
        same_first : (a b : List Device) → Some a ≡ Some b → a ≡ b
        same_first a b e = cc

    put : (d w : ℕ) → call ≡ Put d w → answer ≡ Ok Written → HoldsWord now d w (shown kind order later)
    put d w is e = go (effect order now call s.standing)
      where
        go : Effect order now call s.standing answer → HoldsWord now d w (shown kind order later)
        go (puts x y c st l q) =
            let inside : d < length order = subst (λ (i : ℕ). i < length order) (cc (is, c)) l in
            let r : InRange (full order) Awake (level_sum now) = range Awake st in
            let p : Putting kind laws order precedes.permutes some s.model d w =
            putting kind laws order precedes.permutes some s.model d w f.sound f.scheduled (omega (arith, r.limit)) inside
            (subst (λ (x : Call). FitsCall x) is fits) in
            subst (λ (m : M). HoldsWord now d w (kind.devices m))
            (sym (model_told kind order s call (Ok Written) e ∙ ap (λ (x : Call). model_after kind order x (Ok Written) s.model) is)) p.holds
        go (lowers c st z q) = absurd (cc)
        go (raises end c st q) = absurd (cc)
        go (closes end c n q) = absurd (cc)
        go (rests q) = absurd (cc (q, ap alters e))

    lawful_from : Known (at call now ∷ h) later → Notes kind order call s answer later → Endings kind order h call s answer → Lawful kind superior order h call s answer later
    lawful_from after noted ended =
        record {
          answers = told_so kind laws order precedes.permutes some h s f call fits;
          refuses = refuses order now h call s.standing f.stands;
          unaltered = unaltered kind order s call;
          lowers = lower;
          stops = stop;
          ends_early = ends_early order h now call;
          keeps = λ d e. subst (λ (c : Call). (said kind order s c ≡ Ok (Heard Kept))
              ↔ ((d < length order) × (under_way h ≡ true) × ((descent order h).kept ≡ None) × ((descent order h).turned ≡ None)))
              (sym e) (keeps order h now d s.standing f.stands);
          adds_up = add_up;
          all_deepest = all_deepest order precedes.permutes some (shown kind order later) after.scheduled;
          raises = raise;
          closes = close;
          puts = put;
          rests = stays_still kind order call s.standing now s.model;
          words = λ u. unwinds_words order (at call now ∷ h) (shown kind order later) (after.unwinds u);
          depths = scheduled_depths order precedes.permutes some superior precedes (shown kind order later) after.scheduled;
          stands = after.stands;
          records = after.records;
          notes = noted;
          endings = ended;
        }

  -- each call is lawful after every history, and leads on
  pub obeys : (call : Call) (s : State M) → FitsCall call → Obeys kind superior order call s (said kind order s call) (next kind order s call)
  obeys call s fits =
      record {
        lawful = λ h led. lawful_from h s (known h led) call fits (after h led)
            (notes kind laws order precedes.permutes some h s call fits led) (endings kind laws order precedes.permutes some h s call fits led);
        leads = λ h led. ((after h led).sound, fits, (s, led, refl, refl));
      }
    where
      known : (h : History) → LedTo kind order h s → Known h s
      known h led = facts kind laws order precedes.permutes some h s led

      after : (h : History) → LedTo kind order h s → Known (at call (shown kind order s) ∷ h) (next kind order s call)
      after h led = facts_next kind laws order precedes.permutes some h s (known h led) call fits
