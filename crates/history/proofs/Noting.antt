-- What each call leaves in the journal.
use Rattle.std.proofs.Common.{◌≡◌, ◌≢◌, ℕ, true, zero, suc, ◌-◌, ◌<◌, ◌≤◌, List, length, refl, ap, sym, subst, arith}
use Rattle.std.specs.Prelude.{None, Ok, Result, reverse}
use Rattle.order.specs.Orders.{Permutes}
use Rattle.bank.specs.Meaning.{Device}
use Rattle.bank.specs.Laws.{Kind, Laws}
use Rattle.history.specs.declared.answer.Answer.{Answer}
use Rattle.history.specs.declared.answer.Answer.TheVariants.{Stepped, Closed}
use Rattle.history.specs.declared.answer.StepAnswer.TheVariants.{Lowered, Raised}
use Rattle.history.specs.declared.call.Call.{Call}
use Rattle.history.specs.declared.entry.Entry.{Entry}
use Rattle.history.specs.declared.entry.Direction.TheVariants.{Down, Up}
use Rattle.history.specs.declared.fault.EngineFault.{EngineFault}
use Rattle.history.specs.declared.outcome.Outcome.{Outcome}
use Rattle.history.specs.declared.standing.Standing.TheVariants.{Awake, GoingDown, ComingUp}
use Rattle.history.specs.Schedule.{phase, device_of, full, level_sum}
use Rattle.history.specs.Attempts.{History, under_way}
use Rattle.history.specs.Rules.{State, shown, said, next, recorded, entries_up}
use Rattle.history.specs.Law.{LedTo, FitsCall, OneHigher}
use Rattle.history.specs.Keeping.{InRange}
use Rattle.history.specs.Journals.{Notes, NotesUp, AreRaisings, way}
use Rattle.history.proofs.Moves.{Raising, raising}
use Rattle.history.proofs.Phases.{phase_down, phase_up}
use Rattle.history.proofs.Standings.{is_open}
use Rattle.history.proofs.Effects.{alters, effect, model_told}
use Rattle.history.proofs.Facts.{Facts, facts, range_at, tells_at}
use Rattle.history.proofs.Ways.{hindering, unnoted, mirrors, mirrors_close}

module _ (order : List ℕ) where
  -- what a close notes
  are_raisings : (k : ℕ) → AreRaisings (entries_up order k)
  are_raisings zero = tt
  are_raisings (suc k) = (refl, refl, are_raisings k)

module _ {M : Type 0} {limit : ℕ} (kind : Kind M) (laws : Laws limit kind) (order : List ℕ)
    (permutes : Permutes (length order) order) (some : 1 ≤ length order) where
  module _ (h : History) (s : State M) (call : Call) (led : LedTo kind order h s) where
    abbrev now : List Device
    now = shown kind order s

    abbrev answer : Result Answer EngineFault
    answer = said kind order s call

    abbrev later : State M
    later = next kind order s call

    known : Facts kind laws order permutes some h s
    known = facts kind laws order permutes some h s led

    -- the journal after the call, by its answer
    journal_told : (a : Result Answer EngineFault) → answer ≡ a → later.journal ≡ recorded order a now s.journal
    journal_told a e = ap (λ (r : Result Answer EngineFault). recorded order r now s.journal) e

    -- going down
    below_full : s.standing ≡ GoingDown None → level_sum now < full order
    below_full st =
        let r : InRange (full order) (GoingDown None) (level_sum now) = range_at kind laws order permutes some h s known (GoingDown None) st in
        omega (arith, r.limit)

    -- where it stood, by the answer
    was_down : answer ≡ Ok (Stepped Lowered) → s.standing ≡ GoingDown None
    was_down a = grind (arith, effect order now call s.standing, ap alters a)

    was_up : answer ≡ Ok (Stepped Raised) → (end : Outcome) × (s.standing ≡ ComingUp end)
    was_up a = grind (arith, effect order now call s.standing, ap alters a)

    was_open : (end : Outcome) → answer ≡ Ok (Closed end) → s.standing ≢ Awake
    was_open end a = grind (arith, effect order now call s.standing, ap alters a)

    -- the raising of the last device lowered
    raised : answer ≡ Ok (Stepped Raised) → (x : ℕ) × OneHigher x now (shown kind order later) × NotesUp x now s.journal later.journal
    raised a =
        let (end, st) = was_up a in
        let t = tells_at kind laws order permutes some h s known (ComingUp end) st in
        let j : ℕ = level_sum now - 1 in
        let k : level_sum now ≡ suc j = omega (arith, t.2) in
        let r : Raising kind laws order permutes some s.model j = raising kind laws order permutes some s.model j known.sound known.scheduled k in (
          device_of order j,
          subst (λ (m : M). OneHigher (device_of order j) now (kind.devices m)) (sym (model_told kind order s call (Ok (Stepped Raised)) a)) r.one,
          (phase (length order) j, phase_up order permutes some now known.scheduled j k, journal_told (Ok (Stepped Raised)) a),
        )

  pub notes : (h : History) (s : State M) (call : Call) → FitsCall call → LedTo kind order h s
      → Notes kind order call s (said kind order s call) (next kind order s call)
  notes h s call fits led =
      let now : List Device = shown kind order s in
      let f = known h s call led in
      record {
        opening = λ a. journal_told h s call led _ a;
        lowering = λ a. (
          phase (length order) (level_sum now),
          phase_down order permutes some now f.scheduled (below_full h s call led (was_down h s call led a)),
          journal_told h s call led _ a,
        );
        hindered = λ a. (
          phase (length order) (level_sum now),
          phase_down order permutes some now f.scheduled (below_full h s call led (hindering order now call s.standing a).0),
          journal_told h s call led _ a,
        );
        raising = raised h s call led;
        closing = λ end a. (entries_up order (level_sum now), journal_told h s call led _ a, are_raisings order (level_sum now));
        mirrored = λ end a.
            let w : under_way h ≡ true = is_open order h now s.standing f.stands (was_open h s call led end a) in
            subst (λ (j : List Entry). way Up j ≡ reverse (way Down j)) (sym (journal_told h s call led _ a))
            (mirrors_close order s.journal _ _ (mirrors kind laws order permutes some h s led w));
        alarmed = λ a. journal_told h s call led _ a;
        others = unnoted order now call s.standing s.journal;
      }
