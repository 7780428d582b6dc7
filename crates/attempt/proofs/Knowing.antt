-- The numbers in the journal of a run and in its outcome.
use Rattle.std.proofs.Common.{◌≡◌, ℕ, zero, suc, ◌<◌, ◌≤◌, List, [], ◌∷◌, All, length, subst, arith}
use Rattle.std.specs.Prelude.{pos, neg_ℤ}
use Rattle.std.proofs.lemmas.List.Elements.{All-nil, All-cons, All-append}
use Rattle.order.specs.Orders.{Permutes}
use Rattle.bank.specs.Laws.{Kind}
use Rattle.history.specs.declared.entry.Entry.{Entry}
use Rattle.history.specs.declared.entry.Direction.TheVariants.{Down, Up}
use Rattle.history.specs.declared.outcome.Outcome.{Outcome}
use Rattle.history.specs.declared.outcome.Outcome.TheVariants.{Slept, Fault, Alarm, Cancelled}
use Rattle.history.specs.Numbers.{outcome_values}
use Rattle.history.specs.Rules.{entry, entries_up}
use Rattle.history.specs.Schedule.{device_of, full}
use Rattle.history.proofs.Schedules.{next_inside}
use Rattle.attempt.specs.Blames.{Blames, entries_down, entries_hindered, taken_of, run_journal}
use Rattle.attempt.specs.Keeping.{AreKnown, IsKnown, no_entry}

module _ {M : Type 0} (kind : Kind M) (order : List ℕ) (permutes : Permutes (length order) order) (some : 1 ≤ length order) (start : M) where
  -- the entry of a device of the order
  abbrev IsOf : Entry → Type 0
  IsOf e = e.device < length order

  inside : (j : ℕ) → j < full order → device_of order j < length order
  inside = next_inside order permutes some

  down : (k : ℕ) → k ≤ full order → All IsOf (entries_down kind order start k)
  down zero h = All-nil IsOf
  down (suc k) h =
      All-append IsOf (entries_down kind order start k) (entry order Down k (pos 0) ∷ []) (down k (omega arith))
      (All-cons IsOf (entry order Down k (pos 0)) [] (inside k (omega arith)) (All-nil IsOf))

  up : (k : ℕ) → k ≤ full order → All IsOf (entries_up order k)
  up zero h = All-nil IsOf
  up (suc k) h = All-cons IsOf (entry order Up k (pos 0)) (entries_up order k) (inside k (omega arith)) (up k (omega arith))

  few_taken : (outcome : Outcome) → Blames kind order start outcome → taken_of kind order start outcome ≤ full order
  few_taken (Slept alarm taken) b = omega (arith, b.1)
  few_taken (Fault errno device by taken) b = omega (arith, b.0)
  few_taken (Alarm device by taken) b = absurd b
  few_taken (Cancelled by taken) b = absurd b

  hindered : (outcome : Outcome) → Blames kind order start outcome → All IsOf (entries_hindered kind order start outcome)
  hindered (Slept alarm taken) b = All-nil IsOf
  hindered (Fault errno device by taken) b = All-cons IsOf (entry order Down taken (neg_ℤ (pos errno))) [] (inside taken b.0) (All-nil IsOf)
  hindered (Alarm device by taken) b = absurd b
  hindered (Cancelled by taken) b = absurd b

  -- the entries are of devices of the order
  pub entries_known : (outcome : Outcome) → Blames kind order start outcome → AreKnown (length order) (run_journal kind order start outcome)
  entries_known outcome b =
      let k : ℕ = taken_of kind order start outcome in
      let h : k ≤ full order = few_taken outcome b in
      let all : All IsOf (run_journal kind order start outcome) = All-append IsOf (entries_down kind order start k) _ (down k h)
      (All-append IsOf (entries_hindered kind order start outcome) (entries_up order k) (hindered outcome b) (up k h)) in
      λ i l. all i no_entry l

  -- and so is the device that is blamed; the numbers are small
  pub outcome_known : (outcome : Outcome) → Blames kind order start outcome → length order ≤ 64 → (outcome_values outcome).errno ≤ 255
      → IsKnown (length order) outcome
  outcome_known (Slept alarm taken) b few least = record { device = λ d e. absurd (cc (b.0, e)); errno = omega arith; taken = omega (arith, b.1) }
  outcome_known (Fault errno device by taken) b few least =
      record {
        device = λ d e. subst (λ x. x < length order) (let q : device_of order taken ≡ d = cc (b.4, e) in q) (inside taken b.0);
        errno = omega arith;
        taken = omega (arith, b.0);
      }
  outcome_known (Alarm device by taken) b few least = absurd b
  outcome_known (Cancelled by taken) b few least = absurd b
