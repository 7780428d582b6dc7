-- Calls one after another, as a loop makes them.
use Rattle.std.proofs.Common.{◌≡◌, ◌⊎◌, ℕ, Bool, true, suc, ◌+◌, ◌<◌, ◌≤◌, List, [], ◌∷◌, ◌++◌, length, get_or, drop, append_assoc, refl, ap, sym, subst, ◌∙◌, inl, inr, arith}
use Rattle.std.proofs.lemmas.Bool.{cases_lt}
use Rattle.std.specs.Prelude.{Result}
use Rattle.order.specs.declared.ordering.Order.{Order}
use Rattle.order.specs.Answers.{Superior, devices}
use Rattle.bank.specs.Laws.{Kind, Laws}
use Rattle.history.specs.declared.call.Call.{Call}
use Rattle.history.specs.declared.call.Call.TheVariants.{Open}
use Rattle.history.specs.declared.answer.Answer.{Answer}
use Rattle.history.specs.declared.fault.EngineFault.{EngineFault}
use Rattle.history.specs.Rules.{State, said, next, all_said, after_all}
use Rattle.history.specs.Attempts.{History, at}
use Rattle.history.specs.Law.{FitsCall, LedTo, AreLawful, ObeyAll}
use Rattle.engine.specs.Tickets.{owes_after, owes, is_open}
use Rattle.engine.proofs.Opening.{stays_open}
use Rattle.engine.proofs.Law.{keeps_law}
use Rattle.std.proofs.lemmas.List.{at_drop_more}

-- a ticket owed after one answer more
pub owes_push : (owed : Bool) (answers : List (Result Answer EngineFault)) (answer : Result Answer EngineFault) → owes owed (answers ++ answer ∷ []) ≡ owes_after (owes owed answers) answer
owes_push owed [] answer = refl
owes_push owed (x ∷ answers) answer = owes_push (owes_after owed x) answers answer

-- one call more is made, which leaves the engine as s'
module _ {M : Type 0} (kind : Kind M) (order : List ℕ) (s s' : State M) (calls : List Call) (i : ℕ) (call : Call) (answer : Result Answer EngineFault)
    (inside : i < length calls) (says : answer ≡ said kind order s (get_or calls i call)) (becomes : s' ≡ next kind order s (get_or calls i call)) where
  pub said_more : (answers all : List (Result Answer EngineFault)) → answers ++ all_said kind order s (drop i calls) ≡ all → (answers ++ answer ∷ []) ++ all_said kind order s' (drop (i + 1) calls) ≡ all
  said_more answers all e =
      append_assoc answers (answer ∷ []) (all_said kind order s' (drop (i + 1) calls))
      ∙ rw (says, becomes) (ap (λ (rest : List (Result Answer EngineFault)). answers ++ rest) (sym (at_drop_more (all_said kind order s) calls i call inside)))
      ∙ e

  pub after_more : (last : State M) → after_all kind order s (drop i calls) ≡ last → after_all kind order s' (drop (i + 1) calls) ≡ last
  after_more last e = rw becomes (sym (at_drop_more (after_all kind order s) calls i call inside)) ∙ e

module _ {M : Type 0} {limit : ℕ} (kind : Kind M) (laws : Laws limit kind) (order : Order) where
  are_lawful : (calls : List Call) (s : State M) (h : History) → ((i : ℕ) → i < length calls → FitsCall (get_or calls i Open)) → LedTo kind (devices order) h s
      → AreLawful kind (Superior order.superiors) (devices order) h s calls (all_said kind (devices order) s calls) (after_all kind (devices order) s calls)
  are_lawful [] s h fits led = (refl, led)
  are_lawful (call ∷ calls) s h fits led =
      let k = keeps_law kind laws order call s (next kind (devices order) s call) (said kind (devices order) s call) (fits 0 (omega arith)) refl refl in
      (next kind (devices order) s call, k.lawful h led, are_lawful calls (next kind (devices order) s call) (at call (kind.devices s.model) ∷ h) (λ i l. fits (suc i) (omega arith)) (k.leads h led))

  pub all_keep : (calls : List Call) (s later : State M) (answers : List (Result Answer EngineFault)) → ((i : ℕ) → i < length calls → FitsCall (get_or calls i Open))
      → answers ≡ all_said kind (devices order) s calls → later ≡ after_all kind (devices order) s calls
      → ObeyAll kind (Superior order.superiors) (devices order) calls s answers later
  all_keep calls s later answers fits a t = rw (a, t) (record { lawful = λ h led. are_lawful calls s h fits led })

-- the calls so far fit, with one more
pub fits_more : (calls : List Call) (i : ℕ) → ((j : ℕ) → j < i → FitsCall (get_or calls j Open)) → FitsCall (get_or calls i Open) → (j : ℕ) → j < i + 1 → FitsCall (get_or calls j Open)
fits_more calls i before fits j h = go (cases_lt j i)
  where
    go : (j < i) ⊎ (i ≤ j) → FitsCall (get_or calls j Open)
    go (inl l) = before j l
    go (inr l) = subst (λ k. FitsCall (get_or calls k Open)) (let e : i ≡ j = omega arith in e) fits

-- a ticket that is owed after one call more
pub opens_more : {M : Type 0} (kind : Kind M) (order : List ℕ) (s s' : State M) (call : Call) (answer : Result Answer EngineFault) (owed : Bool)
    → answer ≡ said kind order s call → s' ≡ next kind order s call → (owed ≡ true → is_open s.standing ≡ true) → owes_after owed answer ≡ true → is_open s'.standing ≡ true
opens_more kind order s s' call answer owed a t was o =
    ap (λ (x : State _). is_open x.standing) t ∙ stays_open order (kind.devices s.model) owed s.standing call was (ap (owes_after owed) (sym a) ∙ o)
