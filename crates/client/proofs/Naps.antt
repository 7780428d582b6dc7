-- An attempt, followed from its opening to its close by what the calls promise.
use Rattle.std.proofs.Common.{◌≡◌, ℕ, suc, Bool, true, false, List, ◌∷◌, refl, ap, sym, ◌∙◌, arith}
use Rattle.std.specs.Prelude.{if◌then◌else◌, Ok, Err, Result}
use Rattle.bank.specs.Meaning.{Device, piles}
use Rattle.bank.specs.Laws.{Kind}
use Rattle.history.specs.declared.call.Call.TheVariants.{Open, Step, Close}
use Rattle.history.specs.declared.answer.Answer.{Answer}
use Rattle.history.specs.declared.answer.Answer.TheVariants.{Opened}
use Rattle.history.specs.declared.fault.EngineFault.{EngineFault}
use Rattle.history.specs.declared.fault.EngineFault.TheVariants.{InAttempt}
use Rattle.history.specs.Attempts.{History, at, under_way, opening}
use Rattle.history.specs.Rules.{State, shown, said, next}
use Rattle.client.specs.Naps.{after_steps}
use Rattle.history.specs.Law.{LedTo, Obeys}

-- the opening, by whether an attempt was under way
newest : (u : Bool) (a b : List Device) → u ≡ false → (if u then a else b) ≡ b
newest true a b e = grind arith
newest false a b e = refl

older : (u : Bool) (a b : List Device) → u ≡ true → (if u then a else b) ≡ a
older true a b e = refl
older false a b e = grind arith

module _ {M : Type 0} (kind : Kind M) (superior : ℕ → ℕ → Type 0) (order : List ℕ) where
  -- some history led to the engine, and its attempt was opened with these devices
  abbrev pub Since : List Device → State M → Type 0
  Since start s = (h : History) × LedTo kind order h s × (under_way h ≡ true) × (opening h ≡ start)

  pub opened : (s later : State M) (answer : Result Answer EngineFault) → Obeys kind superior order Open s answer later → answer ≡ Ok Opened → (h : History) → LedTo kind order h s → Since (shown kind order s) later
  opened s later answer obeys is h led = (at Open (shown kind order s) ∷ h, obeys.leads h led, refl, newest (under_way h) (opening h) (shown kind order s) (none_open (under_way h) refl))
    where
      none_open : (u : Bool) → under_way h ≡ u → under_way h ≡ false
      none_open false e = e
      none_open true e =
          let refused : answer ≡ Err InAttempt = ((obeys.lawful h led).refuses InAttempt).1 (e, refl) in
          let no : Ok Opened ≡ Err InAttempt = sym is ∙ refused in grind arith

  pub stepped : (start : List Device) (s later : State M) (answer : Result Answer EngineFault) → Obeys kind superior order Step s answer later → Since start s → Since start later
  stepped start s later answer obeys (h, led, open_, found) =
      (at Step (shown kind order s) ∷ h, obeys.leads h led, open_, older (under_way h) (opening h) (shown kind order s) open_ ∙ found)

  pub closed : (start : List Device) (s later : State M) (answer : Result Answer EngineFault) → Obeys kind superior order Close s answer later → Since start s
      → (piles (shown kind order later) ≡ piles start) × ((h : History) × LedTo kind order h later)
  closed start s later answer obeys (h, led, open_, found) =
      (((obeys.lawful h led).closes refl open_).1 ∙ ap piles found, (at Close (shown kind order s) ∷ h, obeys.leads h led))

-- the rules do not ask which of two orders that are the same
module _ {M : Type 0} (kind : Kind M) (order now : List ℕ) where
  pub one_more : (start s later : State M) (k m : ℕ) → m ≡ suc k → now ≡ order → s ≡ after_steps kind order start k → later ≡ next kind now s Step → later ≡ after_steps kind order start m
  one_more start s later k m more same is becomes = let now_is : later ≡ next kind order (after_steps kind order start k) Step = rw (same, is) at becomes in rw more now_is

  pub closed_so : (s at_rest : State M) → now ≡ order → s ≡ at_rest → (later : State M) → later ≡ next kind now s Close → later ≡ next kind order at_rest Close
  closed_so s at_rest same is later becomes = rw (same, is) at becomes

  pub said_so : (s at_rest : State M) → now ≡ order → s ≡ at_rest → (answer : Result Answer EngineFault) → answer ≡ said kind now s Close → answer ≡ said kind order at_rest Close
  said_so s at_rest same is answer says = rw (same, is) at says
