-- From answers by cases to answers as equivalences.
use Rattle.std.proofs.Common.{◌≡◌, ℕ, List, Ok, Err, Result, false, refl, ap, subst, arith}
use Rattle.std.proofs.lemmas.Bool.{both_ways}
use Rattle.boardfile.proofs.Exclusion.{refused_once, refused_wrong}
use Rattle.history.specs.declared.outcome.Outcome.{Outcome}
use Rattle.lines.specs.declared.report.Report.{Report}
use Rattle.program.specs.declared.fault.ProgramFault.{ProgramFault}
use Rattle.program.specs.declared.fault.ProgramFault.TheVariants.{Board, Sheet, Buffer, NoDevice, NoLevel, Engine}
use Rattle.program.specs.declared.fault.RunFault.{RunFault}
use Rattle.program.specs.declared.fault.RunFault.TheVariants.{Program, Memory}
use Rattle.run.specs.Files.{Fit, RefusesFiles}
use Rattle.run.specs.Running.{Runs, ExactRun}
use Rattle.run.specs.Asking.{CanAsk, RefusesAsking, Asks, ExactAnswer}

module _ (bs sheet : List ℕ) where
  -- files that are refused do not fit, and are refused in one way
  pub files_unfit : (f : ProgramFault) → RefusesFiles bs sheet f → Fit bs sheet → ⊥
  files_unfit (Board f) refused fit = refused_wrong bs f refused fit.right
  files_unfit Sheet (right, other) fit = other fit.cells
  files_unfit Buffer none fit = none
  files_unfit (NoDevice d) none fit = none
  files_unfit NoLevel none fit = none
  files_unfit (Engine f k) none fit = none

  pub files_once : (f g : ProgramFault) → RefusesFiles bs sheet f → RefusesFiles bs sheet g → f ≡ g
  files_once (Board f) (Board g) r s = ap Board (refused_once bs f g r s)
  files_once (Board f) Sheet r (right, other) = absurd (refused_wrong bs f r right)
  files_once Sheet (Board g) (right, other) s = absurd (refused_wrong bs g s right)
  files_once Sheet Sheet r s = refl
  files_once f Buffer r none = absurd none
  files_once f (NoDevice d) r none = absurd none
  files_once f NoLevel r none = absurd none
  files_once f (Engine g k) r none = absurd none
  files_once Buffer g none s = absurd none
  files_once (NoDevice d) g none s = absurd none
  files_once NoLevel g none s = absurd none
  files_once (Engine f k) g none s = absurd none

  pub exact_run : (r : Result Report RunFault) → Runs bs sheet r → ExactRun bs sheet r
  exact_run (Ok report) y = grind (arith, files_unfit)
  exact_run (Err (Program g)) y =
      record {
        runs = λ _. ((λ e. absurd (both_ways false refl e)), (λ fit. absurd (files_unfit g y fit)));
        refuses = λ f. ((λ e. subst (λ (r : Result Report RunFault). Runs bs sheet r) e y), (λ s. ap (λ h. Err (Program h)) (files_once g f y s)));
      }
  exact_run (Err Memory) y = grind (arith, files_unfit)

  module _ (device level : ℕ) where
    pub asking_unfit : (f : ProgramFault) → RefusesAsking bs sheet device level f → CanAsk bs sheet device level → ⊥
    asking_unfit (Board f) refused can = files_unfit (Board f) refused can.files
    asking_unfit Sheet refused can = files_unfit Sheet refused can.files
    asking_unfit (NoDevice d) (fit, past, same) can = omega (arith, past, can.known)
    asking_unfit NoLevel (fit, inside, other) can = other can.leads
    asking_unfit Buffer none can = none
    asking_unfit (Engine f k) none can = none

    asking_once : (f g : ProgramFault) → RefusesAsking bs sheet device level f → RefusesAsking bs sheet device level g → f ≡ g
    asking_once (Board f) (Board g) r s = files_once (Board f) (Board g) r s
    asking_once (Board f) Sheet r s = files_once (Board f) Sheet r s
    asking_once Sheet (Board g) r s = files_once Sheet (Board g) r s
    asking_once Sheet Sheet r s = refl
    asking_once (Board f) (NoDevice d) r s = absurd (files_unfit (Board f) r s.0)
    asking_once (Board f) NoLevel r s = absurd (files_unfit (Board f) r s.0)
    asking_once Sheet (NoDevice d) r s = absurd (files_unfit Sheet r s.0)
    asking_once Sheet NoLevel r s = absurd (files_unfit Sheet r s.0)
    asking_once (NoDevice d) (Board g) r s = absurd (files_unfit (Board g) s r.0)
    asking_once (NoDevice d) Sheet r s = absurd (files_unfit Sheet s r.0)
    asking_once (NoDevice d) (NoDevice e) r s = rw (r.2, s.2) refl
    asking_once (NoDevice d) NoLevel r s = absurd (omega (arith, r.1, s.1))
    asking_once NoLevel (Board g) r s = absurd (files_unfit (Board g) s r.0)
    asking_once NoLevel Sheet r s = absurd (files_unfit Sheet s r.0)
    asking_once NoLevel (NoDevice e) r s = absurd (omega (arith, r.1, s.1))
    asking_once NoLevel NoLevel r s = refl
    asking_once f Buffer r none = absurd none
    asking_once f (Engine g k) r none = absurd none
    asking_once Buffer g none s = absurd none
    asking_once (Engine f k) g none s = absurd none

    pub exact_answer : (byte : ℕ) (r : Result Outcome RunFault) → Asks bs sheet device level byte r → ExactAnswer bs sheet device level r
    exact_answer byte (Ok outcome) y = grind (arith, asking_unfit)
    exact_answer byte (Err (Program g)) y =
        record {
          answers = λ _. ((λ e. absurd (both_ways false refl e)), (λ can. absurd (asking_unfit g y can)));
          refuses = λ f. ((λ e. subst (λ (r : Result Outcome RunFault). Asks bs sheet device level byte r) e y), (λ s. ap (λ h. Err (Program h)) (asking_once g f y s)));
        }
    exact_answer byte (Err Memory) y = grind (arith, asking_unfit)
