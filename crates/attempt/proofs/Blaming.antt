-- What an attempt tells of the schedule, from its opening to its close.
use Rattle.std.proofs.Common.{◌≡◌, ◌≢◌, ℕ, true, false, zero, suc, ◌-◌, ◌<◌, ◌≤◌, List, [], ◌∷◌, ◌++◌, length, append_assoc, refl, ap, sym, subst, ◌∙◌, ⊎_elim, arith}
use Rattle.std.specs.Prelude.{pos, None, Some, Ok, ◌==◌}
use Rattle.std.proofs.lemmas.Bool.{cond_both, cases_lt, eqb-true, eqb-false}
use Rattle.order.specs.Orders.{Permutes}
use Rattle.bank.specs.Meaning.{Device, absent, hindrance}
use Rattle.bank.specs.Laws.{Kind, Laws}
use Rattle.history.specs.declared.answer.Answer.{Answer}
use Rattle.history.specs.declared.answer.Answer.TheVariants.{Stepped, Closed}
use Rattle.history.specs.declared.answer.StepAnswer.TheVariants.{Lowered, Raised, Hindered}
use Rattle.history.specs.declared.call.Call.TheVariants.{Step, Close}
use Rattle.history.specs.declared.entry.Entry.{Entry}
use Rattle.history.specs.declared.entry.Direction.TheVariants.{Down, Up}
use Rattle.history.specs.declared.outcome.Outcome.{Outcome}
use Rattle.history.specs.declared.standing.Standing.{Standing}
use Rattle.history.specs.declared.standing.Standing.TheVariants.{Awake, GoingDown, Asleep, ComingUp, Landed}
use Rattle.history.specs.Attempts.{next_device, by_fault, slept_with, rising}
use Rattle.history.specs.Numbers.{outcome_values}
use Rattle.history.specs.Rules.{State, said, next, entry, entries_up, recorded, stands_after, model_after}
use Rattle.history.specs.Schedule.{full, level_sum}
use Rattle.history.proofs.Schedules.{next_inside}
use Rattle.history.proofs.Moves.{Lowering, lowering, Raising, raising}
use Rattle.attempt.specs.Runs.{is_at_rest}
use Rattle.attempt.specs.Blames.{gone_down, hinders, AreFree, Blames, entries_down, run_journal}
use Rattle.attempt.proofs.Steps.{Keeps}

module _ {M : Type 0} {limit : ℕ} (kind : Kind M) (laws : Laws limit kind) (order : List ℕ)
    (permutes : Permutes (length order) order) (some : 1 ≤ length order) (start : M) where
  -- k lowerings were taken, and nothing else
  pub record Descended (s : State M) (k : ℕ) : Type 0 where
    pub sum : level_sum (kind.devices s.model) ≡ k
    pub model : s.model ≡ gone_down kind order start k
    pub free : AreFree kind order start k
    pub journal : s.journal ≡ entries_down kind order start k

  -- the descent has ended so, and what is left to raise is what the journal still lacks
  pub record Turned (s : State M) (outcome : Outcome) : Type 0 where
    pub blames : Blames kind order start outcome
    pub journal : s.journal ++ entries_up order (level_sum (kind.devices s.model)) ≡ run_journal kind order start outcome
    pub errno : (outcome_values outcome).errno ≤ limit

  abbrev pub TellsAt : Standing → State M → Type 0
  TellsAt Awake s = ⊥
  TellsAt (GoingDown None) s = Descended s (level_sum (kind.devices s.model))
  TellsAt (GoingDown (Some d)) s = ⊥
  TellsAt Asleep s = Descended s (level_sum (kind.devices s.model))
  TellsAt (ComingUp outcome) s = Turned s outcome
  TellsAt (Landed outcome) s = Turned s outcome

  -- what an engine tells of the schedule, from where it stands
  abbrev pub Tells : State M → Type 0
  Tells s = TellsAt s.standing s

  abbrev at : M → Standing → List Entry → State M
  at m st js = record { model = m; standing = st; journal = js }

  risen : (s : State M) (k : ℕ) (outcome : Outcome) → Turned s outcome → TellsAt (rising outcome k) s
  risen s zero outcome t = t
  risen s (suc k) outcome t = t

  -- after a step that is answered so
  abbrev after : M → Standing → List Entry → Answer → State M
  after m st js a =
      record {
        model = model_after kind order Step (Ok a) m;
        standing = stands_after order st Step (Ok a) (kind.devices m);
        journal = recorded order (Ok a) (kind.devices m) js;
      }

  module _ (m : M) (js : List Entry) (k : Keeps kind laws order permutes some (at m (GoingDown None) js))
      (d : Descended (at m (GoingDown None) js) (level_sum (kind.devices m))) where
    abbrev now : List Device
    now = kind.devices m

    abbrev sum : ℕ
    sum = level_sum now

    -- the device of this lowering is hindered as the schedule tells
    same : hinders kind order start sum ≡ hindrance now (next_device order now)
    same = ap (λ (x : M). hindrance (kind.devices x) (next_device order now)) (sym d.model)

    lowered : hindrance now (next_device order now) ≡ 0 → Tells (after m (GoingDown None) js (Stepped Lowered))
    lowered e =
        let l : Lowering kind laws order permutes some m = lowering kind laws order permutes some m k.sound k.scheduled k.in_range.limit in
        let later : State M = after m (GoingDown None) js (Stepped Lowered) in
        let more : Descended later (suc sum) = record {
          sum = l.more e;
          model = ap (λ (x : M). kind.lowered x (next_device order now)) d.model;
          free = free e;
          journal = ap (λ (j : List Entry). j ++ entry order Down sum (pos 0) ∷ []) d.journal;
        } in
        let known : Descended later (level_sum (kind.devices later.model)) = subst (Descended later) (sym (l.more e)) more in
        cond_both (suc sum == full order) Asleep (GoingDown None) (λ (st : Standing). TellsAt st later) (λ _. known) (λ _. known)
      where
        free : hindrance now (next_device order now) ≡ 0 → AreFree kind order start (suc sum)
        free e i h = ⊎_elim (λ (l : i < sum). d.free i l) (λ (l : sum ≤ i). subst (λ j. hinders kind order start j ≡ 0) (let q : sum ≡ i = omega arith in q) (same ∙ e)) (cases_lt i sum)

    hindered : hindrance now (next_device order now) ≢ 0 → Tells (after m (GoingDown None) js (Stepped Hindered))
    hindered n =
        risen (after m (GoingDown None) js (Stepped Hindered)) sum (by_fault order now) (record {
          blames = (k.in_range.limit, d.free, omega (arith, same, n), sym same, refl, refl);
          journal = append_assoc js _ _ ∙ cc d.journal;
          errno = (laws.means m k.sound).errnos (next_device order now) absent
              (omega (arith, k.scheduled.count, next_inside order permutes some sum k.in_range.limit));
        })

  step_at : (m : M) (st : Standing) (js : List Entry) → Keeps kind laws order permutes some (at m st js) → Tells (at m st js) → is_at_rest st ≡ false
      → Tells (next kind order (at m st js) Step)
  step_at m Awake js k d r = absurd d
  step_at m (GoingDown (Some x)) js k d r = absurd d
  step_at m Asleep js k d r = absurd (cc)
  step_at m (Landed outcome) js k d r = absurd (cc)
  step_at m (GoingDown None) js k d r =
      cond_both (hindrance (kind.devices m) (next_device order (kind.devices m)) == 0) (Stepped Lowered) (Stepped Hindered)
      (λ (a : Answer). Tells (after m (GoingDown None) js a))
      (λ e. lowered m js k d (eqb-true _ 0 e)) (λ e. hindered m js k d (eqb-false _ 0 e))
  step_at m (ComingUp outcome) js k d r =
      let j : ℕ = level_sum (kind.devices m) - 1 in
      let e : level_sum (kind.devices m) ≡ suc j = omega (arith, k.in_range.least) in
      let x : Raising kind laws order permutes some m j = raising kind laws order permutes some m j k.sound k.scheduled e in
      risen (after m (ComingUp outcome) js (Stepped Raised)) j outcome (record {
        blames = d.blames;
        errno = d.errno;
        journal = ap (λ i. (js ++ entry order Up j (pos 0) ∷ []) ++ entries_up order i) x.less
            ∙ append_assoc js (entry order Up j (pos 0) ∷ []) (entries_up order j)
            ∙ ap (λ i. js ++ entries_up order i) (sym e) ∙ d.journal;
      })

  pub tells_step : (s : State M) → Keeps kind laws order permutes some s → Tells s → is_at_rest s.standing ≡ false → Tells (next kind order s Step)
  tells_step s = step_at s.model s.standing s.journal

  -- the close of an engine that is at rest
  pub record Closes (s : State M) (outcome : Outcome) : Type 0 where
    pub answer : said kind order s Close ≡ Ok (Closed outcome)
    pub blames : Blames kind order start outcome
    pub journal : (next kind order s Close).journal ≡ run_journal kind order start outcome
    pub errno : (outcome_values outcome).errno ≤ limit

  close_at : (m : M) (st : Standing) (js : List Entry) → Keeps kind laws order permutes some (at m st js) → Tells (at m st js) → is_at_rest st ≡ true
      → (outcome : Outcome) × Closes (at m st js) outcome
  close_at m Awake js k d r = absurd d
  close_at m (GoingDown alarm) js k d r = absurd (cc)
  close_at m (ComingUp outcome) js k d r = absurd (cc)
  close_at m Asleep js k d r =
      let e : level_sum (kind.devices m) ≡ full order = omega (arith, k.in_range.least, k.in_range.limit) in (
        slept_with order None,
        record {
          answer = refl;
          blames = (refl, refl, subst (AreFree kind order start) e d.free);
          journal = ap (λ (j : List Entry). j ++ entries_up order (level_sum (kind.devices m))) d.journal
              ∙ ap (λ i. entries_down kind order start i ++ entries_up order i) e;
          errno = omega arith;
        },
      )
  close_at m (Landed outcome) js k d r = (outcome, record { answer = refl; blames = d.blames; journal = d.journal; errno = d.errno })

  pub tells_close : (s : State M) → Keeps kind laws order permutes some s → Tells s → is_at_rest s.standing ≡ true → (outcome : Outcome) × Closes s outcome
  tells_close s = close_at s.model s.standing s.journal
