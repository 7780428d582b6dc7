-- What the standing of an engine tells of its history.
use Rattle.std.proofs.Common.{◌≡◌, ◌≢◌, ℕ, Bool, true, false, zero, suc, ◌≤◌, List, refl, ap, sym, subst, ◌∙◌, ⊎_elim, arith}
use Rattle.std.specs.Prelude.{Some, None, Option, if◌then◌else◌, ◌||◌}
use Rattle.std.proofs.lemmas.Bool.{both_ways, cases_Bool, cond-false}
use Rattle.bank.specs.Meaning.{Device}
use Rattle.history.specs.declared.outcome.Outcome.{Outcome}
use Rattle.history.specs.declared.standing.Standing.{Standing}
use Rattle.history.specs.declared.standing.Standing.TheVariants.{Awake, GoingDown, Asleep, ComingUp, Landed}
use Rattle.history.specs.declared.standing.Stage.TheVariants as stage
use Rattle.history.specs.Schedule.{level_sum}
use Rattle.history.specs.Attempts.{History, under_way, Descent, descent, has_ended, all_down, rising, slept_with, resting, standing, stage_of}

module _ (order : List ℕ) where
  -- where an engine stands, from what is under way, kept and turned, whether the board is or was asleep, and the sum of the levels
  abbrev pub stands_in : Bool → Option ℕ → Option Outcome → Bool → ℕ → Standing
  stands_in u kept turned down k =
      if u then elim turned [ None ↦ if down then resting order kept k else GoingDown kept | Some outcome ↦ rising outcome k ] else Awake

  -- how an attempt that comes up, or has landed, came to its outcome: by a step, or by an alarm at sleep
  pub data Whence (kept : Option ℕ) (turned : Option Outcome) (down : Bool) (outcome : Outcome) : Type 0 where
    by_step : turned ≡ Some outcome → Whence kept turned down outcome
    at_sleep : (d : ℕ) → turned ≡ None → down ≡ true → kept ≡ Some d → outcome ≡ slept_with order (Some d) → Whence kept turned down outcome

  -- what a standing tells
  abbrev pub Tells : Bool → Option ℕ → Option Outcome → Bool → ℕ → Standing → Type 0
  Tells u kept turned down k Awake = u ≡ false
  Tells u kept turned down k (GoingDown alarm) = (u ≡ true) × (turned ≡ None) × (down ≡ false) × (kept ≡ alarm)
  Tells u kept turned down k Asleep = (u ≡ true) × (turned ≡ None) × (down ≡ true) × (kept ≡ None)
  Tells u kept turned down k (ComingUp outcome) = (u ≡ true) × Whence kept turned down outcome × (1 ≤ k)
  Tells u kept turned down k (Landed outcome) = (u ≡ true) × Whence kept turned down outcome × (k ≡ 0)

  pub tells : (u : Bool) (kept : Option ℕ) (turned : Option Outcome) (down : Bool) (k : ℕ) → Tells u kept turned down k (stands_in u kept turned down k)
  tells false kept turned down k = refl
  tells true kept None false k = (refl, refl, refl, refl)
  tells true None None true k = (refl, refl, refl, refl)
  tells true (Some d) None true zero = (refl, at_sleep d refl refl refl refl, refl)
  tells true (Some d) None true (suc k) = (refl, at_sleep d refl refl refl refl, omega arith)
  tells true kept (Some outcome) down zero = (refl, by_step refl, refl)
  tells true kept (Some outcome) down (suc k) = (refl, by_step refl, omega arith)

  module _ (h : History) (now : List Device) where
    -- the descent so far, and whether the board is asleep, or was
    abbrev past : Descent
    past = descent order h

    abbrev pub slept_now : Bool
    slept_now = past.slept || all_down order now

    abbrev pub TellsOf : Standing → Type 0
    TellsOf st = Tells (under_way h) past.kept past.turned slept_now (level_sum now) st

    pub told_of : (st : Standing) → st ≡ standing order h now → TellsOf st
    told_of st e = subst (λ (x : Standing). TellsOf x) (sym e) (tells (under_way h) past.kept past.turned slept_now (level_sum now))

    -- an attempt is under way unless the engine stands awake
    pub is_open : (st : Standing) → st ≡ standing order h now → st ≢ Awake → under_way h ≡ true
    is_open st e n = ⊎_elim (λ u. u) (λ u. absurd (n (e ∙ cond-false (under_way h) _ _ u))) (cases_Bool (under_way h))

    -- whether the descent has ended
    pub ends_at_sleep : (b : Bool) → past.turned ≡ None → slept_now ≡ b → has_ended order past now ≡ b
    ends_at_sleep b n d = ap (λ (x : Option Outcome). elim x [ None ↦ slept_now | Some outcome ↦ true ]) n ∙ d

    pub has_turned : (end : Outcome) → Whence past.kept past.turned slept_now end → has_ended order past now ≡ true
    has_turned end (by_step e) = ap (λ (x : Option Outcome). elim x [ None ↦ slept_now | Some outcome ↦ true ]) e
    has_turned end (at_sleep d n s k o) = ends_at_sleep true n s

    -- it goes down exactly while the descent lasts
    pub goes_down : (st : Standing) → TellsOf st → stage_of st ≡ stage.GoingDown
        → (under_way h ≡ true) × (has_ended order past now ≡ false) × (slept_now ≡ false) × (st ≡ GoingDown past.kept)
    goes_down (GoingDown alarm) t e = (t.0, ends_at_sleep false t.1 t.2, t.2, ap (λ (o : Option ℕ). GoingDown o) (sym t.3))
    goes_down st t e = absurd (cc)

    pub is_down : under_way h ≡ true → has_ended order past now ≡ false → (st : Standing) → TellsOf st → stage_of st ≡ stage.GoingDown
    is_down u n Awake t = absurd (both_ways _ t u)
    is_down u n (GoingDown alarm) t = refl
    is_down u n Asleep t = absurd (both_ways _ n (ends_at_sleep true t.1 t.2))
    is_down u n (ComingUp end) t = absurd (both_ways _ n (has_turned end t.1))
    is_down u n (Landed end) t = absurd (both_ways _ n (has_turned end t.1))

  pub comes_up : (st : Standing) → stage_of st ≡ stage.ComingUp → (end : Outcome) × (st ≡ ComingUp end)
  comes_up (ComingUp end) e = (end, refl)
  comes_up st e = absurd (cc)
