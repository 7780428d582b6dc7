-- What every engine keeps, whatever calls it was given.
use Rattle.std.specs.Prelude.{◌≡◌, ℕ, suc, ◌+◌, ◌-◌, ◌*◌, ◌<◌, ◌≤◌, if◌then◌else◌, nat_le, List, length, slice_index}
use Rattle.bank.specs.Meaning.{Device, level}
use Rattle.history.specs.declared.standing.Standing.{Standing}
use Rattle.history.specs.declared.standing.Standing.TheVariants.{Awake, GoingDown, Asleep, ComingUp, Landed}
use Rattle.history.specs.Schedule.{full, level_sum}

-- 1 where a is at most b, and otherwise 0
abbrev pub one_from : ℕ → ℕ → ℕ
one_from a b = if nat_le a b then 1 else 0

-- the level of the device in place i of n after k lowerings: lowering i takes it in the first phase, and 2n − 1 − i, 3n − 1 − i
-- and 4n − 1 − i in the later ones
abbrev pub level_at : ℕ → ℕ → ℕ → ℕ
level_at n i k = one_from (suc i) k + (one_from (2 * n) (k + i) + (one_from (3 * n) (k + i) + one_from (4 * n) (k + i)))

-- the devices stand as the first lowerings of the schedule leave them, as many as their levels add up to
pub record Scheduled (order : List ℕ) (now : List Device) : Type 0 where
  pub count : length now ≡ length order
  pub most : level_sum now ≤ full order
  pub levels : (i : ℕ) → i < length order → level now (slice_index order i) ≡ level_at (length order) i (level_sum now)

-- what the levels add up to at least
abbrev pub least_sum : ℕ → Standing → ℕ
least_sum all Awake = 0
least_sum all (GoingDown alarm) = 0
least_sum all Asleep = all
least_sum all (ComingUp outcome) = 1
least_sum all (Landed outcome) = 0

-- what they stay below
abbrev pub sum_limit : ℕ → Standing → ℕ
sum_limit all Awake = 1
sum_limit all (GoingDown alarm) = all
sum_limit all Asleep = suc all
sum_limit all (ComingUp outcome) = suc all
sum_limit all (Landed outcome) = 1

-- what the levels add up to, from where the engine stands
pub record InRange (all : ℕ) (standing : Standing) (k : ℕ) : Type 0 where
  pub least : least_sum all standing ≤ k
  pub limit : k < sum_limit all standing

-- how long the journal may be: going down each entry is of a lowering that stands; later each lowering that stands is owed one more
abbrev pub most_entries : ℕ → Standing → ℕ → ℕ
most_entries all Awake k = 2 * all
most_entries all (GoingDown alarm) k = k
most_entries all Asleep k = 2 * all - k
most_entries all (ComingUp outcome) k = 2 * all - k
most_entries all (Landed outcome) k = 2 * all
