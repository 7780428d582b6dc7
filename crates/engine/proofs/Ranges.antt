-- What is kept where an attempt turns round.
use Rattle.std.proofs.Common.{◌≡◌, ℕ, zero, suc, ◌-◌, ◌*◌, ◌≤◌, refl, arith}
use Rattle.history.specs.declared.outcome.Outcome.{Outcome}
use Rattle.history.specs.declared.standing.Standing.{Standing}
use Rattle.history.specs.Attempts.{rising}
use Rattle.history.specs.Keeping.{InRange, most_entries}

range_up : (all k : ℕ) (outcome : Outcome) → k ≤ all → InRange all (rising outcome k) k
range_up all zero outcome h = record { least = omega arith; limit = omega arith }
range_up all (suc k) outcome h = record { least = omega arith; limit = omega arith }

pub turned_range : (all k : ℕ) (outcome : Outcome) (standing : Standing) → standing ≡ rising outcome k → k ≤ all → InRange all standing k
turned_range all k outcome standing e h = rw e (range_up all k outcome h)

entries_up : (all k : ℕ) (outcome : Outcome) → most_entries all (rising outcome k) k ≡ 2 * all - k
entries_up all zero outcome = omega arith
entries_up all (suc k) outcome = refl

pub turned_entries : (all k : ℕ) (outcome : Outcome) (standing : Standing) → standing ≡ rising outcome k → most_entries all standing k ≡ 2 * all - k
turned_entries all k outcome standing e = rw e (entries_up all k outcome)
