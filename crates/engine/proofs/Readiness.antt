-- Devices at level 0.
use Rattle.std.proofs.Common.{◌≡◌, ◌⊎◌, ℕ, ◌-◌, ◌<◌, ◌≤◌, List, length, ap, inl, inr, arith}
use Rattle.bank.specs.Meaning.{Device, absent, level}
use Rattle.order.specs.declared.ordering.Order.{Order}
use Rattle.order.specs.Answers.{devices}
use Rattle.history.specs.Schedule.{level_sum}
use Rattle.history.specs.Keeping.{Scheduled}
use Rattle.history.proofs.Schedules.{scheduled_running}
use Rattle.engine.specs.Making.{IsReady}
use Rattle.engine.proofs.Orders.{permutes, some_device}
use Rattle.std.proofs.lemmas.List.{get_or_past}
use Rattle.std.proofs.lemmas.Bool.{cases_lt}

-- where there is no device, the level is 0
pub level_past : (now : List Device) (d : ℕ) → length now ≤ d → level now d ≡ 0
level_past now d h = ap (λ (x : Device). length x.words - 1) (get_or_past now d absent h)

pub all_running : (now : List Device) (n : ℕ) → length now ≡ n → ((d : ℕ) → d < n → level now d ≡ 0) → (d : ℕ) → level now d ≡ 0
all_running now n e each d = go (cases_lt d n)
  where
    go : (d < n) ⊎ (n ≤ d) → level now d ≡ 0
    go (inl h) = each d h
    go (inr h) = level_past now d (omega (arith, e))

-- ---- devices of which an engine can be made

pub ready_sum : (order : Order) (now : List Device) → IsReady (devices order) now → level_sum now ≡ 0
ready_sum order now ready = (scheduled_running (devices order) (permutes order) (some_device order) now ready.count ready.running).1

pub ready_scheduled : (order : Order) (now : List Device) → IsReady (devices order) now → Scheduled (devices order) now
ready_scheduled order now ready = (scheduled_running (devices order) (permutes order) (some_device order) now ready.count ready.running).0
