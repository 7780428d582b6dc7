-- What the calls of this crate answer, over tables of superiors and orders.
use Rattle.std.specs.Prelude.{◌≡◌, ℕ, ◌/◌, ◌%◌, ◌^◌, ◌<◌, ◌≤◌, Bool, true, ◌↔◌, List, length, take, is_ok, Some, None, Ok, Err, filter, Option, Result, ◌==◌, slice_index_or}
use Rattle.std.specs.List.{range_with_len}
use Rattle.order.specs.declared.superiors.Superiors.{Superiors}
use Rattle.order.specs.declared.superiors.NoDevice.{NoDevice}
use Rattle.order.specs.declared.ordering.Order.{Order}
use Rattle.order.specs.declared.ordering.Circle.{Circle}
use Rattle.order.specs.Orders.{IsTheOrder, Orderable, Circular, Endless, LeastFirst, Precedes, Pinned}
use Rattle.order.specs.Sets.{none}
use Rattle.order.specs.Tables.{Above, Adds}
use Rattle.order.specs.Rule.{Tests, ordering}

-- s is a superior of d: its parent, say, or a supplier of it
abbrev pub Superior : Superiors → ℕ → ℕ → Type 0
Superior table s d = Above table.sets s d

-- the same as a test
abbrev pub is_superior : Superiors → ℕ → ℕ → Bool
is_superior table s d = (slice_index_or table.sets d none).bits / 2 ^ s % 2 == 1

-- the superiors of d by rising number, each once
abbrev pub superiors_of : Superiors → ℕ → List ℕ
superiors_of table d = filter (λ s. is_superior table s d) (range_with_len 0 table.count)

-- a table of 1 to 64 devices, of which none has a superior
abbrev pub Made : ℕ → Option Superiors → Type 0
Made count None = (1 ≤ count) × (count ≤ 64) → ⊥
Made count (Some table) = (table.count ≡ count) × ((s d : ℕ) → Superior table s d → ⊥)

-- both are devices, and s is a superior of d from now on; or one is none, nothing has changed, and the number told is s, or d
-- where s is a device
abbrev pub Added : Superiors → Superiors → ℕ → ℕ → Result (Unit {0}) NoDevice → Type 0
Added before after s d (Ok done) = (s < before.count) × (d < before.count) × (after.count ≡ before.count) × Adds before.sets after.sets s d
Added before after s d (Err missing) =
    (before.count ≤ missing.number) × (after ≡ before) × (before.count ≤ s → missing.number ≡ s) × (s < before.count → missing.number ≡ d)

-- the devices in their order
abbrev pub devices : Order → List ℕ
devices order = take order.superiors.count order.places

-- an order of this table's devices, or the device at which it has none
abbrev pub Answers : Superiors → Result Order Circle → Type 0
Answers table (Ok order) = order.superiors ≡ table
Answers table (Err circle) = Circular table.count (Superior table) circle.device

-- the order or the device named, without the table
abbrev pub answered : Result Order Circle → Result (List ℕ) ℕ
answered (Ok order) = Ok (devices order)
answered (Err circle) = Err circle.device

pub record Exact (table : Superiors) (r : Result Order Circle) : Type 0 where
  -- an order comes exactly where there is one
  pub orders : (is_ok r ≡ true) ↔ Orderable table.count (Superior table)
  -- it is the one that the rule gives
  pub gives : (order : List ℕ) → (answered r ≡ Ok order) ↔ IsTheOrder table.count (Superior table) order
  -- a device is named exactly where there is no order, and it is the least one from which a chain of superiors never ends
  pub names : (d : ℕ) → (answered r ≡ Err d) ↔ Circular table.count (Superior table) d
  -- there is no order as soon as some chain of superiors never ends
  pub ends : (d : ℕ) → Endless (Superior table) d → Orderable table.count (Superior table) → ⊥
  -- to take the least at each place is enough: no device is left out or taken twice, and superiors come first
  pub suffices : (order : List ℕ) → length order ≡ table.count → LeastFirst table.count (Superior table) order → Precedes table.count (Superior table) order
  -- the rule leaves no choice
  pub pinned : Pinned table.count (Superior table)
  -- and it executes
  pub computes : (above : ℕ → ℕ → Bool) → Tests above (Superior table) → answered r ≡ ordering table.count above
