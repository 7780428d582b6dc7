-- Superiors as they are gathered from the records of a board file.
use Rattle.std.specs.Prelude.{◌≡◌, ℕ, ◌⊎◌, List}
use Rattle.order.specs.declared.superiors.Superiors.{Superiors}
use Rattle.order.specs.declared.ordering.Order.{Order}
use Rattle.order.specs.Orders.{IsTheOrder, Orderable}
use Rattle.order.specs.Answers.{Superior, devices}
use Rattle.boardfile.specs.Layout.{device_count}
use Rattle.boardfile.specs.Contents.{SuperiorIn}

-- the table has what it had, and besides just what the relation has
pub record Gains (R : ℕ → ℕ → Type 0) (before after : Superiors) : Type 0 where
  pub count : after.count ≡ before.count
  pub keeps : (s d : ℕ) → Superior before s d → Superior after s d
  pub adds : (s d : ℕ) → R s d → Superior after s d
  pub only : (s d : ℕ) → Superior after s d → Superior before s d ⊎ R s d

-- the table has just the superiors that the bytes say
pub record Wired (bs : List ℕ) (table : Superiors) : Type 0 where
  pub count : table.count ≡ device_count bs
  pub adds : (s d : ℕ) → SuperiorIn bs s d → Superior table s d
  pub only : (s d : ℕ) → Superior table s d → SuperiorIn bs s d

-- this is the order that the bytes ask for
pub record Ordered (bs : List ℕ) (order : Order) : Type 0 where
  pub superiors : Wired bs order.superiors
  pub least_first : IsTheOrder (device_count bs) (SuperiorIn bs) (devices order)
  pub exists : Orderable (device_count bs) (SuperiorIn bs)
