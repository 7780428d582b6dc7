-- A table of superiors: one set of devices for each device.
use Rattle.std.specs.Prelude.{◌≡◌, ℕ, ◌<◌, ◌⊎◌, List, slice_index_or}
use Rattle.order.specs.declared.set.DeviceSet.{DeviceSet}
use Rattle.order.specs.Sets.{In, none}

-- s is in the set of d
abbrev pub Above : List DeviceSet → ℕ → ℕ → Type 0
Above sets s d = In (slice_index_or sets d none) s

-- only devices below n have superiors, and only such are superiors
abbrev pub Known : ℕ → List DeviceSet → Type 0
Known n sets = (s d : ℕ) → Above sets s d → (s < n) × (d < n)

-- what stood in the table stands there still, and s is a superior of d besides
pub record Adds (before after : List DeviceSet) (s d : ℕ) : Type 0 where
  pub keeps : (x y : ℕ) → Above before x y → Above after x y
  pub has : Above after s d
  pub only : (x y : ℕ) → Above after x y → Above before x y ⊎ ((x ≡ s) × (y ≡ d))

-- d is not placed, and all its superiors are
abbrev pub Free : ℕ → List DeviceSet → DeviceSet → ℕ → Type 0
Free n sets placed d = (d < n) × (In placed d → ⊥) × ((s : ℕ) → Above sets s d → In placed s)

-- some superior of d is not placed
abbrev pub Held : List DeviceSet → DeviceSet → ℕ → Type 0
Held sets placed d = (s : ℕ) × Above sets s d × (In placed s → ⊥)
