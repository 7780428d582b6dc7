-- A set of numbers below 64 as the bits of one number.
use Rattle.std.specs.Prelude.{◌≡◌, ℕ, ◌/◌, ◌%◌, ◌^◌, ◌⊎◌}
use Rattle.order.specs.declared.set.DeviceSet.{DeviceSet}

-- bit d of m is set
unfoldable pub Bit : ℕ → ℕ → Type 0
Bit m d = m / 2 ^ d % 2 ≡ 1

-- d is in the set
abbrev pub In : DeviceSet → ℕ → Type 0
In set d = Bit set.bits d

abbrev pub none : DeviceSet
none = record { bits = 0 }

-- what was in the set is in it still, and d besides
pub record With (before after : DeviceSet) (d : ℕ) : Type 0 where
  pub more : (e : ℕ) → In after e → In before e ⊎ (e ≡ d)
  pub keeps : (e : ℕ) → In before e → In after e
  pub has : In after d
