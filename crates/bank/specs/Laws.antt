-- Kinds of banks, and what every kind keeps to.
use Rattle.std.specs.Prelude.{◌≡◌, ℕ, ◌<◌, ◌^◌, true, List, [], ◌∷◌, drop, set}
use Rattle.bank.specs.Meaning.{Device, AreDevices, pile, piles, is_put, is_lowered, is_raised}

-- Three changes. Each speaks of piles alone: the hindrances of all devices may be others afterwards.

-- the pile of device d gains one word on top, whichever the bank chooses, and no other pile changes
abbrev pub GainsWord : List Device → ℕ → List Device → Type 0
GainsWord before d after = (w : ℕ) × (piles after ≡ set (piles before) d (w ∷ pile before d))

-- the pile of device d loses its top, and no other pile changes
abbrev pub LosesWord : List Device → ℕ → List Device → Type 0
LosesWord before d after = piles after ≡ set (piles before) d (drop 1 (pile before d))

-- the pile of device d is this one word, and no other pile changes
abbrev pub HoldsWord : List Device → ℕ → ℕ → List Device → Type 0
HoldsWord before d w after = piles after ≡ set (piles before) d (w ∷ [])

-- A kind of bank. Each kind has a model of its own, M, in which lies all that its answers depend on, also those to come.
pub record Kind (M : Type 0) : Type 1 where
  -- the devices that a model shows
  pub devices : M → List Device
  -- what the model is after a lowering of device d that is taken
  pub lowered : M → ℕ → M
  -- after a raising of device d
  pub raised : M → ℕ → M
  -- after a put of the word w for device d
  pub written : M → ℕ → ℕ → M
  -- what a bank of this kind keeps
  pub sound : M → Type 0

-- two kinds that show the same devices and make the same of each call
pub record SameKind {M : Type 0} (one other : Kind M) : Type 0 where
  pub devices : one.devices ≡ other.devices
  pub lowered : one.lowered ≡ other.lowered
  pub raised : one.raised ≡ other.raised
  pub written : one.written ≡ other.written

-- what every kind keeps to, with hindrances up to the limit
pub record Laws {M : Type 0} (limit : ℕ) (kind : Kind M) : Type 0 where
  pub means : (m : M) → kind.sound m → AreDevices limit (kind.devices m)
  pub lowering : (m : M) (d : ℕ) → kind.sound m → is_lowered (kind.devices m) d ≡ true
      → kind.sound (kind.lowered m d) × GainsWord (kind.devices m) d (kind.devices (kind.lowered m d))
  pub raising : (m : M) (d : ℕ) → kind.sound m → is_raised (kind.devices m) d ≡ true
      → kind.sound (kind.raised m d) × LosesWord (kind.devices m) d (kind.devices (kind.raised m d))
  pub writing : (m : M) (d w : ℕ) → kind.sound m → w < 2 ^ 32 → is_put (kind.devices m) d ≡ true
      → kind.sound (kind.written m d w) × HoldsWord (kind.devices m) d w (kind.devices (kind.written m d w))
