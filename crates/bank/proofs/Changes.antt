-- When a call changes something, taken apart.
use Rattle.std.proofs.Common.{◌≡◌, ℕ, true, ◌<◌, List, length, arith}
use Rattle.bank.specs.Meaning.{Device, level, hindrance, deepest, is_lowered, is_raised}

pub lowered_parts : (devices : List Device) (d : ℕ) → is_lowered devices d ≡ true → (d < length devices) × (level devices d < deepest) × (hindrance devices d ≡ 0)
lowered_parts devices d t = grind arith

pub raised_parts : (devices : List Device) (d : ℕ) → is_raised devices d ≡ true → (d < length devices) × (0 < level devices d)
raised_parts devices d t = grind arith
