-- Devices that sit on a bus. Device 0 is its controller, the others are its members.
use Rattle.std.specs.Prelude.{◌≡◌, ℕ, ◌%◌, ◌^◌, ◌<◌, ◌≤◌, Bool, false, not, ◌&&◌, ◌==◌, nat_lt, nat_le, if◌then◌else◌, List}
use Rattle.bank.specs.Laws.{Kind}
use Rattle.bank.specs.Meaning.{level, is_lowered}
use Rattle.bankrules.specs.declared.standing.Standing.{Standing}
use Rattle.bankrules.specs.Register.{busy}
use Rattle.bankrules.specs.Rules.{ruled_kind}

-- EIO
abbrev pub unreachable_errno : ℕ
unreachable_errno = 5

-- the controller has gone past this device: it is at level 2 or deeper, and deeper than the device
abbrev pub passed : Standing → Bool
passed s = nat_le 2 s.first_level && nat_lt s.level s.first_level

-- nothing hinders the controller. A member that it has gone past cannot be reached; one at level 1 whose low 8 bits are not all
-- zero is busy
abbrev pub bus_hinders : Standing → ℕ
bus_hinders s =
    if s.device == 0 then 0
    else (if passed s then unreachable_errno
    else (if (s.level == 1) && not (s.word % 2 ^ 8 == 0) then busy else 0))

-- the word that a lowering adds: the same, and 0 into level 4
abbrev pub bus_adds : ℕ → ℕ → ℕ
bus_adds level word = if level == 3 then 0 else word

-- the word at each level, by the first word alone
abbrev pub bus_word : ℕ → ℕ → ℕ
bus_word first level = if nat_lt level 4 then first else 0

abbrev pub bus_kind : Kind (List (List ℕ))
bus_kind = ruled_kind bus_hinders bus_adds

-- in banks of this kind, while the controller is at level 2 or deeper, and deeper than a member, that member is not lowered
abbrev pub MembersHeld : Kind (List (List ℕ)) → Type 0
MembersHeld kind =
    (m : List (List ℕ)) (d : ℕ) → 0 < d → 2 ≤ level (kind.devices m) 0 → level (kind.devices m) d < level (kind.devices m) 0 → is_lowered (kind.devices m) d ≡ false
