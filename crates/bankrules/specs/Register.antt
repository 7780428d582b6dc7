-- Devices that sit in registers.
use Rattle.std.specs.Prelude.{ℕ, nat_le, ◌*◌, ◌/◌, ◌%◌, ◌^◌, Bool, ◌&&◌, ◌==◌, if◌then◌else◌, List}
use Rattle.bank.specs.Laws.{Kind}
use Rattle.bankrules.specs.declared.standing.Standing.{Standing}
use Rattle.bankrules.specs.Rules.{ruled_kind}

-- bit k of w is set
abbrev pub is_set : ℕ → ℕ → Bool
is_set w k = w / 2 ^ k % 2 == 1

-- w with its low k bits cleared
abbrev pub cleared : ℕ → ℕ → ℕ
cleared w k = w / 2 ^ k * 2 ^ k

-- EBUSY
abbrev pub busy : ℕ
busy = 16

-- at level 1 a device whose bit 31 is set is busy
abbrev pub register_hinders : Standing → ℕ
register_hinders s = if (s.level == 1) && is_set s.word 31 then busy else 0

-- the word that a lowering adds: the same into level 1, with its low 16 bits cleared into level 2, with its low 24 bits cleared
-- into level 3, and 0 into level 4
abbrev pub register_adds : ℕ → ℕ → ℕ
register_adds level word =
    if level == 0 then word
    else (if level == 1 then cleared word 16
    else (if level == 2 then cleared word 24 else 0))

-- the word at each level, by the first word alone
abbrev pub register_word : ℕ → ℕ → ℕ
register_word first level =
    if nat_le level 1 then first
    else (if level == 2 then cleared first 16
    else (if level == 3 then cleared first 24 else 0))

abbrev pub register_kind : Kind (List (List ℕ))
register_kind = ruled_kind register_hinders register_adds
