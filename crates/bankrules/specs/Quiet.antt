-- Devices that stand in for a part that nobody has chosen yet.
use Rattle.std.specs.Prelude.{ℕ, List}
use Rattle.bank.specs.Laws.{Kind}
use Rattle.bankrules.specs.declared.standing.Standing.{Standing}
use Rattle.bankrules.specs.Rules.{ruled_kind}

-- nothing hinders them
abbrev pub quiet_hinders : Standing → ℕ
quiet_hinders s = 0

-- the word that a lowering adds: the same
abbrev pub quiet_adds : ℕ → ℕ → ℕ
quiet_adds level word = word

-- the word at each level: the first
abbrev pub quiet_word : ℕ → ℕ → ℕ
quiet_word first level = first

abbrev pub quiet_kind : Kind (List (List ℕ))
quiet_kind = ruled_kind quiet_hinders quiet_adds
