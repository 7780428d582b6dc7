-- How a run ends, told from the schedule alone: which device refuses first.
use Rattle.std.specs.Prelude.{◌≡◌, ℕ, zero, suc, ◌<◌, pos, neg_ℤ, List, [], ◌∷◌, ◌++◌, length, None}
use Rattle.bank.specs.Laws.{Kind}
use Rattle.bank.specs.Meaning.{hindrance}
use Rattle.history.specs.declared.entry.Entry.{Entry}
use Rattle.history.specs.declared.entry.Direction.TheVariants.{Down}
use Rattle.history.specs.declared.outcome.Outcome.{Outcome}
use Rattle.history.specs.declared.outcome.Outcome.TheVariants.{Slept, Fault, Alarm, Cancelled}
use Rattle.history.specs.Rules.{entry, entries_up}
use Rattle.history.specs.Schedule.{phase, device_of, full}

module _ {M : Type 0} (kind : Kind M) (order : List ℕ) (m : M) where
  -- the bank after lowerings 0 to j − 1 of the schedule
  abbrev pub gone_down : ℕ → M
  gone_down zero = m
  gone_down (suc j) = kind.lowered (gone_down j) (device_of order j)

  -- what hinders lowering j, if all before it were taken
  abbrev pub hinders : ℕ → ℕ
  hinders j = hindrance (kind.devices (gone_down j)) (device_of order j)

  -- lowerings 0 to j − 1 were not hindered
  abbrev pub AreFree : ℕ → Type 0
  AreFree j = (i : ℕ) → i < j → hinders i ≡ 0

  -- the board slept, with no lowering hindered; or the first lowering that is hindered is blamed: its hindrance, its device, its
  -- phase, and how many lowerings come before it
  abbrev pub Blames : Outcome → Type 0
  Blames (Slept alarm taken) = (alarm ≡ None) × (taken ≡ full order) × AreFree (full order)
  Blames (Fault errno device by taken) =
      (taken < full order) × AreFree taken × (0 < hinders taken)
      × (errno ≡ hinders taken) × (device ≡ device_of order taken) × (by ≡ phase (length order) taken)
  Blames (Alarm device by taken) = ⊥
  Blames (Cancelled by taken) = ⊥

  -- ---- the journal of a run that ends so

  -- lowerings 0 to j − 1, each of them taken
  abbrev pub entries_down : ℕ → List Entry
  entries_down zero = []
  entries_down (suc j) = entries_down j ++ entry order Down j (pos 0) ∷ []

  -- the lowering that is hindered, if one is
  abbrev pub entries_hindered : Outcome → List Entry
  entries_hindered (Slept alarm taken) = []
  entries_hindered (Fault errno device by taken) = entry order Down taken (neg_ℤ (pos errno)) ∷ []
  entries_hindered (Alarm device by taken) = []
  entries_hindered (Cancelled by taken) = []

  abbrev pub taken_of : Outcome → ℕ
  taken_of (Slept alarm taken) = taken
  taken_of (Fault errno device by taken) = taken
  taken_of (Alarm device by taken) = taken
  taken_of (Cancelled by taken) = taken

  -- the lowerings that were taken, the one that was hindered, and the same way back
  abbrev pub run_journal : Outcome → List Entry
  run_journal outcome = entries_down (taken_of outcome) ++ (entries_hindered outcome ++ entries_up order (taken_of outcome))
