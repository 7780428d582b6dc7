-- Which device each lowering takes, and in which phase. Lowerings are counted from 0.
use Rattle.std.specs.Prelude.{ℕ, zero, suc, ◌-◌, ◌*◌, ◌/◌, ◌%◌, if◌then◌else◌, ◌==◌, List, length, map, sum, slice_index}
use Rattle.bank.specs.Meaning.{Device, deepest}
use Rattle.history.specs.declared.phase.Phase.{Phase}
use Rattle.history.specs.declared.phase.Phase.TheVariants.{Prepare, Suspend, Late, Noirq}

-- the phases by number, from 0 on
abbrev pub phase_at : ℕ → Phase
phase_at zero = Prepare
phase_at (suc zero) = Suspend
phase_at (suc (suc zero)) = Late
phase_at (suc (suc (suc i))) = Noirq

-- of n devices each phase lowers all: lowering j belongs to this phase
abbrev pub phase : ℕ → ℕ → Phase
phase n j = phase_at (j / n)

-- the place in the order of the device that lowering j takes: in the first phase from the front, in the later ones from the back
abbrev pub place : ℕ → ℕ → ℕ
place n j = if j / n == 0 then j % n else (n - 1) - j % n

-- the device that lowering j takes
abbrev pub device_of : List ℕ → ℕ → ℕ
device_of order j = slice_index order (place (length order) j)

-- so many lowerings put every device to the deepest level
abbrev pub full : List ℕ → ℕ
full order = deepest * length order

-- the sum of all levels; a device keeps a word for every level that it has left
abbrev pub level_sum : List Device → ℕ
level_sum devices = sum (map (λ (x : Device). length x.words - 1) devices)
