-- The words of many devices.
use Rattle.std.specs.Prelude.{◌≡◌, ℕ, ◌<◌, ◌≤◌, List, [], ◌∷◌, length, map, Ok, Err, Result}
use Rattle.bank.specs.declared.fault.BankFault.TheVariants.{TooMany}
use Rattle.bank.specs.declared.fault.MakeFault.{MakeFault}
use Rattle.bank.specs.declared.fault.MakeFault.TheVariants.{Bank as Refused, Memory}
use Rattle.bank.specs.Meaning.{most_devices}
use Rattle.piles.specs.Words.{words_of}
use Rattle.piles.specs.declared.piles.Piles.{Piles}

-- the words of each device, the newest first
unfoldable pub words_in : Piles → List (List ℕ)
words_in table = map words_of table.piles.items

-- a device for each of these words, at level 0; or 27 where there are more than 64; or, where not, want of memory
abbrev pub TableMade : List ℕ → Result Piles MakeFault → Type 0
TableMade words (Ok table) = (length words ≤ most_devices) × (words_in table ≡ map (λ (w : ℕ). w ∷ []) words)
TableMade words (Err (Refused fault)) = (most_devices < length words) × (fault ≡ TooMany)
TableMade words (Err Memory) = length words ≤ most_devices
