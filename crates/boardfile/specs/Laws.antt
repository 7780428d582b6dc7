-- What follows from the rules of a board file.
use Rattle.std.specs.Prelude.{◌≡◌, ℕ, ◌+◌, ◌<◌, ◌≤◌, ◌⊎◌, ◌↔◌, List, length, ◌≢◌}
use Rattle.boardfile.specs.declared.fault.BoardFault.{BoardFault}
use Rattle.boardfile.specs.Layout.{byte, trailer, device_count, link_count, device_place, link_place, name_field}
use Rattle.boardfile.specs.Rules.{Apart, Framed, RightDevices, shortened}
use Rattle.boardfile.specs.Contents.{devices_of, links_of, kinds_of, SuperiorIn}
use Rattle.boardfile.specs.Faults.{Refused, Right}

-- no byte is both among k bytes from a and among l bytes from b
abbrev pub ShareNone : ℕ → ℕ → ℕ → ℕ → Type 0
ShareNone a k b l = (i j : ℕ) → i < k → j < l → a + i ≢ b + j

-- byte i is among k bytes from a
abbrev pub Among : ℕ → ℕ → ℕ → Type 0
Among a k i = (a ≤ i) × (i < a + k)

-- byte i belongs to the trailer, to a device record or to a link record
abbrev pub InTrailer : List ℕ → ℕ → Type 0
InTrailer bs i = Among (trailer bs) 16 i

abbrev pub InDevice : List ℕ → ℕ → Type 0
InDevice bs i = (j : ℕ) × (j < device_count bs) × Among (device_place bs j) 16 i

abbrev pub InLink : List ℕ → ℕ → Type 0
InLink bs i = (j : ℕ) × (j < link_count bs) × Among (link_place bs j) 4 i

abbrev pub Belongs : List ℕ → ℕ → Type 0
Belongs bs i = InTrailer bs i ⊎ (InDevice bs i ⊎ InLink bs i)

-- the other file is as long, and has the same bytes where they belong to the trailer or to a record
pub record SameParts (bs other : List ℕ) : Type 0 where
  pub long : length bs ≡ length other
  pub bytes : (i : ℕ) → Belongs bs i → byte bs i ≡ byte other i

-- both are refused for the same reasons at the same places, or both are right, and they say the same of their boards
pub record Alike (bs other : List ℕ) : Type 0 where
  pub refused : (fault : BoardFault) → Refused bs fault ↔ Refused other fault
  pub right : Right bs ↔ Right other
  pub devices : devices_of bs ≡ devices_of other
  pub links : links_of bs ≡ links_of other
  pub kinds : kinds_of bs ≡ kinds_of other
  pub superiors : (s d : ℕ) → SuperiorIn bs s d ↔ SuperiorIn other s d

pub record Laws (bs : List ℕ) : Type 0 where
  -- that two tables with records are apart says that they share no byte
  pub apart : (a k b l : ℕ) → 0 < k → 0 < l → Apart a k b l ↔ ShareNone a k b l
  -- a device's name has 1 to 8 bytes without its padding
  pub sizes : Framed bs → RightDevices bs → (i : ℕ) → i < device_count bs → (1 ≤ length (shortened (name_field bs i))) × (length (shortened (name_field bs i)) ≤ 8)
  -- and no two devices have the same
  pub names : Framed bs → RightDevices bs → (i j : ℕ) → i < j → j < device_count bs → shortened (name_field bs i) ≢ shortened (name_field bs j)
  -- bytes that belong neither to the trailer nor to a record are ignored, whether the file is right or refused
  pub ignored : (other : List ℕ) → SameParts bs other → Alike bs other
