-- What the bytes of a board file say of its devices and links.
use Rattle.std.specs.Prelude.{◌≡◌, ◌≢◌, ℕ, ◌<◌, ◌≤◌, cond, ◌⊎◌, List, [], map, length, Some, None, Ok, Err, Option, Result, ◌==◌, slice_index, slice_index_or}
use Rattle.std.specs.List.{range_with_len}
use Rattle.boardfile.specs.declared.device.Name.{Name}
use Rattle.boardfile.specs.declared.device.NotAName.{NotAName}
use Rattle.boardfile.specs.declared.device.Device.{Device}
use Rattle.boardfile.specs.declared.device.Link.{Link}
use Rattle.boardfile.specs.declared.device.Kinds.{Kinds}
use Rattle.boardfile.specs.Layout.{register_count, bus_count, quiet_count, device_count, link_count, name_field, parent_byte, word, consumer, supplier}
use Rattle.boardfile.specs.Rules.{Named, IsMark, shortened}

-- a name without its padding
abbrev pub text : Name → List ℕ
text name = shortened name.padded

-- these bytes are a name with its padding, or they are none
abbrev pub Parsed : List ℕ → Result Name NotAName → Type 0
Parsed field (Ok name) = (length field ≡ 8) × Named field × (name.padded ≡ field)
Parsed field (Err _) = (length field ≡ 8) × Named field → ⊥

-- what stands where no device does
abbrev pub blank : Device
blank = record { name = record { padded = [] }; parent = None; word = 0 }

-- names are ASCII
abbrev pub AsciiNames : List Device → Type 0
AsciiNames devices = (i k : ℕ) → slice_index (slice_index_or devices i blank).name.padded k < 128

-- 255 says that there is none
abbrev pub parent : List ℕ → ℕ → Option ℕ
parent bs i = cond (parent_byte bs i == 255) None (Some (parent_byte bs i))

-- no name has more than 8 bytes, or a byte that is no letter and no digit, and no two devices have the same
pub record TellApart (devices : List Device) : Type 0 where
  pub short : (i : ℕ) → length (text (slice_index_or devices i blank).name) ≤ 8
  pub markless : (i k mark : ℕ) → IsMark mark → slice_index (text (slice_index_or devices i blank).name) k ≢ mark
  pub differ : (i j : ℕ) → i < j → j < length devices → text (slice_index_or devices i blank).name ≢ text (slice_index_or devices j blank).name

abbrev pub device_of : List ℕ → ℕ → Device
device_of bs i = record { name = record { padded = name_field bs i }; parent = parent bs i; word = word bs i }

abbrev pub link_of : List ℕ → ℕ → Link
link_of bs j = record { consumer = consumer bs j; supplier = supplier bs j }

abbrev pub kinds_of : List ℕ → Kinds
kinds_of bs = record { register = register_count bs; bus = bus_count bs; quiet = quiet_count bs }

abbrev pub devices_of : List ℕ → List Device
devices_of bs = map (device_of bs) (range_with_len 0 (device_count bs))

abbrev pub links_of : List ℕ → List Link
links_of bs = map (link_of bs) (range_with_len 0 (link_count bs))

-- s is a superior of d: its parent, or the supplier of a link whose consumer it is
abbrev pub ParentIn : List ℕ → ℕ → ℕ → Type 0
ParentIn bs s d = (d < device_count bs) × (parent bs d ≡ Some s)

abbrev pub LinkedIn : List ℕ → ℕ → ℕ → Type 0
LinkedIn bs s d = (j : ℕ) × (j < link_count bs) × (consumer bs j ≡ d) × (supplier bs j ≡ s)

abbrev pub SuperiorIn : List ℕ → ℕ → ℕ → Type 0
SuperiorIn bs s d = ParentIn bs s d ⊎ LinkedIn bs s d
