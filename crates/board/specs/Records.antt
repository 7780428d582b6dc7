-- What a record says, taken apart by itself.
use Rattle.std.specs.Prelude.{ℕ, Bool, cond, ◌&&◌, ◌||◌, List, length, take, Some, None, Option, ⊤, MatchOption, ◌<◌, ◌≢◌, ◌==◌, nat_le, nat_lt, slice_index}
use Rattle.order.specs.Rule.{all_below}
use Rattle.boardfile.specs.declared.device.Device.{Device}
use Rattle.boardfile.specs.declared.device.Link.{Link}
use Rattle.boardfile.specs.Layout.{byte, four_bytes}
use Rattle.boardfile.specs.Rules.{name_size}

-- ---- a name with its padding, as a test that executes

abbrev pub within : ℕ → ℕ → ℕ → Bool
within low high b = nat_le low b && nat_le b high

abbrev pub right_byte : List ℕ → ℕ → Bool
right_byte field k = cond (nat_lt k (name_size field)) (within 97 122 (slice_index field k) || within 48 57 (slice_index field k)) (slice_index field k == 0)

abbrev pub named : List ℕ → Bool
named field = within 97 122 (slice_index field 0) && (nat_le (name_size field) (length field) && all_below (length field) (right_byte field))

-- ---- a device record

abbrev pub parent_in : List ℕ → Option ℕ
parent_in bytes = cond (byte bytes 8 == 255) None (Some (byte bytes 8))

abbrev pub device_at : List ℕ → Device
device_at bytes = record { name = record { padded = take 8 bytes }; parent = parent_in bytes; word = four_bytes bytes 12 }

-- nothing, unless the record begins with a name and has zero bytes between parent and word
abbrev pub device_in : List ℕ → Option Device
device_in bytes = cond (named (take 8 bytes) && (byte bytes 9 == 0 && (byte bytes 10 == 0 && byte bytes 11 == 0))) (Some (device_at bytes)) None

-- none, or another of n devices
abbrev pub IsParent : ℕ → ℕ → Option ℕ → Type 0
IsParent n i parent = MatchOption parent ⊤ (λ p. (p < n) × (p ≢ i))

-- ---- a link record

-- nothing, unless its last two bytes are zero
abbrev pub link_in : List ℕ → Option Link
link_in bytes = cond (byte bytes 2 == 0 && byte bytes 3 == 0) (Some (record { consumer = byte bytes 0; supplier = byte bytes 1 })) None
