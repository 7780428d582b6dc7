-- Where the parts of a board file stand, and the numbers in them. `bs` is the list of the file's bytes.
use Rattle.std.specs.Prelude.{ℕ, ◌+◌, ◌-◌, ◌*◌, List, length, slice_index}
use Rattle.std.specs.List.{between}

abbrev pub byte : List ℕ → ℕ → ℕ
byte bs i = slice_index bs i

-- a number of two bytes, and one of four, the low byte first
abbrev pub two_bytes : List ℕ → ℕ → ℕ
two_bytes bs i = byte bs i + byte bs (i + 1) * 256

abbrev pub four_bytes : List ℕ → ℕ → ℕ
four_bytes bs i = byte bs i + byte bs (i + 1) * 256 + byte bs (i + 2) * 65536 + byte bs (i + 3) * 16777216

-- ---- the trailer: the last 16 bytes

-- where it begins
abbrev pub trailer : List ℕ → ℕ
trailer bs = length bs - 16

abbrev pub edition : List ℕ → ℕ
edition bs = byte bs (trailer bs + 4)

abbrev pub register_count : List ℕ → ℕ
register_count bs = byte bs (trailer bs + 5)

abbrev pub bus_count : List ℕ → ℕ
bus_count bs = byte bs (trailer bs + 6)

abbrev pub quiet_count : List ℕ → ℕ
quiet_count bs = byte bs (trailer bs + 7)

abbrev pub device_count : List ℕ → ℕ
device_count bs = register_count bs + bus_count bs + quiet_count bs

abbrev pub link_count : List ℕ → ℕ
link_count bs = two_bytes bs (trailer bs + 8)

-- how far before the trailer the two tables begin
abbrev pub device_distance : List ℕ → ℕ
device_distance bs = two_bytes bs (trailer bs + 12)

abbrev pub link_distance : List ℕ → ℕ
link_distance bs = two_bytes bs (trailer bs + 14)

abbrev pub device_table : List ℕ → ℕ
device_table bs = trailer bs - device_distance bs

abbrev pub link_table : List ℕ → ℕ
link_table bs = trailer bs - link_distance bs

-- ---- records: 16 bytes for a device, 4 for a link

abbrev pub device_place : List ℕ → ℕ → ℕ
device_place bs i = device_table bs + 16 * i

-- the name with its padding
abbrev pub name_field : List ℕ → ℕ → List ℕ
name_field bs i = between (device_place bs i) (device_place bs i + 8) bs

abbrev pub parent_byte : List ℕ → ℕ → ℕ
parent_byte bs i = byte bs (device_place bs i + 8)

abbrev pub word : List ℕ → ℕ → ℕ
word bs i = four_bytes bs (device_place bs i + 12)

abbrev pub link_place : List ℕ → ℕ → ℕ
link_place bs j = link_table bs + 4 * j

abbrev pub link_record : List ℕ → ℕ → List ℕ
link_record bs j = between (link_place bs j) (link_place bs j + 4) bs

abbrev pub consumer : List ℕ → ℕ → ℕ
consumer bs j = byte (link_record bs j) 0

abbrev pub supplier : List ℕ → ℕ → ℕ
supplier bs j = byte (link_record bs j) 1
