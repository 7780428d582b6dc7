-- Tables of records, as they stand in a file.
use Rattle.std.specs.Prelude.{◌≡◌, ℕ, ◌+◌, ◌*◌, ◌<◌, List, [], length, slice_index_or}
use Rattle.std.specs.List.{between}
use Rattle.boardfile.specs.Layout.{device_count, link_count, device_table, link_table}

-- these are the records of this size that stand one after another from this place
pub record RecordsOf (size : ℕ) (bs : List ℕ) (place count : ℕ) (records : List (List ℕ)) : Type 0 where
  pub many : length records ≡ count
  pub each : (i : ℕ) → i < count → slice_index_or records i [] ≡ between (place + size * i) (place + size * i + size) bs

-- a table begins here, and these are its records
pub record TableOf (size : ℕ) (bs : List ℕ) (place count start : ℕ) (records : List (List ℕ)) : Type 0 where
  pub begins : start ≡ place
  pub holds : RecordsOf size bs place count records

-- the devices' table, and the links'
abbrev pub DevicesOf : List ℕ → ℕ → List (List ℕ) → Type 0
DevicesOf bs start records = TableOf 16 bs (device_table bs) (device_count bs) start records

abbrev pub LinksOf : List ℕ → ℕ → List (List ℕ) → Type 0
LinksOf bs start records = TableOf 4 bs (link_table bs) (link_count bs) start records
