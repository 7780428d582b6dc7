-- The rules of a board file, in the order in which they are tested.
use Rattle.std.specs.Prelude.{◌≡◌, ℕ, ◌+◌, ◌*◌, ◌<◌, ◌≤◌, Bool, not, ◌⊎◌, List, length, take, codes, ◌==◌, ◌≢◌, slice_index}
use Rattle.std.specs.List.{between, prefix_len}
use Rattle.boardfile.specs.Limits.{least_bytes, most_bytes, most_devices, most_links}
use Rattle.boardfile.specs.Layout.{byte, trailer, edition, device_count, link_count, device_distance, link_distance, device_table, link_table, device_place, name_field, parent_byte, link_record, consumer, supplier}

-- neither too short nor too long
pub record Sized (bs : List ℕ) : Type 0 where
  pub least : least_bytes ≤ length bs
  pub most : length bs ≤ most_bytes

-- the mark and the edition
pub record Marked (bs : List ℕ) : Type 0 where
  pub mark : between (trailer bs) (trailer bs + 4) bs ≡ codes "SLPB"
  pub first_edition : edition bs ≡ 1

-- the counts of devices and links, and the trailer's zero bytes
pub record Counted (bs : List ℕ) : Type 0 where
  pub some : 1 ≤ device_count bs
  pub devices : device_count bs ≤ most_devices
  pub links : link_count bs ≤ most_links
  pub zero_10 : byte bs (trailer bs + 10) ≡ 0
  pub zero_11 : byte bs (trailer bs + 11) ≡ 0

-- one of two spans, of k bytes from a and of l bytes from b, ends where the other begins or before
abbrev pub Apart : ℕ → ℕ → ℕ → ℕ → Type 0
Apart a k b l = (a + k ≤ b) ⊎ (b + l ≤ a)

-- both tables lie between the file's start and the trailer, with room for their records, and where there are links the records are apart
pub record Tabled (bs : List ℕ) : Type 0 where
  pub device_room : 16 * device_count bs ≤ device_distance bs
  pub device_start : device_distance bs ≤ trailer bs
  pub link_room : 4 * link_count bs ≤ link_distance bs
  pub link_start : link_distance bs ≤ trailer bs
  pub apart : 0 < link_count bs → Apart (device_table bs) (16 * device_count bs) (link_table bs) (4 * link_count bs)

-- ---- names

abbrev pub Letter : ℕ → Type 0
Letter b = (97 ≤ b) × (b ≤ 122)

abbrev pub Digit : ℕ → Type 0
Digit b = (48 ≤ b) × (b ≤ 57)

-- neither a letter nor a digit, nor the zero byte of the padding
pub record IsMark (b : ℕ) : Type 0 where
  pub some : 0 < b
  pub no_letter : Letter b → ⊥
  pub no_digit : Digit b → ⊥

abbrev pub not_zero : ℕ → Bool
not_zero b = not (b == 0)

-- how many bytes stand before the first zero byte, or in all
abbrev pub name_size : List ℕ → ℕ
name_size field = prefix_len not_zero field

-- the bytes before the first zero byte
abbrev pub shortened : List ℕ → List ℕ
shortened field = take (name_size field) field

-- a letter first, letters a to z and digits up to the first zero byte, and zero bytes from there to the field's end
pub record Named (field : List ℕ) : Type 0 where
  pub letter : Letter (slice_index field 0)
  pub plain : (k : ℕ) → k < name_size field → Letter (slice_index field k) ⊎ Digit (slice_index field k)
  pub padded : (k : ℕ) → name_size field ≤ k → k < length field → slice_index field k ≡ 0

-- ---- records

-- a device record: a name that no earlier device has, no parent (255) or another device, and zero bytes between parent and word
pub record RightDevice (bs : List ℕ) (i : ℕ) : Type 0 where
  pub named : Named (name_field bs i)
  pub new : (j : ℕ) → j < i → name_field bs j ≢ name_field bs i
  pub parent : (parent_byte bs i ≡ 255) ⊎ ((parent_byte bs i < device_count bs) × (parent_byte bs i ≢ i))
  pub zero_9 : byte bs (device_place bs i + 9) ≡ 0
  pub zero_10 : byte bs (device_place bs i + 10) ≡ 0
  pub zero_11 : byte bs (device_place bs i + 11) ≡ 0

-- a link record: two devices that differ, then zero bytes
pub record RightLink (bs : List ℕ) (j : ℕ) : Type 0 where
  pub consumes : consumer bs j < device_count bs
  pub supplies : supplier bs j < device_count bs
  pub differ : consumer bs j ≡ supplier bs j → ⊥
  pub zero_2 : byte (link_record bs j) 2 ≡ 0
  pub zero_3 : byte (link_record bs j) 3 ≡ 0

-- ---- the rules together

-- the trailer is right
pub record Framed (bs : List ℕ) : Type 0 where
  pub sized : Sized bs
  pub marked : Marked bs
  pub counted : Counted bs
  pub tabled : Tabled bs

abbrev pub RightDevices : List ℕ → Type 0
RightDevices bs = (i : ℕ) → i < device_count bs → RightDevice bs i

abbrev pub RightLinks : List ℕ → Type 0
RightLinks bs = (j : ℕ) → j < link_count bs → RightLink bs j

-- of the records below n, i is the first that is wrong
pub record FirstWrong (Right : ℕ → Type 0) (n i : ℕ) : Type 0 where
  pub inside : i < n
  pub wrong : Right i → ⊥
  pub before : (j : ℕ) → j < i → Right j
