-- What a record says by itself is what the file says of it.
use Rattle.std.proofs.Common.{cond, ◌≢◌, ◌↔◌, ◌≡◌, ℕ, ◌+◌, ◌<◌, Bool, true, false, ◌&&◌, ◌==◌, ◌⊎◌, List, [], length, get_or, take, Some, None, Decides, sym, refl, ◌∙◌, take-take, arith}
use Rattle.std.specs.List.{between}
use Rattle.std.proofs.lemmas.List.Edits.{get_or-between}
use Rattle.std.proofs.lemmas.Option.{cond_some}
use Rattle.std.proofs.lemmas.Bool.Decides.{nat_tests}
use Rattle.std.proofs.lemmas.Bool.{eq-eqb}
use Rattle.boardfile.specs.declared.device.Device.{Device}
use Rattle.boardfile.specs.Layout.{byte, device_place, name_field, four_bytes, word, device_count, link_record}
use Rattle.boardfile.specs.Rules.{RightDevice, RightLink}
use Rattle.boardfile.specs.Contents.{parent, device_of, link_of}
use Rattle.frame.specs.declared.frame.Frame.{Frame}
use Rattle.std.proofs.lemmas.List.{get_or-take, length-take-le}
use Rattle.board.specs.Records.{named, parent_in, device_in, IsParent, link_in}
use Rattle.board.proofs.Names.{named_decides}

-- false where there is no proof
pub decides_not : {P : Type 0} (r : Bool) → r ≡ false → (P → ⊥) → Decides r P
decides_not r e none = grind arith

all_right : (named : Bool) (a b c : ℕ) → (named && (a == 0 && (b == 0 && c == 0))) ≡ true → (named ≡ true) × (a ≡ 0) × (b ≡ 0) × (c ≡ 0)
all_right named a b c e = grind (arith, nat_tests)

abbrev pub device_record : List ℕ → ℕ → List ℕ
device_record bs i = between (device_place bs i) (device_place bs i + 16) bs

module _ (bs : List ℕ) (i : ℕ) where
  pub byte_seen : (k : ℕ) → k < 16 → get_or (device_record bs i) k 0 ≡ byte bs (device_place bs i + k)
  byte_seen k l = get_or-between bs (device_place bs i) (device_place bs i + 16) k 0 (omega arith)

  name_seen : take 8 (device_record bs i) ≡ name_field bs i
  name_seen = grind (arith, take-take)

  pub parent_seen : parent_in (device_record bs i) ≡ parent bs i
  parent_seen = rw (byte_seen 8 (omega arith)) refl

  word_seen : four_bytes (device_record bs i) 12 ≡ word bs i
  word_seen = grind (arith, byte_seen)

  abbrev zeros : Bool
  zeros = byte bs (device_place bs i + 9) == 0 && (byte bs (device_place bs i + 10) == 0 && byte bs (device_place bs i + 11) == 0)

  device_seen : device_in (device_record bs i) ≡ cond (named (name_field bs i) && zeros) (Some (device_of bs i)) None
  device_seen = rw (name_seen, parent_seen, word_seen, byte_seen 9 (omega arith), byte_seen 10 (omega arith), byte_seen 11 (omega arith)) refl

  -- a right record describes its device
  pub right_described : RightDevice bs i → device_in (device_record bs i) ≡ Some (device_of bs i)
  right_described right = rw (device_seen, (named_decides (name_field bs i)).1 right.named, right.zero_9, right.zero_10, right.zero_11) refl

  -- what is asked of its parent
  parent_rule : (b n : ℕ) → IsParent n i (cond (b == 255) None (Some b)) ↔ ((b ≡ 255) ⊎ ((b < n) × (b ≢ i)))
  parent_rule b n = grind (arith, nat_tests)

  -- of a record that describes a device, all the rest is whether it can have that parent and its name is new
  right_device : (d : Device) → device_in (device_record bs i) ≡ Some d
      → (IsParent (device_count bs) i d.parent × ((j : ℕ) → j < i → name_field bs j ≢ name_field bs i)) ↔ RightDevice bs i
  right_device d e =
      let told : ((named (name_field bs i) && zeros) ≡ true) × (device_of bs i ≡ d) = cond_some _ _ _ (sym device_seen ∙ e) in
      let (name, nine, ten, eleven) = all_right _ _ _ _ told.0 in
      rw (← told.1) (
        (λ p. record { named = (named_decides (name_field bs i)).0 name; new = p.1; parent = (parent_rule _ _).0 p.0; zero_9 = nine; zero_10 = ten; zero_11 = eleven }),
        (λ right. ((parent_rule _ _).1 right.parent, right.new)),
      )

-- ---- device record i, as one of the records that a frame hands out

module _ (frame : Frame) (records : List (List ℕ)) (same : records ≡ frame.devices.records.now) (i : ℕ) (l : i < device_count frame.file.now)
    (bytes : List ℕ) (at : bytes ≡ get_or records i []) where
  abbrev bs : List ℕ
  bs = frame.file.now

  many : length records ≡ device_count bs
  many = rw same frame.devices_known.holds.many

  each : (j : ℕ) → j < device_count bs → get_or records j [] ≡ device_record bs j
  each j less = rw same (frame.devices_known.holds.each j less)

  -- it describes no device
  pub device_unlike : device_in bytes ≡ None → RightDevice bs i → ⊥
  device_unlike none right = let is = each i l in let says = right_described bs i right in cc

  -- it describes one, and each fact is of the records alone
  pub right_is : (d : Device) → device_in bytes ≡ Some d
      → (IsParent (length records) i d.parent × ((j : ℕ) → j < length (take i records) → take 8 (get_or (take i records) j []) ≢ take 8 bytes)) ↔ RightDevice bs i
  right_is d says = (
    (λ told. (right_device bs i d means).0 (rw many at told.0, (λ j less e. told.1 j (omega (arith, long)) (rw (name_at j less, name_here) e)))),
    (λ right. (rw many ((right_device bs i d means).1 right).0, (λ j less e. let k : j < i = omega (arith, long) in right.new j k (rw (name_at j k, name_here) at e)))),
  )
    where
      means : device_in (device_record bs i) ≡ Some d
      means = let is = each i l in cc

      long : length (take i records) ≡ i
      long = length-take-le i records (omega (arith, many))

      name_at : (j : ℕ) → j < i → take 8 (get_or (take i records) j []) ≡ name_field bs j
      name_at j less = rw (get_or-take i records j [] less, each j (omega arith)) (name_seen bs j)

      name_here : take 8 bytes ≡ name_field bs i
      name_here = rw (at, each i l) (name_seen bs i)

-- ---- link record j

pub link_seen : (bs : List ℕ) (j : ℕ) → RightLink bs j → link_in (link_record bs j) ≡ Some (link_of bs j)
link_seen bs j right = rw (eq-eqb _ _ right.zero_2, eq-eqb _ _ right.zero_3) refl

-- a right device's parent is a device
pub parent_small : (bs : List ℕ) (i p : ℕ) → RightDevice bs i → parent bs i ≡ Some p → p < device_count bs
parent_small bs i p right e = let rule = right.parent in grind (arith, nat_tests)
