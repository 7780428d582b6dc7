-- Tables that share no byte, and names that differ.
use Rattle.std.proofs.Common.{◌≡◌, ◌≢◌, ℕ, ◌+◌, ◌-◌, ◌<◌, ◌≤◌, ◌⊎◌, List, length, get_or, sym, ap, ◌∙◌, inl, inr, arith, lit<}
use Rattle.std.proofs.lemmas.List.{length-take-le, get_or-take, get_or_past, ext_get_or}
use Rattle.std.proofs.lemmas.List.FromFn.{get_or-map-range_with_len, length-map-range_with_len}
use Rattle.std.proofs.lemmas.List.Edits.{length-between}
use Rattle.std.proofs.lemmas.List.Sums.{prefix_len-le-length}
use Rattle.std.proofs.lemmas.Bool.{cases_lt}
use Rattle.boardfile.specs.Layout.{device_count, device_place, name_field}
use Rattle.boardfile.specs.Rules.{Apart, IsMark, Named, Framed, RightDevices, not_zero, name_size, shortened}
use Rattle.boardfile.specs.declared.device.Device.{Device}
use Rattle.boardfile.specs.Contents.{text, blank, device_of, devices_of, AsciiNames, TellApart}
use Rattle.boardfile.specs.Laws.{ShareNone, Laws}
use Rattle.boardfile.proofs.Ignoring.{ignored}

-- ---- spans

apart_shares : (a k b l : ℕ) → Apart a k b l → ShareNone a k b l
apart_shares a k b l h i j p q e = omega arith

-- the byte where the later span begins is in the earlier one
shares_apart : (a k b l : ℕ) → 0 < k → 0 < l → ShareNone a k b l → Apart a k b l
shares_apart a k b l some more none = grind (arith, none (b - a) 0, none 0 (a - b))

-- ---- names

size_bound : (field : List ℕ) → name_size field ≤ length field
size_bound field = prefix_len-le-length not_zero field

-- a name begins with a byte that is not zero
size_some : (field : List ℕ) → Named field → 1 ≤ name_size field
size_some field named = grind (arith, named.padded 0, named.letter, get_or_past field 0 0)

-- two fields of one length whose names are the same are the same
shortened_same : (f g : List ℕ) → Named f → Named g → length f ≡ length g → shortened f ≡ shortened g → f ≡ g
shortened_same f g p q long e = ext_get_or 0 f g long same
  where
    sizes : name_size f ≡ name_size g
    sizes = sym (length-take-le (name_size f) f (size_bound f)) ∙ ap length e ∙ length-take-le (name_size g) g (size_bound g)

    same : (i : ℕ) → i < length f → get_or f i 0 ≡ get_or g i 0
    same i l = grind (arith, e, sizes, get_or-take (name_size f) f i 0, get_or-take (name_size g) g i 0, p.padded i, q.padded i)

module _ (bs : List ℕ) (framed : Framed bs) (right : RightDevices bs) where
  field_long : (i : ℕ) → i < device_count bs → length (name_field bs i) ≡ 8
  field_long i l =
      let inside : device_place bs i + 8 ≤ length bs = omega (arith, framed.tabled.device_room, framed.tabled.device_start, framed.sized.least) in
      length-between bs (device_place bs i) (device_place bs i + 8) inside ∙ omega arith

  sizes : (i : ℕ) → i < device_count bs → (1 ≤ length (shortened (name_field bs i))) × (length (shortened (name_field bs i)) ≤ 8)
  sizes i l =
      let field = name_field bs i in
      let long = length-take-le (name_size field) field (size_bound field) in
      (omega (arith, long, size_some field (right i l).named), omega (arith, long, size_bound field, field_long i l))

  names : (i j : ℕ) → i < j → j < device_count bs → shortened (name_field bs i) ≡ shortened (name_field bs j) → ⊥
  names i j h l e =
      let k : i < device_count bs = omega arith in
      (right j l).new i h (shortened_same (name_field bs i) (name_field bs j) (right i k).named (right j l).named (field_long i k ∙ sym (field_long j l)) e)

-- ---- names are ASCII

named_ascii : (field : List ℕ) → Named field → (k : ℕ) → get_or field k 0 < 128
named_ascii field named k = grind (arith, named.plain k, named.padded k, get_or_past field k 0)

pub ascii_names : (bs : List ℕ) → RightDevices bs → (devices : List Device) → devices ≡ devices_of bs → AsciiNames devices
ascii_names bs right devices is i k = rw is (go (cases_lt i (device_count bs)))
  where
    go : (i < device_count bs) ⊎ (device_count bs ≤ i) → get_or (get_or (devices_of bs) i blank).name.padded k 0 < 128
    go (inl l) = rw (get_or-map-range_with_len (device_of bs) 0 (device_count bs) i i blank l (omega arith)) (named_ascii (name_field bs i) (right i l).named k)
    go (inr l) = rw (get_or_past (devices_of bs) i blank (simp length-map-range_with_len l)) (lit< tt)

-- ---- names tell devices apart

-- a name has letters and digits alone
plain_text : (field : List ℕ) → Named field → (mark : ℕ) → IsMark mark → (k : ℕ) → get_or (shortened field) k 0 ≢ mark
plain_text field named mark other k = elim (cases_lt k (name_size field)) [
  | inl l ↦ rw (get_or-take (name_size field) field k 0 l) (λ e. elim (named.plain k l) [ inl letter ↦ other.no_letter (rw e at letter) | inr digit ↦ other.no_digit (rw e at digit) ])
  | inr l ↦ rw (get_or_past (shortened field) k 0 (omega (arith, length-take-le (name_size field) field (size_bound field)))) (λ e. absurd (omega (arith, other.some, e)))
]

pub tell_apart : (bs : List ℕ) → Framed bs → RightDevices bs → (devices : List Device) → devices ≡ devices_of bs → TellApart devices
tell_apart bs framed right devices is = rw is (record { short = short; markless = lacks; differ = differ })
  where
    inside : (i : ℕ) → i < device_count bs → get_or (devices_of bs) i blank ≡ device_of bs i
    inside i l = get_or-map-range_with_len (device_of bs) 0 (device_count bs) i i blank l (omega arith)

    past : (i : ℕ) → device_count bs ≤ i → get_or (devices_of bs) i blank ≡ blank
    past i l = get_or_past (devices_of bs) i blank (simp length-map-range_with_len l)

    short : (i : ℕ) → length (text (get_or (devices_of bs) i blank).name) ≤ 8
    short i = elim (cases_lt i (device_count bs)) [ inl l ↦ rw (inside i l) (sizes bs framed right i l).1 | inr l ↦ rw (past i l) (omega arith) ]

    lacks : (i k mark : ℕ) → IsMark mark → get_or (text (get_or (devices_of bs) i blank).name) k 0 ≢ mark
    lacks i k mark other = elim (cases_lt i (device_count bs)) [ inl l ↦ rw (inside i l) (plain_text (name_field bs i) (right i l).named mark other k) | inr l ↦ rw (past i l) (λ e. absurd (omega (arith, other.some, e))) ]

    differ : (i j : ℕ) → i < j → j < length (devices_of bs) → text (get_or (devices_of bs) i blank).name ≢ text (get_or (devices_of bs) j blank).name
    differ i j h l =
        let k : j < device_count bs = simp length-map-range_with_len at l in
        rw (inside i (omega arith), inside j k) (names bs framed right i j h k)

pub laws : (bs : List ℕ) → Laws bs
laws bs = record { apart = λ a k b l some more. (apart_shares a k b l, shares_apart a k b l some more); sizes = sizes bs; names = names bs; ignored = ignored bs }
