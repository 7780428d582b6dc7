-- Bytes that belong neither to the trailer nor to a record are ignored.
use Rattle.std.proofs.Common.{◌≡◌, ℕ, ◌+◌, ◌-◌, ◌<◌, List, zero, suc, map, sym, refl, ap, ◌∙◌, inl, inr, arith, lit<}
use Rattle.std.specs.List.{between, range_with_len}
use Rattle.std.proofs.lemmas.List.{ext_get_or, length-take, length-drop}
use Rattle.std.proofs.lemmas.List.Edits.{get_or-between}
use Rattle.order.proofs.Alike.{orderable_alike, circular_alike}
use Rattle.boardfile.specs.declared.fault.BoardFault.{BoardFault}
use Rattle.boardfile.specs.declared.fault.BoardFault.TheVariants.{Size, Mark, Counts, Tables, DeviceRecord, LinkRecord, Circle}
use Rattle.boardfile.specs.Layout.{byte, four_bytes, trailer, device_count, link_count, device_place, link_place, name_field, link_record}
use Rattle.boardfile.specs.Rules.{Sized, Marked, Counted, Tabled, Framed, RightDevice, RightLink, RightDevices, RightLinks, FirstWrong}
use Rattle.boardfile.specs.Contents.{device_of, SuperiorIn}
use Rattle.boardfile.specs.Faults.{Refused, Right}
use Rattle.boardfile.specs.Laws.{Belongs, SameParts, Alike}

-- the k bytes of the one list from a on are those of the other from b on
abbrev Same : List ℕ → List ℕ → ℕ → ℕ → ℕ → Type 0
Same bs other a b k = (i : ℕ) → i < k → byte bs (a + i) ≡ byte other (b + i)

four_same : (bs other : List ℕ) (a b : ℕ) → Same bs other a b 16 → four_bytes bs (a + 12) ≡ four_bytes other (b + 12)
four_same bs other a b same = grind (arith, same 12, same 13, same 14, same 15)

map_same : {X : Type 0} (f g : ℕ → X) (a n : ℕ) → ((i : ℕ) → i < a + n → f i ≡ g i) → map f (range_with_len a n) ≡ map g (range_with_len a n)
map_same f g a zero same = refl
map_same f g a (suc n) same = rw (same a (omega arith), map_same f g (a + 1) n (λ i l. same i (omega arith))) refl

module _ {bs other : List ℕ} (same : SameParts bs other) where
  -- ---- what is read of the two files

  module _ (a b k : ℕ) (e : a ≡ b) (belongs : (i : ℕ) → i < k → Belongs bs (a + i)) where
    span : Same bs other a b k
    span i l = same.bytes (a + i) (belongs i l) ∙ ap (λ n. byte other (n + i)) e

    list : between a (a + k) bs ≡ between b (b + k) other
    list =
        let long = same.long in
        ext_get_or 0 _ _ (simp (length-take, length-drop) (omega arith)) (λ i l.
        let inside = simp (length-take, length-drop) at l in
        grind (arith, get_or-between bs a (a + k) i 0, get_or-between other b (b + k) i 0, span i))

  trailer_same : trailer bs ≡ trailer other
  trailer_same = ap (λ n. n - 16) same.long

  in_trailer : Same bs other (trailer bs) (trailer other) 16
  in_trailer = span _ _ 16 trailer_same (λ k h. inl (omega arith, omega arith))

  mark_same : between (trailer bs) (trailer bs + 4) bs ≡ between (trailer other) (trailer other + 4) other
  mark_same = list _ _ 4 trailer_same (λ k h. inl (omega arith, omega arith))

  devices_same : device_count bs ≡ device_count other
  devices_same = grind (arith, in_trailer)

  links_same : link_count bs ≡ link_count other
  links_same = grind (arith, in_trailer)

  device_place_same : (i : ℕ) → device_place bs i ≡ device_place other i
  device_place_same i = grind (arith, in_trailer, trailer_same)

  link_place_same : (j : ℕ) → link_place bs j ≡ link_place other j
  link_place_same j = grind (arith, in_trailer, trailer_same)

  in_device : (i : ℕ) → i < device_count bs → Same bs other (device_place bs i) (device_place other i) 16
  in_device i l = span _ _ 16 (device_place_same i) (λ k h. inr (inl (i, l, (omega arith, omega arith))))

  name_same : (i : ℕ) → i < device_count bs → name_field bs i ≡ name_field other i
  name_same i l = list _ _ 8 (device_place_same i) (λ k h. inr (inl (i, l, (omega arith, omega arith))))

  device_same : (i : ℕ) → i < device_count bs → device_of bs i ≡ device_of other i
  device_same i l = rw (name_same i l, in_device i l 8 (lit< tt), four_same bs other _ _ (in_device i l)) refl

  link_same : (j : ℕ) → j < link_count bs → link_record bs j ≡ link_record other j
  link_same j l = list _ _ 4 (link_place_same j) (λ k h. inr (inr (j, l, (omega arith, omega arith))))

  -- the same parts the other way about
  back : SameParts other bs
  back =
      record {
        long = sym same.long;
        bytes = λ i belongs. grind (arith, device_place_same, link_place_same, devices_same, links_same, trailer_same);
      }

  -- ---- what one of them keeps, the other keeps

  sized : Sized bs → Sized other
  sized s = grind (arith, same.long)

  marked : Marked bs → Marked other
  marked m = grind (arith, mark_same, in_trailer 4)

  counted : Counted bs → Counted other
  counted c = grind (arith, in_trailer)

  tabled : Tabled bs → Tabled other
  tabled t = grind (arith, in_trailer, same.long)

  framed : Framed bs → Framed other
  framed f = grind (arith, sized, marked, counted, tabled)

  right_device : (i : ℕ) → i < device_count bs → RightDevice bs i → RightDevice other i
  right_device i l r = grind (arith, name_same, in_device i l 8, in_device i l 9, in_device i l 10, in_device i l 11, devices_same)

  right_devices : RightDevices bs → RightDevices other
  right_devices all i l = let k : i < device_count bs = omega (arith, devices_same) in right_device i k (all i k)

  right_link : (j : ℕ) → j < link_count bs → RightLink bs j → RightLink other j
  right_link j l r = grind (arith, link_same j l, devices_same)

  right_links : RightLinks bs → RightLinks other
  right_links all j l = let k : j < link_count bs = omega (arith, links_same) in right_link j k (all j k)

  superior : (s d : ℕ) → SuperiorIn bs s d → SuperiorIn other s d
  superior s d x = grind (arith, in_device d, link_same, devices_same, links_same)

-- ---- both are refused in the same ways, or right

module _ {P Q : ℕ → Type 0} {n m i : ℕ} (e : n ≡ m) (there : (j : ℕ) → j < n → P j → Q j) (back : (j : ℕ) → j < m → Q j → P j) where
  first_wrong : FirstWrong P n i → FirstWrong Q m i
  first_wrong first = grind arith

module _ {bs other : List ℕ} (same : SameParts bs other) where
  right : Right bs → Right other
  right r =
      record {
        framed = framed same r.framed;
        devices = right_devices same r.devices;
        links = right_links same r.links;
        no_circle = rw (← devices_same same) (orderable_alike _ _ _ (superior same) (superior (back same)) r.no_circle);
      }

  refused : (fault : BoardFault) → Refused bs fault → Refused other fault
  refused Size bad = grind (arith, sized (back same))
  refused (Mark at) x = grind (arith, trailer_same same, sized same, marked (back same))
  refused (Counts at) x = grind (arith, trailer_same same, sized same, marked same, counted (back same))
  refused (Tables at) x = grind (arith, trailer_same same, sized same, marked same, counted same, tabled (back same))
  refused (DeviceRecord at) (f, (i, e, first)) =
      let wrong = first_wrong (devices_same same) (right_device same) (right_device (back same)) first in
      (framed same f, (i, e ∙ device_place_same same i, wrong))
  refused (LinkRecord at) (f, devices, (j, e, first)) =
      let wrong = first_wrong (links_same same) (right_link same) (right_link (back same)) first in
      (framed same f, right_devices same devices, (j, e ∙ link_place_same same j, wrong))
  refused (Circle device) (f, devices, links, circular) =
      let c = circular_alike _ _ _ (superior same) (superior (back same)) device circular in
      (framed same f, right_devices same devices, right_links same links, rw (← devices_same same) c)

pub ignored : (bs other : List ℕ) → SameParts bs other → Alike bs other
ignored bs other same =
    record {
      refused = λ fault. (refused same fault, refused (back same) fault);
      right = (right same, right (back same));
      devices = rw (← devices_same same) (map_same _ _ 0 _ (λ i l. device_same same i (omega arith)));
      links = rw (← links_same same) (map_same _ _ 0 _ (λ j l. rw (link_same same j (omega arith)) refl));
      kinds = grind (arith, in_trailer same);
      superiors = λ s d. (superior same s d, superior (back same) s d);
    }
