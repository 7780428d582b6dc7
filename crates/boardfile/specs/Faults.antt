-- The refusals of a board file: for which bytes each comes, and what is told of it.
use Rattle.std.specs.Prelude.{◌≡◌, ℕ, List}
use Rattle.order.specs.Orders.{Orderable, Circular}
use Rattle.refusal.specs.declared.layer.Layer.TheVariants.{File}
use Rattle.refusal.specs.declared.refusal.Refusal.{Refusal}
use Rattle.boardfile.specs.declared.fault.BoardFault.{BoardFault}
use Rattle.boardfile.specs.declared.fault.BoardFault.TheVariants.{Size, Mark, Counts, Tables, DeviceRecord, LinkRecord, Circle}
use Rattle.boardfile.specs.Layout.{trailer, device_count, link_count, device_place, link_place}
use Rattle.boardfile.specs.Rules.{Sized, Marked, Counted, Tabled, Framed, RightDevice, RightLink, RightDevices, RightLinks, FirstWrong}
use Rattle.boardfile.specs.Contents.{SuperiorIn}

-- the layer of files, the number and the place of each refusal
abbrev pub told : BoardFault → Refusal
told Size = record { layer = File; number = 1; place = 0 }
told (Mark at) = record { layer = File; number = 2; place = at }
told (Counts at) = record { layer = File; number = 3; place = at }
told (Tables at) = record { layer = File; number = 4; place = at }
told (DeviceRecord at) = record { layer = File; number = 5; place = at }
told (LinkRecord at) = record { layer = File; number = 6; place = at }
told (Circle device) = record { layer = File; number = 7; place = device }

-- the bytes are refused so: the rules before this one hold, and it does not
abbrev pub Refused : List ℕ → BoardFault → Type 0
Refused bs Size = Sized bs → ⊥
Refused bs (Mark at) = (at ≡ trailer bs) × Sized bs × (Marked bs → ⊥)
Refused bs (Counts at) = (at ≡ trailer bs) × Sized bs × Marked bs × (Counted bs → ⊥)
Refused bs (Tables at) = (at ≡ trailer bs) × Sized bs × Marked bs × Counted bs × (Tabled bs → ⊥)
Refused bs (DeviceRecord at) = Framed bs × ((i : ℕ) × (at ≡ device_place bs i) × FirstWrong (RightDevice bs) (device_count bs) i)
Refused bs (LinkRecord at) = Framed bs × RightDevices bs × ((j : ℕ) × (at ≡ link_place bs j) × FirstWrong (RightLink bs) (link_count bs) j)
Refused bs (Circle device) = Framed bs × RightDevices bs × RightLinks bs × Circular (device_count bs) (SuperiorIn bs) device

-- the bytes keep all rules
pub record Right (bs : List ℕ) : Type 0 where
  pub framed : Framed bs
  pub devices : RightDevices bs
  pub links : RightLinks bs
  pub no_circle : Orderable (device_count bs) (SuperiorIn bs)
