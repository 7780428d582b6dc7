-- What is read of a trailer.
use Rattle.std.specs.Prelude.{◌≡◌, ℕ, ◌-◌, ◌*◌, ◌<◌, ◌≤◌, List}
use Rattle.boardfile.specs.declared.fault.BoardFault.{BoardFault}
use Rattle.boardfile.specs.Rules.{Apart, Framed}
use Rattle.boardfile.specs.Faults.{Refused}
use Rattle.boardfile.specs.Layout.{device_count, link_count}
use Rattle.boardfile.specs.Contents.{kinds_of}
use Rattle.frame.specs.declared.frame.reading.Counts.{Counts}
use Rattle.frame.specs.declared.frame.Frame.{Frame}
use Rattle.frame.specs.Frames.{DevicesOf, LinksOf}

pub record CountsOf (bs : List ℕ) (counts : Counts) : Type 0 where
  pub kinds : counts.kinds ≡ kinds_of bs
  pub devices : counts.devices ≡ device_count bs
  pub links : counts.links ≡ link_count bs

-- the rule for the two tables, at these counts and distances
pub record Room (t : ℕ) (counts : Counts) (devices links : ℕ) : Type 0 where
  pub device_room : 16 * counts.devices ≤ devices
  pub device_start : devices ≤ t
  pub link_room : 4 * counts.links ≤ links
  pub link_start : links ≤ t
  pub apart : 0 < counts.links → Apart (t - devices) (16 * counts.devices) (t - links) (4 * counts.links)

-- the frame is of these bytes, and is what their trailer says
pub record FrameOf (bs : List ℕ) (frame : Frame) : Type 0 where
  pub of : frame.file.now ≡ bs
  pub kinds : frame.kinds ≡ kinds_of bs
  pub devices : DevicesOf bs frame.devices.start frame.devices.records.now
  pub links : LinksOf bs frame.links.start frame.links.records.now

-- the bytes are refused so, and for their length or their trailer
abbrev pub Unframed : List ℕ → BoardFault → Type 0
Unframed bs fault = Refused bs fault × (Framed bs → ⊥)
