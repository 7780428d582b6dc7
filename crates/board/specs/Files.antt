-- What is read of a file that is to be a board file.
use Rattle.std.specs.Prelude.{◌≡◌, ℕ, ◌+◌, ◌≤◌, ◌↔◌, List, length, take}
use Rattle.boardfile.specs.declared.fault.BoardFault.{BoardFault}
use Rattle.boardfile.specs.Limits.{most_bytes}
use Rattle.boardfile.specs.Faults.{Refused, Right}

-- of the file's bytes so many that they are refused as the whole file is, or right as it is
pub record ReadOf (file bytes : List ℕ) : Type 0 where
  -- one more than a board file may have
  pub front : bytes ≡ take (most_bytes + 1) file
  -- a file that is not too long is read whole
  pub whole : length file ≤ most_bytes → bytes ≡ file
  -- and so a file of so many bytes, where no more are allowed, is told by the bytes that are read
  pub as_long : (k : ℕ) → k ≤ most_bytes → (length bytes ≡ k) ↔ (length file ≡ k)
  pub refused : (fault : BoardFault) → Refused bytes fault ↔ Refused file fault
  pub right : Right bytes ↔ Right file
