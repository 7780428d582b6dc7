-- The lines of entries and outcomes, without line ends.
use Rattle.std.specs.Prelude.{ℕ, List, ◌++◌, Some, None, Option, codes, decimal, slice_index_or}
use Rattle.std.specs.Fmt.{signed_decimal}
use Rattle.boardfile.specs.declared.device.Device.{Device}
use Rattle.boardfile.specs.Contents.{blank, text}
use Rattle.history.specs.declared.entry.Entry.{Entry}
use Rattle.history.specs.declared.outcome.Outcome.{Outcome}
use Rattle.history.specs.Numbers.{outcome_values}
use Rattle.attempt.specs.Keeping.{device_in}
use Rattle.lines.specs.Words.{callback, kind_word, none, phase_word}

-- no line is longer, and no buffer may be shorter
abbrev pub line_room : ℕ
line_room = 32

abbrev pub space : List ℕ
space = codes " "

module _ (devices : List Device) where
  abbrev pub name_of : ℕ → List ℕ
  name_of d = text (slice_index_or devices d blank).name

  -- the name of a device, if there is one
  abbrev pub name_or_none : Option ℕ → List ℕ
  name_or_none None = none
  name_or_none (Some d) = name_of d

  -- name, callback, code
  abbrev pub entry_line : Entry → List ℕ
  entry_line entry = name_of entry.device ++ (space ++ (callback entry.direction entry.phase ++ (space ++ signed_decimal entry.code)))

  -- an equals sign, kind, errno, device, phase, taken
  abbrev pub outcome_line : Outcome → List ℕ
  outcome_line outcome =
      codes "=" ++ (space ++ (kind_word outcome ++ (space ++ (decimal (outcome_values outcome).errno
      ++ (space ++ (name_or_none (device_in outcome) ++ (space ++ (phase_word outcome ++ (space ++ decimal (outcome_values outcome).taken)))))))))
