-- The limits of a board file.
use Rattle.std.specs.Prelude.{ℕ}

abbrev pub least_bytes : ℕ
least_bytes = 16

abbrev pub most_bytes : ℕ
most_bytes = 4096

abbrev pub most_devices : ℕ
most_devices = 64

abbrev pub most_links : ℕ
most_links = 256
