-- Fields of a line, and what they leave in a buffer.
use Rattle.std.specs.Prelude.{ℕ, ◌+◌, List, ◌++◌, length, take, drop, codes, decimal}
use Rattle.std.specs.Fmt.{signed_decimal}
use Rattle.std.specs.List.{flat_map}
use Rattle.lines.specs.declared.fields.Field.{Field}
use Rattle.lines.specs.declared.fields.Field.TheVariants.{Text, Number, Signed}

-- the bytes of a field
abbrev pub shown : Field → List ℕ
shown (Text text) = text.now
shown (Number value) = decimal value
shown (Signed value) = signed_decimal value

-- a field after a space
abbrev pub spaced : Field → List ℕ
spaced field = codes " " ++ shown field

-- fields with one space between
unfoldable pub joined : Field → List Field → List ℕ
joined first rest = shown first ++ flat_map spaced rest

-- a text over the front of a buffer; what stands behind it stays
abbrev pub over : List ℕ → List ℕ → List ℕ
over text before = text ++ drop (length text) before

-- a text in a buffer from `at` on; what stands before and behind it stays
unfoldable pub put_at : List ℕ → ℕ → List ℕ → List ℕ
put_at text at before = take at before ++ (text ++ drop (at + length text) before)
