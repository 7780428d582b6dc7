-- Names as they are printed.
use Rattle.std.proofs.Common.{◌≡◌, IsAscii, encode_utf8_all}
use Rattle.std.proofs.lemmas.Str.{encodes-IsAscii, IsAscii-take}
use Rattle.boardfile.specs.declared.device.Name.{Name}
use Rattle.boardfile.specs.Rules.{name_size}
use Rattle.boardfile.specs.Contents.{text}

-- a name of ASCII bytes is printed as it stands
pub printed_ascii : (name : Name) → IsAscii name.padded → encode_utf8_all (text name) ≡ text name
printed_ascii name ascii = encodes-IsAscii (text name) (IsAscii-take name.padded (name_size name.padded) ascii)
