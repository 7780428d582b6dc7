-- The lines that list a board's devices in their order.
use Rattle.std.specs.Prelude.{ℕ, ◌<◌, ◌↔◌, List, ◌++◌, length, vec_items, codes, slice_index, slice_index_or}
use Rattle.std.specs.List.{flat_map, Contains}
use Rattle.order.specs.Answers.{Superior, superiors_of, devices}
use Rattle.board.specs.declared.board.Board.{Board}
use Rattle.boardfile.specs.Contents.{blank, text}

abbrev pub name_of : Board → ℕ → List ℕ
name_of board d = text (slice_index_or (vec_items board.devices) d blank).name

-- a name after a space
abbrev pub spaced : Board → ℕ → List ℕ
spaced board d = codes " " ++ name_of board d

-- the device's name and those of its superiors, and the line's end
abbrev pub line : Board → ℕ → List ℕ
line board d = name_of board d ++ flat_map (spaced board) (superiors_of board.order.superiors d) ++ codes "\n"

-- a line for each device in the order
abbrev pub lines : Board → List ℕ
lines board = flat_map (line board) (devices board.order)

-- the superiors of a device are listed by rising number, and just they
pub record ByNumber (board : Board) (d : ℕ) : Type 0 where
  pub just_they : (s : ℕ) → Contains (superiors_of board.order.superiors d) s ↔ Superior board.order.superiors s d
  pub rising : (i j : ℕ) → i < j → j < length (superiors_of board.order.superiors d) → slice_index (superiors_of board.order.superiors d) i < slice_index (superiors_of board.order.superiors d) j
