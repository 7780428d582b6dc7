-- The words that a pile holds.
use Rattle.std.specs.Prelude.{ℕ, ◌+◌, List, reverse, take}
use Rattle.piles.specs.declared.pile.Pile.{Pile}

-- the newest first
unfoldable pub words_of : Pile → List ℕ
words_of p = reverse (take (p.level + 1) p.words)
