use Rattle.std.proofs.Common.{◌≡◌, ℕ, [], ◌∷◌, map, take, vec_len}
use Rattle.piles.specs.Words.{words_of}
use Rattle.piles.proofs.piles.Piles.new.Given as goal

-- the first devices have their words
abbrev pub invariant-loop-word : goal.invariant-loop-word
invariant-loop-word l = record {
  count : vec_len l.piles ≡ l.word-index;
  made : map words_of l.piles.items ≡ map (λ (w : ℕ). w ∷ []) (take l.word-index l.words);
}
