-- A pile, as the front of a table turned round.
use Rattle.std.proofs.Common.{◌≡◌, ℕ, ◌+◌, ◌-◌, ◌<◌, List, [], ◌∷◌, ◌^◌, length, All, reverse, take, drop, set, get_or, sym, ap, ◌∙◌, arith, length-take}
use Rattle.std.proofs.lemmas.List.{length-reverse, get_or-reverse, reverse-append, take_more, take_more_set}
use Rattle.std.proofs.lemmas.List.Elements.{All-take, All-from_get_or}
use Rattle.bank.specs.Meaning.{IsPile}
use Rattle.piles.specs.declared.pile.Pile.{Pile}
use Rattle.piles.specs.Words.{words_of}

-- the top, and what lies below it
pub stack_top : (words : List ℕ) (l : ℕ) → l < length words → reverse (take (l + 1) words) ≡ get_or words l 0 ∷ reverse (take l words)
stack_top words l h = rw (take_more words l 0 h) (reverse-append (take l words) (get_or words l 0 ∷ []))

pub stack_length : (words : List ℕ) (l : ℕ) → l < length words → length (reverse (take (l + 1) words)) ≡ l + 1
stack_length words l h = length-reverse (take (l + 1) words) ∙ omega (arith, length-take (l + 1) words)

pub stack_push : (words : List ℕ) (l w : ℕ) → l + 1 < length words → reverse (take (l + 1 + 1) (set words (l + 1) w)) ≡ w ∷ reverse (take (l + 1) words)
stack_push words l w h = rw (take_more_set words (l + 1) w h) (reverse-append (take (l + 1) words) (w ∷ []))

pub stack_pop : (words : List ℕ) (l : ℕ) → 0 < l → l < length words → reverse (take (l - 1 + 1) words) ≡ drop 1 (reverse (take (l + 1) words))
stack_pop words l p h =
    let e : l - 1 + 1 ≡ l = omega arith in
    ap (λ n. reverse (take n words)) e ∙ sym (ap (drop 1) (stack_top words l h))

turned : (P : ℕ → Type 0) (xs : List ℕ) → All P xs → All P (reverse xs)
turned P xs each = All-from_get_or P (reverse xs) 0 (λ i h.
    let n = length-reverse xs in
    rw (get_or-reverse xs i 0 (omega (arith, n))) (each (length xs - 1 - i) 0 (omega (arith, n))))

-- what a pile holds are one to five words
pub pile_is : (p : Pile) → IsPile (words_of p)
unfolding words_of
pile_is p =
    let n = stack_length p.words p.level (omega (arith, p.wide, p.deep)) in
    record {
      some = omega (arith, n);
      few = omega (arith, n, p.deep);
      fit = turned (λ w. w < 2 ^ 32) (take (p.level + 1) p.words) (All-take (λ w. w < 2 ^ 32) (p.level + 1) p.words p.fit);
    }
