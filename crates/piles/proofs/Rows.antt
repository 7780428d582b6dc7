-- A table of piles as the lists of their words.
use Rattle.std.proofs.Common.{◌≡◌, ℕ, ◌+◌, ◌<◌, ◌≤◌, List, [], ◌∷◌, ◌++◌, map, length, take, set, get_or, sym, ap, ◌∙◌, arith}
use Rattle.std.proofs.lemmas.List.{length-map, get_or-map, set_past, map-set, map_more, map_push}
use Rattle.std.proofs.lemmas.List.Elements.{All-map}
use Rattle.bank.specs.Meaning.{IsPile, ArePiles}
use Rattle.piles.specs.declared.piles.Piles.{Piles}
use Rattle.piles.specs.Words.{words_of}
use Rattle.piles.specs.Tables.{words_in}
use Rattle.piles.proofs.Stacks.{pile_is}

module _ {X : Type 0} (f : X → List ℕ) where
  pub row_count : (rows : List X) → length (map f rows) ≡ length rows
  row_count rows = length-map rows f

  pub row_at : (rows : List X) (d : ℕ) (x : X) → d < length rows → x ≡ get_or rows d x → f x ≡ get_or (map f rows) d []
  row_at rows d x l e = sym (get_or-map f rows d x [] l ∙ ap f (sym e))

  pub row_past : (rows : List X) (d : ℕ) (ws : List ℕ) → length rows ≤ d → map f rows ≡ set (map f rows) d ws
  row_past rows d ws l = sym (set_past _ d ws (omega (arith, row_count rows)))

  pub row_set : (rows : List X) (d : ℕ) (x : X) → map f (set rows d x) ≡ set (map f rows) d (f x)
  row_set rows d x = map-set f rows d x

  -- one row more, as a loop makes them
  pub rows_more : (rows : List X) (words : List ℕ) (i w : ℕ) (x : X) → i < length words → w ≡ get_or words i w → f x ≡ w ∷ []
      → map f rows ≡ map (λ (v : ℕ). v ∷ []) (take i words) → map f (rows ++ x ∷ []) ≡ map (λ (v : ℕ). v ∷ []) (take (i + 1) words)
  rows_more rows words i w x k e s so =
      map_push f rows x ∙ (ap (λ (r : List ℕ). map f rows ++ r ∷ []) (s ∙ ap (λ (v : ℕ). v ∷ []) e)
      ∙ (ap (λ (rs : List (List ℕ)). rs ++ (get_or words i w ∷ []) ∷ []) so ∙ sym (map_more (λ (v : ℕ). v ∷ []) words i w k)))

-- what a table holds are the piles of at most 64 devices
pub table_is : (table : Piles) → ArePiles (words_in table)
unfolding words_in
table_is table =
    record {
      few = omega (arith, row_count words_of table.piles.items, table.few, table.piles.ok.0);
      each = All-map IsPile words_of table.piles.items (λ k d h. pile_is (get_or table.piles.items k d));
    }
