-- Texts at places of a buffer.
use Rattle.std.proofs.Common.{zero-add, ◌≡◌, ℕ, ◌+◌, ◌/◌, ◌%◌, ◌^◌, ◌<◌, ◌≤◌, List, [], ◌∷◌, ◌++◌, length, get_or, take, set, codes, decimal, refl, ap, arith}
use Rattle.std.proofs.lemmas.List.{append-nil, append_assoc, length-append, take_more, take_at, set_at, drop_more}
use Rattle.std.proofs.lemmas.Grind.{flat_map-append}
use Rattle.std.proofs.lemmas.List.Folds.{length-flat_map-take}
use Rattle.std.proofs.lemmas.Slice.{drop-append-drop}
use Rattle.std.proofs.lemmas.Fmt.{decimal_digit, decimal_step}
use Rattle.std.specs.List.{flat_map}
use Rattle.lines.specs.Fields.{shown, spaced, joined, over, put_at}
use Rattle.lines.specs.declared.fields.Field.{Field}
use Rattle.lines.specs.declared.fields.Field.TheVariants.{Text}

-- ---- one number, digit by digit

-- a digit behind digits
digit_after : (digits part : List ℕ) (digit : ℕ) → length digits < length part → set (over digits part) (length digits) digit ≡ over (digits ++ digit ∷ []) part
digit_after digits part digit room =
    rw (drop_more part (length digits) 0 room, set_at digits _ _ digit _ refl, append_assoc, length-append) refl

pub one_digit : (n : ℕ) → n < 10 → length (decimal n) ≡ 1
one_digit n small = rw (decimal_digit n small) refl

pub digit_written : (n : ℕ) (part : List ℕ) → n < 10 → 0 < length part → set part 0 (48 + n) ≡ over (decimal n) part
digit_written n part small room = rw (decimal_digit n small) (digit_after [] part (48 + n) room)

pub more_digits : (n : ℕ) → 10 ≤ n → n < 2 ^ 32 → length (decimal n) ≡ length (decimal (n / 10)) + 1
more_digits n large small = rw (decimal_step n large (omega arith), length-append) refl

pub digits_written : (n end : ℕ) (part front : List ℕ) → 10 ≤ n → n < 2 ^ 32 → end < length part → end ≡ length (decimal (n / 10)) → front ≡ over (decimal (n / 10)) part
    → set front end (48 + n % 10) ≡ over (decimal n) part
digits_written n end part front large small room stop written =
    rw (decimal_step n large (omega arith), stop, written) (digit_after (decimal (n / 10)) part _ (omega arith))

-- ---- a text behind a text

-- at the front it is over the front
pub put_first : (text before : List ℕ) → put_at text 0 before ≡ over text before
unfolding put_at
put_first text before = rw zero-add refl

pub put_after : (front text before : List ℕ) (at : ℕ) → at ≡ length front → length front + length text ≤ length before → (put_at text at (over front before) ≡ over (front ++ text) before) × (length (front ++ text) ≡ length front + length text)
unfolding put_at
put_after front text before at stop room = (
  rw (stop, take_at front _ (length front) refl, ← append_assoc, length-append, drop-append-drop (length front) before front (length front + length text) (omega arith) refl),
  length-append front text,
)

-- ---- a field behind fields

-- the first field alone, and that there is room for it
pub joined_first : (first : Field) → joined first [] ≡ shown first
unfolding joined
joined_first first = append-nil (shown first)

pub first_room : (first : Field) (rest : List Field) → (joined first rest ≡ joined first rest) × (length (shown first) ≤ length (joined first rest))
unfolding joined
first_room first rest = (refl, omega (arith, length-append {A = ℕ}))

module _ (first : Field) (rest : List Field) (i : ℕ) (inside : i < length rest) where
  -- there is room for one more
  pub field_room : (d : Field) → (shown (get_or rest i d) ≡ shown (get_or rest i d)) × (length (joined first (take i rest)) + (1 + length (shown (get_or rest i d))) ≤ length (joined first rest))
  unfolding joined
  field_room d = (refl, omega (arith, length-append {A = ℕ}, length-flat_map-take spaced rest i d inside))

  -- and for the space before it
  pub space_room : (joined first (take i rest) ≡ joined first (take i rest)) × (length (joined first (take i rest)) + 1 ≤ length (joined first rest))
  space_room = (refl, omega (arith, (field_room (Text (record { ref_ptr = (0, 0); now = [] }))).1))

  -- one more
  pub joined_more : (d : Field) → joined first (take (i + 1) rest) ≡ (joined first (take i rest) ++ codes " ") ++ shown (get_or rest i d)
  unfolding joined
  joined_more d =
      rw (take_more rest i d inside, flat_map-append, append_assoc (joined first (take i rest)), append_assoc (shown first)) (ap (λ bytes. shown first ++ (flat_map spaced (take i rest) ++ bytes)) (append-nil (spaced (get_or rest i d))))
