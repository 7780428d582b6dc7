-- Lines are split at their spaces.
use Rattle.std.proofs.Common.{◌≡◌, ◌≢◌, ℕ, zero, suc, ◌+◌, ◌%◌, ◌<◌, ◌^◌, Bool, true, not, ◌&&◌, eqb, List, [], ◌∷◌, ◌++◌, get_or, decimal, refl, sym, ap, arith}
use Rattle.std.proofs.lemmas.Bool.{and_parts, not-true, eqb-false}
use Rattle.std.proofs.lemmas.Fmt.{decimal_by_steps}

-- no byte of a text is a space
pub record Plain (bytes : List ℕ) : Type 0 where
  pub plain : (k : ℕ) → get_or bytes k 0 ≢ 32

Plain-tail : (b : ℕ) (bytes : List ℕ) → Plain (b ∷ bytes) → Plain bytes
Plain-tail b bytes p = record { plain = λ k. p.plain (suc k) }

-- two texts without a space, each with a space and more behind it
pub same_parts : (xs ys more rest : List ℕ) → Plain xs → Plain ys → xs ++ (32 ∷ more) ≡ ys ++ (32 ∷ rest) → (xs ≡ ys) × (more ≡ rest)
same_parts [] [] more rest p q is = (refl, cc)
same_parts [] (y ∷ ys) more rest p q is = absurd (q.plain 0 (sym (ap (λ bytes. get_or bytes 0 0) is)))
same_parts (x ∷ xs) [] more rest p q is = absurd (p.plain 0 (ap (λ bytes. get_or bytes 0 0) is))
same_parts (x ∷ xs) (y ∷ ys) more rest p q is =
    let h : xs ++ (32 ∷ more) ≡ ys ++ (32 ∷ rest) = cc in
    let same = same_parts xs ys more rest (Plain-tail x xs p) (Plain-tail y ys q) h in
    let first : x ≡ y = cc in
    (rw (first, same.0) refl, same.1)

-- ---- texts without a space

-- a test, for texts that are written out
abbrev pub spaceless : List ℕ → Bool
spaceless [] = true
spaceless (b ∷ bytes) = not (eqb b 32) && spaceless bytes

Plain-cons : (b : ℕ) (bytes : List ℕ) → b ≢ 32 → Plain bytes → Plain (b ∷ bytes)
Plain-cons b bytes other p = record { plain = go }
  where
    go : (k : ℕ) → get_or (b ∷ bytes) k 0 ≢ 32
    go zero = other
    go (suc k) = p.plain k

pub Plain-written : (bytes : List ℕ) → spaceless bytes ≡ true → Plain bytes
Plain-written [] is = record { plain = λ k e. absurd (omega (arith, e)) }
Plain-written (b ∷ bytes) is =
    let both = and_parts (not (eqb b 32)) (spaceless bytes) is in
    Plain-cons b bytes (eqb-false b 32 (not-true (eqb b 32) both.0)) (Plain-written bytes both.1)

Plain-push : (bytes : List ℕ) (b : ℕ) → Plain bytes → b ≢ 32 → Plain (bytes ++ b ∷ [])
Plain-push [] b p other = Plain-cons b [] other p
Plain-push (x ∷ bytes) b p other = Plain-cons x (bytes ++ b ∷ []) (p.plain 0) (Plain-push bytes b (Plain-tail x bytes p) other)

-- digits are no spaces
pub Plain-decimal : (n : ℕ) → n < 2 ^ 64 → Plain (decimal n)
Plain-decimal = decimal_by_steps (λ n bytes. Plain bytes) (λ n small. Plain-push [] (48 + n) (Plain-written [] refl) (λ e. omega (arith, e))) (λ n bytes large p. Plain-push bytes (48 + n % 10) p (λ e. omega (arith, e)))
