-- Where the first word tells the others, it does so through all calls.
use Rattle.std.proofs.Common.{◌≡◌, ℕ, zero, suc, ◌-◌, ◌<◌, ◌^◌, List, [], ◌∷◌, length, get_or, drop, All, refl, sym, ap, ◌∙◌, arith}
use Rattle.std.specs.List.{AllByRecursion}
use Rattle.std.proofs.lemmas.Bool.{cond_both}
use Rattle.std.proofs.lemmas.List.Elements.{All-set, All-map, All-weaker}
use Rattle.bank.specs.Laws.{Kind}
use Rattle.bank.specs.Meaning.{deepest, is_lowered, is_raised, is_put}
use Rattle.bank.specs.Runs.{FitsCall, after, after_all}
use Rattle.bank.specs.declared.call.Call.{Call}
use Rattle.bank.specs.declared.call.Call.TheVariants.{Count, Look, Put, Lower, Raise}
use Rattle.bankrules.specs.declared.standing.Standing.{Standing}
use Rattle.bankrules.specs.Rules.{each_with_one, with_word, without_top, with_only, ruled_kind, descent, IsDescent, FirstWordsTell}
use Rattle.bankrules.proofs.Ruling.{low_inside, deep_inside}

-- the first word tells all words: at level 0 it is itself, and below it is what the rule adds
pub record Tells (word_at adds : ℕ → ℕ → ℕ) : Type 0 where
  pub first : (w : ℕ) → word_at w 0 ≡ w
  pub next : (w l : ℕ) → w < 2 ^ 32 → l < deepest → word_at w (suc l) ≡ adds l (word_at w l)

module _ (word_at adds : ℕ → ℕ → ℕ) (tells : Tells word_at adds) where
  descent_length : (first l : ℕ) → length (descent word_at first l) ≡ suc l
  descent_length first zero = refl
  descent_length first (suc l) = ap suc (descent_length first l)

  descent_top : (first l : ℕ) → get_or (descent word_at first l) 0 0 ≡ word_at first l
  descent_top first zero = refl
  descent_top first (suc l) = refl

  descent_below : (first l : ℕ) → 0 < l → drop 1 (descent word_at first l) ≡ descent word_at first (l - 1)
  descent_below first zero h = elim h [ ]
  descent_below first (suc l) h = ap (descent word_at first) (omega arith)

  one_word : (w : ℕ) → w < 2 ^ 32 → IsDescent word_at (w ∷ [])
  one_word w h = record { first = w; fits = h; level = 0; words_are = ap (λ v. v ∷ []) (sym (tells.first w)) }

  more_words : (p : List ℕ) → length p - 1 < deepest → IsDescent word_at p → IsDescent word_at (adds (length p - 1) (get_or p 0 0) ∷ p)
  more_words p l is =
      let n : length p ≡ suc (is.level) = ap length is.words_are ∙ descent_length is.first is.level in
      let low : is.level < deepest = omega (arith, n) in
      let at : length p - 1 ≡ is.level = omega (arith, n) in
      let top : get_or p 0 0 ≡ word_at is.first is.level = ap (λ q. get_or q 0 0) is.words_are ∙ descent_top is.first is.level in
      record {
        first = is.first;
        fits = is.fits;
        level = suc (is.level);
        words_are = rw (at, top, ← tells.next is.first is.level is.fits low) (ap (λ q. word_at is.first (suc (is.level)) ∷ q) is.words_are);
      }

  less_words : (p : List ℕ) → 0 < length p - 1 → IsDescent word_at p → IsDescent word_at (drop 1 p)
  less_words p l is =
      let n : length p ≡ suc (is.level) = ap length is.words_are ∙ descent_length is.first is.level in
      record {
        first = is.first;
        fits = is.fits;
        level = is.level - 1;
        words_are = ap (drop 1) is.words_are ∙ descent_below is.first is.level (omega (arith, n));
      }

  module _ (hinders : Standing → ℕ) where
    abbrev kind : Kind (List (List ℕ))
    kind = ruled_kind hinders adds

    abbrev AreTold : List (List ℕ) → Type 0
    AreTold ps = All (IsDescent word_at) ps

    told_after : (ps : List (List ℕ)) (call : Call) → FitsCall call → AreTold ps → AreTold (after kind ps call)
    told_after ps Count f told = told
    told_after ps (Look d) f told = told
    told_after ps (Put d w) f told =
        cond_both (is_put (kind.devices ps) d) (with_only ps d w) ps AreTold (λ t. All-set (IsDescent word_at) ps d (w ∷ []) (one_word w f) told) (λ t. told)
    told_after ps (Lower d) f told =
        cond_both (is_lowered (kind.devices ps) d) (with_word adds ps d) ps AreTold
        (λ t. let (inside, low) = low_inside hinders ps d t in All-set (IsDescent word_at) ps d _ (more_words (get_or ps d []) low (told d [] inside)) told)
        (λ t. told)
    told_after ps (Raise d) f told =
        cond_both (is_raised (kind.devices ps) d) (without_top ps d) ps AreTold
        (λ t. let (inside, deep) = deep_inside hinders ps d t in All-set (IsDescent word_at) ps d _ (less_words (get_or ps d []) deep (told d [] inside)) told)
        (λ t. told)

    told_after_all : (calls : List Call) (ps : List (List ℕ)) → AllByRecursion FitsCall calls → AreTold ps → AreTold (after_all kind ps calls)
    told_after_all [] ps fs told = told
    told_after_all (call ∷ calls) ps fs told = told_after_all calls (after kind ps call) fs.1 (told_after ps call fs.0 told)

    pub first_words_tell : (words : List ℕ) → All (λ w. w < 2 ^ 32) words → FirstWordsTell word_at kind words
    first_words_tell words fit calls fs =
        told_after_all calls (each_with_one words) fs (All-map (IsDescent word_at) (λ (w : ℕ). w ∷ []) words (All-weaker (λ w. w < 2 ^ 32) (λ w. IsDescent word_at (w ∷ [])) one_word words fit))
