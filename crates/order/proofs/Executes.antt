-- The rule as a definition that executes gives what the relation asks for.
use Rattle.std.proofs.Common.{◌≡◌, ℕ, zero, suc, ◌+◌, ◌<◌, Bool, true, false, cond, not, ◌&&◌, ◌||◌, eqb, ◌⊎◌, List, [], ◌∷◌, ◌++◌, length, get_or, Some, None, Ok, Err, Decides, Option, Result, sym, refl, ◌∙◌, subst, inl, inr, arith, MatchOption, MatchResult}
use Rattle.std.proofs.lemmas.Bool.Decides.{Decides-eqb, Decides-like, Decides-not, Decides-and, Decides-by_or, Decides-below_and, not_from_Decides}
use Rattle.std.proofs.lemmas.Bool.{cases_eq, true≢false}
use Rattle.std.proofs.lemmas.List.{length_push, get_or_default}
use Rattle.order.specs.Orders.{Placed, Least, Ready, LeastFirst, IsTheOrder, Circular}
use Rattle.order.specs.Rule.{Tests, has, all_below, least_below, ready, placing, ordering}
use Rattle.order.proofs.Finding.{Decided, search_below}
use Rattle.order.proofs.Relations.{least_none, least_push, least_long, least_permutes, least_precedes, stuck_circular}

-- ---- the tests

has_decides : (order : List ℕ) (d : ℕ) → Decides (has order d) (Placed order (length order) d)
has_decides order d =
    Decides-like (has order d) (λ t. (t.0, t.1, t.2 0)) there (Decides-by_or (λ x. eqb x d) (λ x. x ≡ d) (λ xs. has xs d) (λ x. Decides-eqb x d) refl (λ _ _. refl) order)
  where
    there : Placed order (length order) d → (k : ℕ) × (k < length order) × ((e : ℕ) → get_or order k e ≡ d)
    there (j, l, e) = (j, l, (λ x. get_or_default order j x 0 l ∙ e))

decides_implies : {P Q : Type 0} → (x y : Bool) → Decides x P → Decides y Q → Decides (not x || y) (P → Q)
decides_implies true y p q = ((λ e _. q.0 e), (λ f. q.1 (f (p.0 refl))))
decides_implies false y p q = ((λ _ h. absurd (true≢false (sym (p.1 h)))), (λ _. refl))

pub all_decides : (test : ℕ → Bool) (P : ℕ → Type 0) → ((k : ℕ) → Decides (test k) (P k)) → (n : ℕ) → Decides (all_below n test) ((k : ℕ) → k < n → P k)
all_decides test P each n = Decides-below_and test P (λ m. all_below m test) each refl (λ _. refl) n

-- the least number below n that passes
abbrev Finds : (ℕ → Bool) → ℕ → Option ℕ → Type 0
Finds test n o = MatchOption o ((e : ℕ) → e < n → test e ≡ false) (λ d. (d < n) × (test d ≡ true) × ((e : ℕ) → e < d → test e ≡ false))

least_finds : (test : ℕ → Bool) (n : ℕ) → Finds test n (least_below n test)
least_finds test zero = λ e h. absurd (omega arith)
least_finds test (suc n) = go (least_below n test) (least_finds test n) (test n) refl
  where
    none : ((e : ℕ) → e < n → test e ≡ false) → test n ≡ false → (e : ℕ) → e < suc n → test e ≡ false
    none below here e h = elim (cases_eq e n) [ inl q ↦ subst (λ x. test x ≡ false) (sym q) here | inr ne ↦ below e (omega arith) ]

    go : (o : Option ℕ) → Finds test n o → (b : Bool) → test n ≡ b → Finds test (suc n) (elim o as (λ _. Option ℕ) [ None ↦ cond b (Some n) None | Some x ↦ Some x ])
    go None below true here = (omega arith, here, below)
    go None below false here = none below here
    go (Some d) (l, at, low) b here = (omega arith, at, low)

-- ---- the places

module _ (n : ℕ) (above : ℕ → ℕ → Bool) (R : ℕ → ℕ → Type 0) (tests : Tests above R) (within : (s d : ℕ) → R s d → (s < n) × (d < n)) where
  abbrev AllPlaced : List ℕ → ℕ → Type 0
  AllPlaced order d = (s : ℕ) → s < n → R s d → Placed order (length order) s

  sups_decides : (order : List ℕ) (d : ℕ) → Decides (all_below n (λ s. not (above s d) || has order s)) (AllPlaced order d)
  sups_decides order d =
      all_decides (λ s. not (above s d) || has order s) (λ s. R s d → Placed order (length order) s) (λ s. decides_implies (above s d) (has order s) (tests s d) (has_decides order s)) n

  ready_decides : (order : List ℕ) (d : ℕ) → Decides (ready n above order d) ((Placed order (length order) d → ⊥) × AllPlaced order d)
  ready_decides order d = Decides-and (not (has order d)) (all_below n (λ s. not (above s d) || has order s)) (Decides-not (has order d) (has_decides order d)) (sups_decides order d)

  -- the least that passes the test is the least that is ready
  found_least : (order : List ℕ) (d : ℕ) → (d < n) × (ready n above order d ≡ true) × ((e : ℕ) → e < d → ready n above order e ≡ false) → Least (Ready n R order (length order)) d
  found_least order d (small, passes, low) =
      let r = (ready_decides order d).0 passes in
      ((small, r.0, (λ s h. r.1 s (within s d h).0 h)), (λ y l h. not_from_Decides (ready n above order y) (ready_decides order y) (low y l) (h.1, (λ s _ q. h.2 s q))))

  abbrev Stuck : List ℕ → Type 0
  Stuck order = (d : ℕ) → d < n → ready n above order d ≡ false

  -- k places more are least first as well; they are k, or nothing is ready after them
  placing_least : (k : ℕ) (order : List ℕ) → LeastFirst n R order
      → LeastFirst n R (placing n above k order) × (Stuck (placing n above k order) ⊎ (length (placing n above k order) ≡ length order + k))
  placing_least zero order least = (least, inr (omega arith))
  placing_least (suc k) order least = go (least_below n (ready n above order)) (least_finds (ready n above order) n) (λ d more. placing_least k (order ++ d ∷ []) more)
    where
      after : Option ℕ → List ℕ
      after o = elim o [ None ↦ order | Some d ↦ placing n above k (order ++ d ∷ []) ]

      Good : List ℕ → ℕ → Type 0
      Good places m = LeastFirst n R places × (Stuck places ⊎ (length places ≡ m))

      go : (o : Option ℕ) → Finds (ready n above order) n o
          → ((d : ℕ) → LeastFirst n R (order ++ d ∷ []) → Good (placing n above k (order ++ d ∷ [])) (length (order ++ d ∷ []) + k))
          → Good (after o) (length order + suc k)
      go None none rest = (least, inl none)
      go (Some d) found rest =
          let t = rest d (least_push n R order d least (found_least order d found)) in
          let e : length (order ++ d ∷ []) + k ≡ length order + suc k = omega (arith, length_push order d) in
          (t.0, elim t.1 [ inl stuck ↦ inl stuck | inr long ↦ inr (long ∙ e) ])

  decide : {P : Type 0} → (b : Bool) → Decides b P → Decided P
  decide true d = inl (d.0 refl)
  decide false d = inr (not_from_Decides false d refl)

  -- what holds a device back that is left where nothing is ready
  held_back : (order : List ℕ) → Stuck order → (e : ℕ) → e < n → (Placed order (length order) e → ⊥) → (s : ℕ) × R s e × (Placed order (length order) s → ⊥)
  held_back order stuck e small out = go (search_below Missing missing n)
    where
      Missing : ℕ → Type 0
      Missing s = R s e × (Placed order (length order) s → ⊥)

      missing : (s : ℕ) → Decided (Missing s)
      missing s = decide (above s e && not (has order s)) (Decides-and (above s e) (not (has order s)) (tests s e) (Decides-not (has order s) (has_decides order s)))

      placed : (s : ℕ) → (Missing s → ⊥) → R s e → Placed order (length order) s
      placed s none r = elim (decide (has order s) (has_decides order s)) [ inl p ↦ p | inr q ↦ absurd (none (r, q)) ]

      go : ((s : ℕ) × (s < n) × Missing s × ((j : ℕ) → j < s → Missing j → ⊥)) ⊎ ((s : ℕ) → s < n → Missing s → ⊥) → (s : ℕ) × R s e × (Placed order (length order) s → ⊥)
      go (inl (s, _, m, _)) = (s, m.0, m.1)
      go (inr none) = absurd (not_from_Decides (ready n above order e) (ready_decides order e) (stuck e small) (out, (λ s l r. placed s (none s l) r)))

  -- the order, or the device to name
  abbrev Right : Result (List ℕ) ℕ → Type 0
  Right r = MatchResult r (IsTheOrder n R) (Circular n R)

  pub ordering_right : Right (ordering n above)
  ordering_right = go (least_below n absent) (least_finds absent n)
    where
      order : List ℕ
      order = placing n above n []

      absent : ℕ → Bool
      absent d = not (has order d)

      absent_decides : (d : ℕ) → Decides (absent d) (Placed order (length order) d → ⊥)
      absent_decides d = Decides-not (has order d) (has_decides order d)

      least : LeastFirst n R order
      least = (placing_least n [] (least_none n R)).0

      stuck_or_long : Stuck order ⊎ (length order ≡ 0 + n)
      stuck_or_long = (placing_least n [] (least_none n R)).1

      there : (d : ℕ) → absent d ≡ false → Placed order (length order) d
      there d e = elim (decide (has order d) (has_decides order d)) [ inl p ↦ p | inr q ↦ absurd (not_from_Decides (absent d) (absent_decides d) e q) ]

      go : (o : Option ℕ) → Finds absent n o → Right (elim o as (λ _. Result (List ℕ) ℕ) [ None ↦ Ok order | Some d ↦ Err d ])
      go None all = let long = least_long n R order least (λ d l. there d (all d l)) in (least_precedes n R within order long least, least)
      go (Some d) (small, left, below) = stuck stuck_or_long
        where
          out : Placed order (length order) d → ⊥
          out = (absent_decides d).0 left

          stuck : Stuck order ⊎ (length order ≡ 0 + n) → Circular n R d
          stuck (inl s) = stuck_circular n R within order least d small out (λ e h. there e (below e h)) (held_back order s)
          stuck (inr l) =
              let long : length order ≡ n = omega arith in
              let p = (least_permutes n R order long least).place d small in
              absurd (out (p.0, omega (arith, p.1), p.2))
