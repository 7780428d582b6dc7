-- Orders over any relation R whose both sides are below n.
use Rattle.std.proofs.Common.{◌≡◌, ℕ, zero, suc, ◌<◌, ◌≤◌, eqb, ◌⊎◌, List, [], ◌∷◌, ◌++◌, length, get_or, sym, refl, ◌∙◌, subst, inl, inr, arith}
use Rattle.std.proofs.lemmas.List.{ext_get_or, get_or_append_left, get_or_push, length_push}
use Rattle.std.proofs.lemmas.Bool.{cases_lt, cases_order, eq-eqb}
use Rattle.std.proofs.lemmas.List.Folds.{list_any_at}
use Rattle.std.proofs.lemmas.Map.Steps.{le-length_from_below}
use Rattle.order.specs.Orders.{Placed, Before, Permutes, Precedes, Least, Ready, LeastFirst, Endless, Circular, IsTheOrder, Pinned, Inside, Once, SuperiorsEarlier, NoneLess}
use Rattle.order.proofs.Finding.{by_less, Injects, pigeon, covers}

-- ---- chains

-- where each of some devices has a superior among them, a chain from any never ends
pub endless_among : (R : ℕ → ℕ → Type 0) (U : ℕ → Type 0) → ((d : ℕ) → U d → (s : ℕ) × R s d × U s) → (d : ℕ) → U d → Endless R d
endless_among R U up d u = ((λ i. (walk i).0), refl, (λ i. (up (walk i).0 (walk i).1).1))
  where
    walk : ℕ → (e : ℕ) × U e
    walk zero = (d, u)
    walk (suc i) = let t = up (walk i).0 (walk i).1 in (t.0, t.2)

-- the chain from a superior
pub endless_up : (R : ℕ → ℕ → Type 0) (d : ℕ) → Endless R d → (s : ℕ) × R s d × Endless R s
endless_up R d (c, start, up) = (c 1, rw start at (up 0), ((λ i. c (suc i)), refl, (λ i. up (suc i))))

-- the first k places take a device only after its superiors
abbrev pub Grounded : (ℕ → ℕ → Type 0) → List ℕ → ℕ → Type 0
Grounded R order k = (i : ℕ) → i < k → (s : ℕ) → R s (get_or order i 0) → Placed order i s

-- so from a device among them each chain ends
pub grounded_ends : (R : ℕ → ℕ → Type 0) (order : List ℕ) (k : ℕ) → Grounded R order k → (d : ℕ) → Placed order k d → Endless R d → ⊥
grounded_ends R order k ground d (i, l, e) = by_less Ends step i l d e
  where
    Ends : ℕ → Type 0
    Ends i = i < k → (d : ℕ) → get_or order i 0 ≡ d → Endless R d → ⊥

    step : (i : ℕ) → ((j : ℕ) → j < i → Ends j) → Ends i
    step i before l d e endless =
        let t = endless_up R d endless in
        let p = ground i l t.0 (subst (λ x. R t.0 x) (sym e) t.1) in
        before p.0 p.1 (omega (arith, p.1)) t.0 p.2 t.2

-- ---- the first i places of two orders

abbrev pub Agree : List ℕ → List ℕ → ℕ → Type 0
Agree a b i = (j : ℕ) → j < i → get_or a j 0 ≡ get_or b j 0

agree_back : (a b : List ℕ) (i : ℕ) → Agree a b i → Agree b a i
agree_back a b i same j l = sym (same j l)

placed_agree : (a b : List ℕ) (i : ℕ) → Agree a b i → (d : ℕ) → Placed a i d → Placed b i d
placed_agree a b i same d (j, l, e) = (j, l, sym (same j l) ∙ e)

push_agrees : (order : List ℕ) (d i : ℕ) → i ≤ length order → Agree order (order ++ d ∷ []) i
push_agrees order d i h j l = sym (get_or_append_left order (d ∷ []) 0 j (omega arith))

pub placed_push : (order : List ℕ) (d e : ℕ) → Placed (order ++ d ∷ []) (length (order ++ d ∷ [])) e → Placed order (length order) e ⊎ (e ≡ d)
placed_push order d e (j, l, q) = go (cases_lt j (length order))
  where
    go : (j < length order) ⊎ (length order ≤ j) → Placed order (length order) e ⊎ (e ≡ d)
    go (inl h) = inl (j, h, push_agrees order d (length order) (omega arith) j h ∙ q)
    go (inr h) = inr (sym q ∙ get_or_push order d 0 j (omega (arith, length_push order d)))

pub push_placed : (order : List ℕ) (d e : ℕ) → Placed order (length order) e ⊎ (e ≡ d) → Placed (order ++ d ∷ []) (length (order ++ d ∷ [])) e
push_placed order d e (inl (j, l, q)) = (j, omega (arith, length_push order d), sym (push_agrees order d (length order) (omega arith) j l) ∙ q)
push_placed order d e (inr s) = (length order, omega (arith, length_push order d), get_or_push order d 0 (length order) refl ∙ sym s)

pub least_same : (P : ℕ → Type 0) (x y : ℕ) → Least P x → Least P y → x ≡ y
least_same P x y (p, low) (q, low') = go (cases_order x y)
  where
    go : (x ≡ y) ⊎ ((x < y) ⊎ (y < x)) → x ≡ y
    go (inl e) = e
    go (inr (inl l)) = absurd (low' x l p)
    go (inr (inr l)) = absurd (low y l q)

module _ (n : ℕ) (R : ℕ → ℕ → Type 0) where
  ready_agree : (a b : List ℕ) (i : ℕ) → Agree a b i → (d : ℕ) → Ready n R a i d → Ready n R b i d
  ready_agree a b i same d (small, free, sups) =
      (small, (λ p. free (placed_agree b a i (agree_back a b i same) d p)), (λ s r. placed_agree a b i same s (sups s r)))

  least_agree : (a b : List ℕ) (i : ℕ) → Agree a b i → (d : ℕ) → Least (Ready n R a i) d → Least (Ready n R b i) d
  least_agree a b i same d (ready, low) = (ready_agree a b i same d ready, (λ y l r. low y l (ready_agree b a i (agree_back a b i same) y r)))

  -- ---- what an order made least first is

  pub least_none : LeastFirst n R []
  least_none i l = absurd (omega arith)

  pub least_push : (order : List ℕ) (d : ℕ) → LeastFirst n R order → Least (Ready n R order (length order)) d → LeastFirst n R (order ++ d ∷ [])
  least_push order d least next i l = go (cases_lt i (length order))
    where
      more : List ℕ
      more = order ++ d ∷ []

      go : (i < length order) ⊎ (length order ≤ i) → Least (Ready n R more i) (get_or more i 0)
      go (inl h) =
          let t = least_agree order more i (push_agrees order d i (omega arith)) (get_or order i 0) (least i h) in
          subst (λ x. Least (Ready n R more i) x) (push_agrees order d (length order) (omega arith) i h) t
      go (inr h) =
          let e : length order ≡ i = omega (arith, length_push order d) in
          let t = least_agree order more (length order) (push_agrees order d (length order) (omega arith)) d next in
          rw (get_or_push order d 0 i e) (subst (λ k. Least (Ready n R more k) d) e t)

  pub least_grounded : (order : List ℕ) → LeastFirst n R order → Grounded R order (length order)
  least_grounded order least i l s r = (least i l).0.2 s r

  least_injects : (order : List ℕ) → LeastFirst n R order → Injects n order
  least_injects order least = record { inside = λ i l. (least i l).0.0; apart = λ i j h l e. (least j l).0.1 (i, h, e) }

  pub least_short : (order : List ℕ) → LeastFirst n R order → length order ≤ n
  least_short order least = pigeon (least_injects order least)

  -- with all devices placed it is as long as there are devices
  pub least_long : (order : List ℕ) → LeastFirst n R order → ((d : ℕ) → d < n → Placed order (length order) d) → length order ≡ n
  least_long order least all =
      let covered = le-length_from_below order n (λ d l. let t = all d l in list_any_at (eqb d) order t.0 0 t.1 (eq-eqb d _ (sym t.2))) in
      omega (arith, covered, least_short order least)

  injects_permutes : (order : List ℕ) → length order ≡ n → Injects n order → Permutes n order
  injects_permutes order long inj =
      record { long = long; inside = λ i l. inj.inside i (omega arith); place = covers inj long; once = λ i j h k e. same i j h k e (cases_order i j) }
    where
      same : (i j : ℕ) → i < n → j < n → get_or order i 0 ≡ get_or order j 0 → (i ≡ j) ⊎ ((i < j) ⊎ (j < i)) → i ≡ j
      same i j h k e (inl q) = q
      same i j h k e (inr (inl l)) = absurd (inj.apart i j l (omega arith) e)
      same i j h k e (inr (inr l)) = absurd (inj.apart j i l (omega arith) (sym e))

  pub least_permutes : (order : List ℕ) → length order ≡ n → LeastFirst n R order → Permutes n order
  least_permutes order long least = injects_permutes order long (least_injects order least)

  precedes_grounded_place : (order : List ℕ) → Precedes n R order → (i j : ℕ) → i < n → j < n → R (get_or order i 0) (get_or order j 0) → i < j
  precedes_grounded_place order prec i j l k r =
      let b = prec.superiors_first (get_or order i 0) (get_or order j 0) r in
      let bound : b.1 < n = omega (arith, b.3, prec.permutes.long) in
      omega (arith, b.2, prec.permutes.once b.0 i (omega (arith, b.2)) l b.4, prec.permutes.once b.1 j bound k b.5)

  pub precedes_grounded : (order : List ℕ) → Precedes n R order → Grounded R order n
  precedes_grounded order prec i l s r =
      let b = prec.superiors_first s (get_or order i 0) r in
      let same = prec.permutes.once b.1 i (omega (arith, b.3, prec.permutes.long)) l b.5 in
      (b.0, omega (arith, b.2), b.4)

  -- ---- with superiors and dependents below n

  module _ (within : (s d : ℕ) → R s d → (s < n) × (d < n)) where
    pub least_precedes : (order : List ℕ) → length order ≡ n → LeastFirst n R order → Precedes n R order
    least_precedes order long least = record { permutes = permutes; superiors_first = first }
      where
        permutes : Permutes n order
        permutes = least_permutes order long least

        first : (s d : ℕ) → R s d → Before order s d
        first s d r =
            let p = permutes.place d (within s d r).1 in
            let l : p.0 < length order = omega (arith, p.1) in
            let q = (least p.0 l).0.2 s (subst (λ x. R s x) (sym p.2) r) in
            (q.0, p.0, q.1, l, q.2, p.2)

    pub order_ends : (order : List ℕ) → Precedes n R order → (d : ℕ) → Endless R d → ⊥
    order_ends order prec d endless =
        let t = endless_up R d endless in
        let p = prec.permutes.place d (within t.0 d t.1).1 in
        grounded_ends R order n (precedes_grounded order prec) d p endless

    -- the least device left where every device left has a superior that is left
    pub stuck_circular : (order : List ℕ) → LeastFirst n R order → (d : ℕ) → d < n → (Placed order (length order) d → ⊥)
        → ((e : ℕ) → e < d → Placed order (length order) e)
        → ((e : ℕ) → e < n → (Placed order (length order) e → ⊥) → (s : ℕ) × R s e × (Placed order (length order) s → ⊥))
        → Circular n R d
    stuck_circular order least d small left below up =
        record { device = small; no_order = λ o. order_ends o.0 o.1 d endless; endless = endless; least = λ e l q. grounded_ends R order (length order) (least_grounded order least) e (below e l) q }
      where
        Left : ℕ → Type 0
        Left e = (e < n) × (Placed order (length order) e → ⊥)

        climb : (e : ℕ) → Left e → (s : ℕ) × R s e × Left s
        climb e (l, q) = let t = up e l q in (t.0, t.1, ((within t.0 e t.1).0, t.2))

        endless : Endless R d
        endless = endless_among R Left climb d (small, left)

    -- ---- what an order keeps in its type

    pub kept_order : (order : List ℕ) → length order ≡ n → Inside n order → Once n order → SuperiorsEarlier n R order → NoneLess n R order → IsTheOrder n R order
    kept_order order long inside once earlier none-less = (record { permutes = permutes; superiors_first = first }, least)
      where
        permutes : Permutes n order
        permutes = injects_permutes order long (record { inside = λ i l. inside i (omega arith); apart = λ i j h l e. once i j (h, omega arith) e })

        first : (s d : ℕ) → R s d → Before order s d
        first s d r =
            let p = permutes.place s (within s d r).0 in
            let q = permutes.place d (within s d r).1 in
            let t = subst (λ x. R (get_or order p.0 0) x) (sym q.2) (subst (λ x. R x d) (sym p.2) r) in
            (p.0, q.0, earlier p.0 q.0 (p.1, q.1) t, omega (arith, q.1), p.2, q.2)

        least : LeastFirst n R order
        least i l =
            let small : i < n = omega arith in
            let sups : (s : ℕ) → R s (get_or order i 0) → Placed order i s =
            λ s r.
            let p = permutes.place s (within s (get_or order i 0) r).0 in
            (p.0, earlier p.0 i (p.1, small) (subst (λ x. R x (get_or order i 0)) (sym p.2) r), p.2) in
            ((inside i small, (λ p. once p.0 i (p.1, small) p.2), sups), (λ d h. none-less i d (small, h)))

    pub order_kept : (order : List ℕ) → IsTheOrder n R order → Inside n order × Once n order × SuperiorsEarlier n R order × NoneLess n R order
    order_kept order (prec, least) = (
      prec.permutes.inside,
      (λ i j h e. omega (arith, prec.permutes.once i j (omega (arith, h.0, h.1)) h.1 e, h.0)),
      (λ i j h r. precedes_grounded_place order prec i j h.0 h.1 r),
      (λ i d h ready. (least i (omega (arith, h.0, prec.permutes.long))).1 d h.1 ready),
    )

  -- ---- which order it is

  pub least_unique : Pinned n R
  least_unique a b p q la lb = ext_get_or 0 a b (p ∙ sym q) (λ i l. by_less (λ i. i < n → get_or a i 0 ≡ get_or b i 0) step i (omega arith))
    where
      step : (i : ℕ) → ((j : ℕ) → j < i → j < n → get_or a j 0 ≡ get_or b j 0) → i < n → get_or a i 0 ≡ get_or b i 0
      step i before l =
          let same : Agree a b i = λ j h. before j h (omega arith) in
          least_same (Ready n R b i) (get_or a i 0) (get_or b i 0) (least_agree a b i same (get_or a i 0) (la i (omega arith))) (lb i (omega arith))
