-- What follows of an order from its type, and of an answer from its two ways.
use Rattle.std.proofs.Common.{◌≡◌, ℕ, ◌<◌, true, false, ◌⊎◌, ◌↔◌, List, is_ok, Ok, Err, Result, sym, refl, ap, subst, inl, inr, arith, MatchResult}
use Rattle.std.proofs.lemmas.List.{length-take-le}
use Rattle.std.proofs.lemmas.Bool.{cases_order, true≢false}
use Rattle.order.specs.declared.superiors.Superiors.{Superiors}
use Rattle.order.specs.declared.ordering.Order.{Order}
use Rattle.order.specs.declared.ordering.Circle.{Circle}
use Rattle.order.specs.Orders.{IsTheOrder, Circular, Orderable}
use Rattle.order.specs.Answers.{Superior, devices, Answers, answered, Exact}
use Rattle.order.specs.Rule.{ordering}
use Rattle.order.proofs.Relations.{kept_order, least_unique, least_precedes, order_ends}
use Rattle.order.proofs.Executes.{ordering_right}

-- the devices of an order are the order of its table
pub ordered : (order : Order) → IsTheOrder order.superiors.count (Superior order.superiors) (devices order)
ordered order =
    kept_order order.superiors.count (Superior order.superiors) order.superiors.known (devices order) (length-take-le order.superiors.count order.places (omega (arith, order.superiors.few, order.long)))
    order.inside order.once order.earlier order.least

-- ---- over any relation, an order or a device to name

module _ (n : ℕ) (R : ℕ → ℕ → Type 0) where
  pub order_same : (a b : List ℕ) → IsTheOrder n R a → IsTheOrder n R b → a ≡ b
  order_same a b (p, l) (q, m) = least_unique n R a b p.permutes.long q.permutes.long l m

  pub circular_same : (d e : ℕ) → Circular n R d → Circular n R e → d ≡ e
  circular_same d e p q = go (cases_order d e)
    where
      go : (d ≡ e) ⊎ ((d < e) ⊎ (e < d)) → d ≡ e
      go (inl s) = s
      go (inr (inl l)) = absurd (q.least d l p.endless)
      go (inr (inr l)) = absurd (p.least e l q.endless)

  -- the two exclude each other, and each is given by at most one list or device
  pub right_same : (a b : Result (List ℕ) ℕ) → MatchResult a (IsTheOrder n R) (Circular n R) → MatchResult b (IsTheOrder n R) (Circular n R) → a ≡ b
  right_same (Ok a) (Ok b) p q = ap Ok (order_same a b p q)
  right_same (Ok a) (Err e) p q = absurd (q.no_order (a, p.0))
  right_same (Err d) (Ok b) p q = absurd (p.no_order (b, q.0))
  right_same (Err d) (Err e) p q = ap Err (circular_same d e p q)

  orders : (a : Result (List ℕ) ℕ) → MatchResult a (IsTheOrder n R) (Circular n R) → (is_ok a ≡ true) ↔ Orderable n R
  orders (Ok order) right = ((λ _. (order, right.0)), (λ _. refl))
  orders (Err d) right = ((λ (e : false ≡ true). absurd (true≢false (sym e))), (λ o. absurd (right.no_order o)))

-- ---- an answer

right_answer : (table : Superiors) (r : Result Order Circle) → Answers table r → MatchResult (answered r) (IsTheOrder table.count (Superior table)) (Circular table.count (Superior table))
right_answer table (Ok order) is = subst (λ (t : Superiors). IsTheOrder t.count (Superior t) (devices order)) is (ordered order)
right_answer table (Err circle) circular = circular

ok_answered : (r : Result Order Circle) → is_ok (answered r) ≡ is_ok r
ok_answered (Ok order) = refl
ok_answered (Err circle) = refl

pub exact : (table : Superiors) (r : Result Order Circle) → Answers table r → Exact table r
exact table r answers =
    record {
      orders = subst (λ b. (b ≡ true) ↔ Orderable n R) (ok_answered r) (orders n R (answered r) right);
      gives = λ order. ((λ e. subst Right e right), (λ is. right_same n R (answered r) (Ok order) right is));
      names = λ d. ((λ e. subst Right e right), (λ is. right_same n R (answered r) (Err d) right is));
      ends = λ d endless o. order_ends n R table.known o.0 o.1 d endless;
      suffices = least_precedes n R table.known;
      pinned = least_unique n R;
      computes = λ above tests. right_same n R (answered r) (ordering n above) right (ordering_right n above R tests table.known);
    }
  where
    n : ℕ
    n = table.count

    R : ℕ → ℕ → Type 0
    R = Superior table

    Right : Result (List ℕ) ℕ → Type 0
    Right a = MatchResult a (IsTheOrder n R) (Circular n R)

    right : Right (answered r)
    right = right_answer table r answers
