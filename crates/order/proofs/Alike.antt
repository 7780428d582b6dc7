-- Two relations that say the same have the same orders.
use Rattle.std.proofs.Common.{ℕ, List}
use Rattle.order.specs.Orders.{Precedes, Ready, Endless, Orderable, Circular, IsTheOrder}

module _ (n : ℕ) (R R' : ℕ → ℕ → Type 0) (there : (s d : ℕ) → R s d → R' s d) (back : (s d : ℕ) → R' s d → R s d) where
  precedes_alike : (order : List ℕ) → Precedes n R order → Precedes n R' order
  precedes_alike order prec = record { permutes = prec.permutes; superiors_first = λ s d r. prec.superiors_first s d (back s d r) }

  ready_alike : (order : List ℕ) (i d : ℕ) → Ready n R order i d → Ready n R' order i d
  ready_alike order i d (small, out, sups) = (small, out, (λ s r. sups s (back s d r)))

  endless_alike : (d : ℕ) → Endless R d → Endless R' d
  endless_alike d (chain, start, up) = (chain, start, (λ i. there _ _ (up i)))

  pub orderable_alike : Orderable n R → Orderable n R'
  orderable_alike (order, prec) = (order, precedes_alike order prec)

module _ (n : ℕ) (R R' : ℕ → ℕ → Type 0) (there : (s d : ℕ) → R s d → R' s d) (back : (s d : ℕ) → R' s d → R s d) where
  pub order_alike : (order : List ℕ) → IsTheOrder n R order → IsTheOrder n R' order
  order_alike order (prec, least) = (
    precedes_alike n R R' there back order prec,
    (λ i l. (ready_alike n R R' there back order i _ (least i l).0, (λ y h r. (least i l).1 y h (ready_alike n R' R back there order i y r)))),
  )

  pub circular_alike : (d : ℕ) → Circular n R d → Circular n R' d
  circular_alike d circular =
      record {
        device = circular.device;
        no_order = λ o. circular.no_order (orderable_alike n R' R back there o);
        endless = endless_alike n R R' there back d circular.endless;
        least = λ e l h. circular.least e l (endless_alike n R' R back there e h);
      }
