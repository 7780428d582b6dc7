-- What a table of superiors is kept to without a choice, with the choice: it can be made by tests.
use Rattle.std.proofs.Common.{◌≡◌, ℕ, zero, suc, ◌<◌, Bool, true, false, not, ◌&&◌, eqb, ltb, inl, inr, Decides, List, refl, subst, vec_items, arith}
use Rattle.std.proofs.Math.Logic.{∥∥₁_elim, ∥∥₁_map}
use Rattle.std.proofs.Props.{props}
use Rattle.std.proofs.lemmas.Bool.Decides.{nat_tests}
use Rattle.order.specs.Sets.{Bit}
use Rattle.order.specs.declared.superiors.Superiors.{Superiors}
use Rattle.order.specs.declared.ordering.Order.{Order}
use Rattle.order.specs.Orders.{IsTheOrder}
use Rattle.order.specs.Answers.{Superior, devices}
use Rattle.order.proofs.Alike.{order_alike}
use Rattle.order.proofs.Exactness.{ordered}
use Rattle.boardfile.specs.Layout.{parent_byte, consumer, supplier, device_count, link_count}
use Rattle.boardfile.specs.Contents.{ParentIn, LinkedIn, SuperiorIn, devices_of, links_of, kinds_of}
use Rattle.board.specs.declared.board.Board.{Board}
use Rattle.board.specs.Reading.{Says}
use Rattle.board.specs.Wiring.{Wired, Ordered}

module _ (P : ℕ → Type 0) (test : ℕ → Bool) (decides : (j : ℕ) → Decides (test j) (P j)) where
  -- a number with P that is not the last one
  less : (m j : ℕ) → test m ≡ false → j < suc m → P j → j < m
  less m j fails inside p = let passes : test j ≡ true = (decides j).1 p in grind arith

  abbrev Some : ℕ → Type 0
  Some m = (j : ℕ) × (j < m) × P j

  one_more : (m : ℕ) → (∥ Some m ∥₁ → Some m) → (r : Bool) → test m ≡ r → ∥ Some (suc m) ∥₁ → Some (suc m)
  one_more m below true passes some = (m, omega arith, (decides m).0 passes)
  one_more m below false fails some = let (j, l, p) = below (∥∥₁_map some (λ x. (x.0, less m x.0 fails x.1 x.2, x.2))) in (j, omega (arith, l), p)

  -- a number below m with P, where there is one
  found : (m : ℕ) → ∥ Some m ∥₁ → Some m
  found zero some = absurd (∥∥₁_elim some (Prim.hlevel props) (λ x. omega (arith, x.1)))
  found (suc m) some = one_more m (found m) (test m) refl some

module _ (bs : List ℕ) (s d : ℕ) where
  abbrev is_parent : Bool
  is_parent = ltb d (device_count bs) && (not (eqb (parent_byte bs d) 255) && eqb (parent_byte bs d) s)

  parent_decides : Decides is_parent (ParentIn bs s d)
  parent_decides = grind (arith, nat_tests)

  abbrev links : ℕ → Bool
  links j = eqb (consumer bs j) d && eqb (supplier bs j) s

  links_decides : (j : ℕ) → Decides (links j) ((consumer bs j ≡ d) × (supplier bs j ≡ s))
  links_decides j = grind (arith, nat_tests)

  -- a superior is the parent, or there is a link
  linked : is_parent ≡ false → ∥ SuperiorIn bs s d ∥₁ → LinkedIn bs s d
  linked none some =
      let (j, l, p) = found (λ j. (consumer bs j ≡ d) × (supplier bs j ≡ s)) links links_decides (link_count bs) (∥∥₁_map some by_link) in
      (j, l, p.0, p.1)
    where
      no_parent : is_parent ≡ false → ParentIn bs s d → ⊥
      no_parent none p = let passes = parent_decides.1 p in grind arith

      by_link : SuperiorIn bs s d → (j : ℕ) × (j < link_count bs) × ((consumer bs j ≡ d) × (supplier bs j ≡ s))
      by_link (inl p) = absurd (no_parent none p)
      by_link (inr l) = (l.0, l.1, (l.2, l.3))

  superior_by : (r : Bool) → is_parent ≡ r → ∥ SuperiorIn bs s d ∥₁ → SuperiorIn bs s d
  superior_by true passes some = inl (parent_decides.0 passes)
  superior_by false fails some = inr (linked fails some)

pub wired_known : (bs : List ℕ) (table : Superiors) → ∥ Wired bs table ∥₁ → Wired bs table
unfolding Bit
wired_known bs table w =
    record {
      count = ∥∥₁_elim w (Prim.hlevel props) (λ x. x.count);
      adds = λ s d r. ∥∥₁_elim w (Prim.hlevel props) (λ x. x.adds s d r);
      only = λ s d has. superior_by bs s d (is_parent bs s d) refl (∥∥₁_map w (λ x. x.only s d has));
    }

-- what holds of a table of superiors holds of the bytes that it was gathered from
pub order_in : (bs : List ℕ) (order : Order) → Wired bs order.superiors → Ordered bs order
order_in bs order wired =
    let right : IsTheOrder (device_count bs) (SuperiorIn bs) (devices order) =
    subst (λ n. IsTheOrder n (SuperiorIn bs) (devices order)) wired.count (order_alike order.superiors.count (Superior order.superiors) (SuperiorIn bs) wired.only wired.adds (devices order) (ordered order)) in
    record { superiors = wired; least_first = right; exists = (devices order, right.0) }

pub ordered_known : (bs : List ℕ) (order : Order) → ∥ Wired bs order.superiors ∥₁ → Ordered bs order
ordered_known bs order wired = order_in bs order (wired_known bs order.superiors wired)

pub said : (bs : List ℕ) (board : Board) → vec_items board.devices ≡ devices_of bs → vec_items board.links ≡ links_of bs → board.kinds ≡ kinds_of bs
    → ∥ Wired bs board.order.superiors ∥₁ → Says bs board
said bs board devices links kinds wired =
    let is = ordered_known bs board.order wired in
    record { devices = devices; links = links; kinds = kinds; superiors = is.superiors; order = is.least_first }
