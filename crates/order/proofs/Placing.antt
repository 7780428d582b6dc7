-- What the loop that places devices keeps, and what follows where it stops. The sets stand for the relation.
use Rattle.std.proofs.Common.{◌≡◌, ℕ, ◌+◌, ◌<◌, ◌≤◌, ◌⊎◌, List, [], ◌∷◌, ◌++◌, length, take, set, sym, ◌∙◌, subst, inl, inr, arith}
use Rattle.std.proofs.lemmas.List.{length_push, length-set, length-take-le, take_more_set}
use Rattle.order.specs.declared.set.DeviceSet.{DeviceSet}
use Rattle.order.specs.declared.superiors.Superiors.{Superiors}
use Rattle.order.specs.Sets.{In, With}
use Rattle.order.specs.Tables.{Above, Known, Free, Held}
use Rattle.order.specs.Orders.{Placed, Least, Ready, LeastFirst, IsTheOrder, Circular}
use Rattle.order.proofs.Relations.{least_push, least_short, least_long, least_precedes, least_permutes, stuck_circular, placed_push, push_placed}

-- the places so far are least first, and the set has just the devices in them
pub record Kept (n : ℕ) (sets : List DeviceSet) (order : List ℕ) (placed : DeviceSet) : Type 0 where
  pub least : LeastFirst n (Above sets) order
  pub in_placed : (e : ℕ) → In placed e → Placed order (length order) e
  pub placed_in : (e : ℕ) → Placed order (length order) e → In placed e

module _ {n : ℕ} {sets : List DeviceSet} {order : List ℕ} {placed : DeviceSet} (kept : Kept n sets order placed) where
  free_ready : (d : ℕ) → Free n sets placed d → Ready n (Above sets) order (length order) d
  free_ready d (small, out, sups) = (small, (λ p. out (kept.placed_in d p)), (λ s r. kept.in_placed s (sups s r)))

  ready_free : (d : ℕ) → Ready n (Above sets) order (length order) d → Free n sets placed d
  ready_free d (small, out, sups) = (small, (λ h. out (kept.in_placed d h)), (λ s r. kept.placed_in s (sups s r)))

  next_least : (d : ℕ) → Least (Free n sets placed) d → LeastFirst n (Above sets) (order ++ d ∷ [])
  next_least d (free, low) = least_push n (Above sets) order d kept.least (free_ready d free, (λ y l r. low y l (ready_free y r)))

  -- while a device is free there is a place for it
  kept_room : (d : ℕ) → Least (Free n sets placed) d → length order < n
  kept_room d next = omega (arith, least_short n (Above sets) (order ++ d ∷ []) (next_least d next), length_push order d)

  kept_push : (d : ℕ) (more : DeviceSet) → Least (Free n sets placed) d → With placed more d → Kept n sets (order ++ d ∷ []) more
  kept_push d more next with =
      record {
        least = next_least d next;
        in_placed = λ e h. push_placed order d e (there e (with.more e h));
        placed_in = λ e p. back e (placed_push order d e p);
      }
    where
      there : (e : ℕ) → In placed e ⊎ (e ≡ d) → Placed order (length order) e ⊎ (e ≡ d)
      there e (inl h) = inl (kept.in_placed e h)
      there e (inr q) = inr q

      back : (e : ℕ) → Placed order (length order) e ⊎ (e ≡ d) → In more e
      back e (inl p) = with.keeps e (kept.placed_in e p)
      back e (inr q) = rw q with.has

  -- with all devices placed, that is the order
  kept_all : Known n sets → ((d : ℕ) → d < n → In placed d) → (length order ≡ n) × IsTheOrder n (Above sets) order
  kept_all known all =
      let long = least_long n (Above sets) order kept.least (λ d l. kept.in_placed d (all d l)) in
      (long, (least_precedes n (Above sets) known order long kept.least, kept.least))

  -- with none free, the least device left is the one to name
  kept_stuck : Known n sets → ((d : ℕ) → d < n → In placed d ⊎ Held sets placed d)
      → (d : ℕ) → d < n → (In placed d → ⊥) → ((e : ℕ) → e < d → In placed e) → Circular n (Above sets) d
  kept_stuck known held d small out below =
      stuck_circular n (Above sets) known order kept.least d small (λ p. out (kept.placed_in d p)) (λ e h. kept.in_placed e (below e h))
      (λ e h q. elim (held e h) [ inl i ↦ absurd (q (kept.in_placed e i)) | inr t ↦ (t.0, t.1, (λ p. t.2 (kept.placed_in t.0 p))) ])

-- ---- the places that the code fills

pub record Runs (table : Superiors) (places : List ℕ) (taken : ℕ) (placed : DeviceSet) : Type 0 where
  pub kept : Kept table.count table.sets (take taken places) placed
  pub long : length places ≡ 64
  pub bound : taken ≤ table.count

module _ {table : Superiors} {places : List ℕ} {taken : ℕ} {placed : DeviceSet} (runs : Runs table places taken placed) where
  taken_long : length (take taken places) ≡ taken
  taken_long = length-take-le taken places (omega (arith, runs.bound, runs.long, table.few))

  pub runs_more : {d : ℕ} {more : DeviceSet} → Least (Free table.count table.sets placed) d → With placed more d → Runs table (set places taken d) (taken + 1) more
  runs_more {d} {more} next with =
      record {
        kept = rw pushed (kept_push runs.kept d more next with);
        long = length-set places taken d ∙ runs.long;
        bound = omega (arith, room);
      }
    where
      room : taken < table.count
      room = omega (arith, kept_room runs.kept d next, taken_long)

      pushed : take (taken + 1) (set places taken d) ≡ take taken places ++ d ∷ []
      pushed = take_more_set places taken d (omega (arith, room, runs.long, table.few))

  pub runs_all : ((d : ℕ) → d < table.count → In placed d) → IsTheOrder table.count (Above table.sets) (take table.count places)
  runs_all all =
      let t = kept_all runs.kept table.known all in
      let e : taken ≡ table.count = sym taken_long ∙ t.0 in
      subst (λ k. IsTheOrder table.count (Above table.sets) (take k places)) e t.1

  pub runs_stuck : ((d : ℕ) → d < table.count → In placed d ⊎ Held table.sets placed d)
      → (d : ℕ) → d < table.count → (In placed d → ⊥) → ((e : ℕ) → e < d → In placed e) → Circular table.count (Above table.sets) d
  runs_stuck = kept_stuck runs.kept table.known

  -- with no place left none is free
  pub runs_full : 64 ≤ taken → (d : ℕ) → d < table.count → In placed d ⊎ Held table.sets placed d
  runs_full full d small =
      let long : length (take taken places) ≡ table.count = omega (arith, taken_long, runs.bound, table.few) in
      let p = (least_permutes table.count (Above table.sets) _ long runs.kept.least).place d small in
      inl (runs.kept.placed_in d (p.0, omega (arith, p.1), p.2))
