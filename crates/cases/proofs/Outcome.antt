-- What a board file comes to by the tests in their order and the executed rule for the order: an order, or a refusal.
use Rattle.std.proofs.Common.{rules, ◌≡◌, ℕ, zero, suc, ◌<◌, Bool, true, false, cond, ◌&&◌, ◌||◌, eqb, ltb, List, Some, None, Ok, Err, Decides, Option, Result, refl, inl, inr, arith, MatchResult}
use Rattle.std.proofs.lemmas.Bool.Decides.{Decides-eqb, Decides-ltb, Decides-and, Decides-or, Decides-below_or, Decides-like, not_from_Decides}
use Rattle.order.specs.Orders.{IsTheOrder, Circular}
use Rattle.order.specs.Rule.{Tests, all_below, ordering}
use Rattle.order.proofs.Executes.{ordering_right}
use Rattle.boardfile.specs.declared.fault.BoardFault.{BoardFault}
use Rattle.boardfile.specs.declared.fault.BoardFault.TheVariants.{Size, Mark, Counts, Tables, DeviceRecord, LinkRecord, Circle}
use Rattle.boardfile.specs.Layout.{trailer, device_count, link_count, device_place, link_place, parent_byte, consumer, supplier}
use Rattle.boardfile.specs.Rules.{Framed, RightDevice, RightLink, RightDevices, RightLinks}
use Rattle.boardfile.specs.Contents.{parent, SuperiorIn}
use Rattle.boardfile.specs.Faults.{Refused, Right}
use Rattle.cases.proofs.Testing.{sized, sized_decides, marked, marked_decides, counted, counted_decides, tabled, tabled_decides, device, device_decides, link, link_decides, first_failing, judged}

-- ---- superiors

abbrev some_below : ℕ → (ℕ → Bool) → Bool
some_below zero test = false
some_below (suc n) test = test n || some_below n test

abbrev is : Option ℕ → ℕ → Bool
is None s = false
is (Some p) s = eqb p s

is_decides : (o : Option ℕ) (s : ℕ) → Decides (is o s) (o ≡ Some s)
is_decides None s = search rules
is_decides (Some p) s = search rules

-- a parent that is none of 255
parent_is : (b s : ℕ) (t : Bool) → eqb b 255 ≡ t → cond t None (Some b) ≡ Some s → (b ≡ s) × (b ≡ 255 → ⊥)
parent_is b s true q e = search rules
parent_is b s false q e = search rules

module _ (bs : List ℕ) where
  abbrev pub superior : ℕ → ℕ → Bool
  superior s d = (ltb d (device_count bs) && is (parent bs d) s) || some_below (link_count bs) (λ j. eqb (consumer bs j) d && eqb (supplier bs j) s)

  pub superior_tests : Tests superior (SuperiorIn bs)
  superior_tests s d =
      Decides-or _ _ (Decides-and _ _ (Decides-ltb d (device_count bs)) (is_decides (parent bs d) s))
      (Decides-like _ (λ t. (t.0, t.1, t.2.0, t.2.1)) (λ t. (t.0, t.1, (t.2, t.3)))
      (Decides-below_or _ (λ j. (consumer bs j ≡ d) × (supplier bs j ≡ s)) (λ m. some_below m (λ j. eqb (consumer bs j) d && eqb (supplier bs j) s))
      (λ j. Decides-and _ _ (Decides-eqb (consumer bs j) d) (Decides-eqb (supplier bs j) s)) refl (λ _. refl) (link_count bs)))

  superior_within : RightDevices bs → RightLinks bs → (s d : ℕ) → SuperiorIn bs s d → (s < device_count bs) × (d < device_count bs)
  superior_within devices links s d (inl (l, e)) =
      let p = parent_is (parent_byte bs d) s _ refl e in
      elim (devices d l).parent [ inl q ↦ absurd (p.1 q) | inr q ↦ (omega (arith, q.0, p.0), l) ]
  superior_within devices links s d (inr (j, l, e, f)) = let right = links j l in (omega (arith, right.supplies, f), omega (arith, right.consumes, e))

  -- ---- the tests in their order

  -- the rest where a test passes, and else this fault; only one of them is computed
  abbrev tested : Bool → (Unit {0} → BoardFault) → (Unit {0} → Result (List ℕ) BoardFault) → Result (List ℕ) BoardFault
  tested true fault rest = rest tt
  tested false fault rest = Err (fault tt)

  abbrev placed : Result (List ℕ) ℕ → Result (List ℕ) BoardFault
  placed (Ok order) = Ok order
  placed (Err d) = Err (Circle d)

  abbrev pub outcome : Result (List ℕ) BoardFault
  outcome =
      tested (sized bs) (λ _. Size) (λ _. tested (marked bs) (λ _. Mark (trailer bs)) (λ _. tested (counted bs) (λ _. Counts (trailer bs)) (λ _. tested (tabled bs) (λ _. Tables (trailer bs))
      (λ _. tested (all_below (device_count bs) (device bs)) (λ _. DeviceRecord (device_place bs (first_failing (device_count bs) (device bs))))
      (λ _. tested (all_below (link_count bs) (link bs)) (λ _. LinkRecord (link_place bs (first_failing (link_count bs) (link bs))))
      (λ _. placed (ordering (device_count bs) superior)))))))

  abbrev pub IsRight : Result (List ℕ) BoardFault → Type 0
  IsRight r = MatchResult r (λ order. Right bs × IsTheOrder (device_count bs) (SuperiorIn bs) order) (Refused bs)

  stage : {P : Type 0} (test : Bool) (fault : Unit {0} → BoardFault) (rest : Unit {0} → Result (List ℕ) BoardFault) → Decides test P → ((P → ⊥) → Refused bs (fault tt)) → (P → IsRight (rest tt))
      → IsRight (tested test fault rest)
  stage true fault rest decides fails passes = passes (decides.0 refl)
  stage false fault rest decides fails passes = fails (not_from_Decides false decides refl)

  last : Framed bs → RightDevices bs → RightLinks bs → (r : Result (List ℕ) ℕ)
      → MatchResult r (IsTheOrder (device_count bs) (SuperiorIn bs)) (Circular (device_count bs) (SuperiorIn bs)) → IsRight (placed r)
  last framed devices links (Ok order) is = (record { framed = framed; devices = devices; links = links; no_circle = (order, is.0) }, is)
  last framed devices links (Err d) circular = (framed, devices, links, circular)

  pub outcome_right : IsRight outcome
  outcome_right =
      stage (sized bs) _ _ (sized_decides bs) (λ no. no) (λ s.
      stage (marked bs) _ _ (marked_decides bs) (λ no. (refl, s, no)) (λ m.
      stage (counted bs) _ _ (counted_decides bs) (λ no. (refl, s, m, no)) (λ c.
      stage (tabled bs) _ _ (tabled_decides bs) (λ no. (refl, s, m, c, no)) (λ t.
      let framed : Framed bs = record { sized = s; marked = m; counted = c; tabled = t } in
      let d = judged (device bs) (RightDevice bs) (device_decides bs) (device_count bs) in
      stage _ _ _ d.0 (λ no. (framed, (_, refl, d.1 no))) (λ devices.
      let l = judged (link bs) (RightLink bs) (link_decides bs) (link_count bs) in
      stage _ _ _ l.0 (λ no. (framed, devices, (_, refl, l.1 no))) (λ links.
      last framed devices links _ (ordering_right (device_count bs) superior (SuperiorIn bs) superior_tests (superior_within devices links))))))))
