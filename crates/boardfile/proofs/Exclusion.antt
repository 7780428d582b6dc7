-- The bytes are refused in one way, or not at all.
use Rattle.std.proofs.Common.{◌≡◌, ℕ, zero, suc, ◌<◌, List, sym, refl, ap, ◌∙◌, subst, inl, inr, arith, lit<}
use Rattle.std.proofs.lemmas.Bool.{cases_order, cases_eq}
use Rattle.order.specs.Orders.{Orderable, Circular}
use Rattle.order.proofs.Exactness.{circular_same}
use Rattle.boardfile.specs.declared.fault.BoardFault.{BoardFault}
use Rattle.boardfile.specs.declared.fault.BoardFault.TheVariants.{Size, Mark, Counts, Tables, DeviceRecord, LinkRecord, Circle}
use Rattle.boardfile.specs.Layout.{trailer, device_count, link_count, device_place, link_place}
use Rattle.boardfile.specs.Rules.{Sized, Marked, Counted, Tabled, RightDevice, RightLink, RightDevices, RightLinks, FirstWrong}
use Rattle.boardfile.specs.Contents.{SuperiorIn}
use Rattle.boardfile.specs.Faults.{Refused, Right}

-- ---- a fault by the rule that is broken, counted from 0, and the place

rule : BoardFault → ℕ
rule Size = 0
rule (Mark at) = 1
rule (Counts at) = 2
rule (Tables at) = 3
rule (DeviceRecord at) = 4
rule (LinkRecord at) = 5
rule (Circle device) = 6

place : BoardFault → ℕ
place Size = 0
place (Mark at) = at
place (Counts at) = at
place (Tables at) = at
place (DeviceRecord at) = at
place (LinkRecord at) = at
place (Circle device) = device

fault : ℕ → ℕ → BoardFault
fault zero p = Size
fault (suc zero) p = Mark p
fault (suc (suc zero)) p = Counts p
fault (suc (suc (suc zero))) p = Tables p
fault (suc (suc (suc (suc zero)))) p = DeviceRecord p
fault (suc (suc (suc (suc (suc zero))))) p = LinkRecord p
fault (suc (suc (suc (suc (suc (suc k)))))) p = Circle p

fault_back : (f : BoardFault) → fault (rule f) (place f) ≡ f
unfolding rule place fault
fault_back Size = refl
fault_back (Mark at) = refl
fault_back (Counts at) = refl
fault_back (Tables at) = refl
fault_back (DeviceRecord at) = refl
fault_back (LinkRecord at) = refl
fault_back (Circle device) = refl

rule_small : (f : BoardFault) → rule f < 7
unfolding rule
rule_small Size = lit< tt
rule_small (Mark at) = lit< tt
rule_small (Counts at) = lit< tt
rule_small (Tables at) = lit< tt
rule_small (DeviceRecord at) = lit< tt
rule_small (LinkRecord at) = lit< tt
rule_small (Circle device) = lit< tt

module _ (bs : List ℕ) where
  -- ---- the rules by number

  abbrev Rule : ℕ → Type 0
  Rule zero = Sized bs
  Rule (suc zero) = Marked bs
  Rule (suc (suc zero)) = Counted bs
  Rule (suc (suc (suc zero))) = Tabled bs
  Rule (suc (suc (suc (suc zero)))) = RightDevices bs
  Rule (suc (suc (suc (suc (suc zero))))) = RightLinks bs
  Rule (suc (suc (suc (suc (suc (suc k)))))) = Orderable (device_count bs) (SuperiorIn bs)

  abbrev RulesBelow : ℕ → Type 0
  RulesBelow zero = Unit {0}
  RulesBelow (suc k) = RulesBelow k × Rule k

  -- where in the file rule k can be broken
  abbrev Place : ℕ → ℕ → Type 0
  Place zero p = p ≡ 0
  Place (suc zero) p = p ≡ trailer bs
  Place (suc (suc zero)) p = p ≡ trailer bs
  Place (suc (suc (suc zero))) p = p ≡ trailer bs
  Place (suc (suc (suc (suc zero)))) p = (i : ℕ) × (p ≡ device_place bs i) × FirstWrong (RightDevice bs) (device_count bs) i
  Place (suc (suc (suc (suc (suc zero))))) p = (j : ℕ) × (p ≡ link_place bs j) × FirstWrong (RightLink bs) (link_count bs) j
  Place (suc (suc (suc (suc (suc (suc k)))))) p = Circular (device_count bs) (SuperiorIn bs) p

  pub record Breaks (k p : ℕ) : Type 0 where
    pub before : RulesBelow k
    pub broken : Rule k → ⊥
    pub at : Place k p

  breaks : (f : BoardFault) → Refused bs f → Breaks (rule f) (place f)
  unfolding rule place
  breaks Size bad = record { before = tt; broken = bad; at = refl }
  breaks (Mark at) (e, sized, bad) = record { before = (tt, sized); broken = bad; at = e }
  breaks (Counts at) (e, sized, marked, bad) = record { before = ((tt, sized), marked); broken = bad; at = e }
  breaks (Tables at) (e, sized, marked, counted, bad) = record { before = (((tt, sized), marked), counted); broken = bad; at = e }
  breaks (DeviceRecord at) (f, (i, e, first)) =
      record { before = ((((tt, f.sized), f.marked), f.counted), f.tabled); broken = λ all. first.wrong (all i first.inside); at = (i, e, first) }
  breaks (LinkRecord at) (f, devices, (j, e, first)) =
      record { before = (((((tt, f.sized), f.marked), f.counted), f.tabled), devices); broken = λ all. first.wrong (all j first.inside); at = (j, e, first) }
  breaks (Circle device) (f, devices, links, circular) =
      record { before = ((((((tt, f.sized), f.marked), f.counted), f.tabled), devices), links); broken = circular.no_order; at = circular }

  rule_below : (k : ℕ) → RulesBelow k → (j : ℕ) → j < k → Rule j
  rule_below zero all j l = absurd (omega arith)
  rule_below (suc k) all j l = elim (cases_eq j k) [ inl e ↦ subst Rule (sym e) all.1 | inr ne ↦ rule_below k all.0 j (omega arith) ]

  same_rule : (j p k q : ℕ) → Breaks j p → Breaks k q → j ≡ k
  same_rule j p k q a b =
      elim (cases_order j k) [
        | inl e ↦ e
        | inr (inl l) ↦ absurd (a.broken (rule_below k b.before j l))
        | inr (inr l) ↦ absurd (b.broken (rule_below j a.before k l))
      ]

  first_same : (Good : ℕ → Type 0) (n i j : ℕ) → FirstWrong Good n i → FirstWrong Good n j → i ≡ j
  first_same Good n i j a b = elim (cases_order i j) [ inl e ↦ e | inr (inl l) ↦ absurd (a.wrong (b.before i l)) | inr (inr l) ↦ absurd (b.wrong (a.before j l)) ]

  same_place : (k p q : ℕ) → Place k p → Place k q → p ≡ q
  same_place zero p q a b = a ∙ sym b
  same_place (suc zero) p q a b = a ∙ sym b
  same_place (suc (suc zero)) p q a b = a ∙ sym b
  same_place (suc (suc (suc zero))) p q a b = a ∙ sym b
  same_place (suc (suc (suc (suc zero)))) p q (i, a, x) (j, b, y) = a ∙ ap (device_place bs) (first_same (RightDevice bs) (device_count bs) i j x y) ∙ sym b
  same_place (suc (suc (suc (suc (suc zero))))) p q (i, a, x) (j, b, y) = a ∙ ap (link_place bs) (first_same (RightLink bs) (link_count bs) i j x y) ∙ sym b
  same_place (suc (suc (suc (suc (suc (suc k)))))) p q a b = circular_same (device_count bs) (SuperiorIn bs) p q a b

  pub refused_once : (f g : BoardFault) → Refused bs f → Refused bs g → f ≡ g
  refused_once f g x y =
      let a = breaks f x in
      let b = breaks g y in
      let e = same_rule (rule f) (place f) (rule g) (place g) a b in
      let p = same_place (rule g) (place f) (place g) (subst (λ k. Place k (place f)) e a.at) b.at in
      sym (fault_back f) ∙ (λ i. fault (e i) (p i)) ∙ fault_back g

  pub refused_wrong : (f : BoardFault) → Refused bs f → Right bs → ⊥
  refused_wrong f x right = (breaks f x).broken (rule_below 7 all (rule f) (rule_small f))
    where
      all : RulesBelow 7
      all = (((((((tt, right.framed.sized), right.framed.marked), right.framed.counted), right.framed.tabled), right.devices), right.links), right.no_circle)
