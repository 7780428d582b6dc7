-- Superiors gathered one at a time.
use Rattle.std.proofs.Common.{◌≡◌, ℕ, ◌+◌, ◌<◌, ◌⊎◌, ◌↔◌, List, [], length, get_or, Some, None, Ok, Err, Result, refl, sym, ap, ◌∙◌, inl, inr, arith}
use Rattle.std.proofs.lemmas.Option.{same_Some}
use Rattle.std.specs.Result.{IsOk}
use Rattle.order.specs.declared.superiors.Superiors.{Superiors}
use Rattle.order.specs.declared.superiors.NoDevice.{NoDevice}
use Rattle.order.specs.Answers.{Added}
use Rattle.boardfile.specs.declared.device.Link.{Link}
use Rattle.boardfile.specs.Layout.{device_count, link_count, consumer, supplier}
use Rattle.boardfile.specs.Rules.{RightLink}
use Rattle.boardfile.specs.Contents.{link_of, parent, ParentIn}
use Rattle.board.specs.declared.records.Records.{Records}
use Rattle.board.specs.Records.{parent_in, link_in}
use Rattle.board.specs.Wiring.{Gains}
use Rattle.board.proofs.Known.{devices_known, links_known}
use Rattle.board.proofs.Seen.{link_seen, parent_seen, parent_small}

-- one superior more: it is not refused, and the relation grows by just that
gains_one : (R R' : ℕ → ℕ → Type 0) (before table after : Superiors) (s d : ℕ) (r : Result (Unit {0}) NoDevice) → Gains R before table → Added table after s d r
    → s < before.count → d < before.count → ((x y : ℕ) → (R x y ⊎ ((x ≡ s) × (y ≡ d))) ↔ R' x y)
    → IsOk r × Gains R' before after
gains_one R R' before table after s d (Err missing) gains added small known grows = grind arith
gains_one R R' before table after s d (Ok done) gains added small known grows = (
  refl,
  record {
    count = added.2 ∙ gains.count;
    keeps = λ x y h. added.3.keeps x y (gains.keeps x y h);
    adds = λ x y h. elim ((grows x y).1 h) [ inl p ↦ added.3.keeps x y (gains.adds x y p) | inr e ↦ rw (e.0, e.1) added.3.has ];
    only = grind (arith, grows);
  },
)

-- the suppliers of the first j links, and one more
abbrev pub LinkedBelow : List ℕ → ℕ → ℕ → ℕ → Type 0
LinkedBelow bs j s d = (k : ℕ) × (k < j) × (consumer bs k ≡ d) × (supplier bs k ≡ s)

-- the parents of the first i devices, and one more
abbrev pub ParentBelow : List ℕ → ℕ → ℕ → ℕ → Type 0
ParentBelow bs i s d = (d < i) × ParentIn bs s d

module _ (self : Records) (records : List (List ℕ)) (i : ℕ) (l : i < length records) where
  abbrev bs : List ℕ
  bs = self.frame.file.now

  module _ (same : records ≡ self.frame.links.records.now) where
    inside : i < link_count bs
    inside = omega (arith, ap length same, self.frame.links_known.holds.many)

    right : RightLink bs i
    right = links_known self.links i inside

    link_at : link_in (get_or records i []) ≡ Some (link_of bs i)
    link_at = rw same (ap link_in (self.frame.links_known.holds.each i inside) ∙ link_seen bs i right)

    -- a link record describes a link
    pub no_link : link_in (get_or records i []) ≡ None → ⊥
    no_link e = let at = link_at in cc

    -- and its supplier becomes a superior of its consumer
    pub one_link : (before table after : Superiors) (link : Link) (r : Result (Unit {0}) NoDevice) → Gains (LinkedBelow bs i) before table → before.count ≡ device_count bs
        → link_in (get_or records i []) ≡ Some link → Added table after link.supplier link.consumer r → IsOk r × Gains (LinkedBelow bs (i + 1)) before after
    one_link before table after link r gains count e =
        rw (same_Some _ _ (sym e ∙ link_at))
        (λ added. gains_one (LinkedBelow bs i) (LinkedBelow bs (i + 1)) before table after _ _ r gains added (omega (arith, right.supplies)) (omega (arith, right.consumes)) grows)
      where
        grows : (x y : ℕ) → (LinkedBelow bs i x y ⊎ ((x ≡ supplier bs i) × (y ≡ consumer bs i))) ↔ LinkedBelow bs (i + 1) x y
        grows x y = grind arith

  module _ (same : records ≡ self.frame.devices.records.now) where
    there : i < device_count bs
    there = omega (arith, ap length same, self.frame.devices_known.holds.many)

    parent_at : parent_in (get_or records i []) ≡ parent bs i
    parent_at = rw same (ap parent_in (self.frame.devices_known.holds.each i there) ∙ parent_seen bs i)

    -- a device without a parent
    pub no_parent : (before table : Superiors) → Gains (ParentBelow bs i) before table → parent_in (get_or records i []) ≡ None → Gains (ParentBelow bs (i + 1)) before table
    no_parent before table gains e =
        let none : parent bs i ≡ None = sym parent_at ∙ e in
        record { count = gains.count; keeps = gains.keeps; adds = λ x y h. grind (arith, none); only = λ x y h. grind (arith, none) }

    -- and one that has one
    pub one_parent : (before table after : Superiors) (p : ℕ) (r : Result (Unit {0}) NoDevice) → Gains (ParentBelow bs i) before table → before.count ≡ device_count bs
        → parent_in (get_or records i []) ≡ Some p → Added table after p i r → IsOk r × Gains (ParentBelow bs (i + 1)) before after
    one_parent before table after p r gains count e added =
        gains_one (ParentBelow bs i) (ParentBelow bs (i + 1)) before table after p i r gains added (omega (arith, parent_small bs i p (devices_known self.devices i there) is)) (omega (arith, there)) grows
      where
        is : parent bs i ≡ Some p
        is = sym parent_at ∙ e

        grows : (x y : ℕ) → (ParentBelow bs i x y ⊎ ((x ≡ p) × (y ≡ i))) ↔ ParentBelow bs (i + 1) x y
        grows x y = grind (arith, is, there)
