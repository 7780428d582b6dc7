-- What a type keeps as a fact without a choice, with the choice: each can be made by a test.
use Rattle.std.proofs.Common.{ℕ, Bool, Decides, List}
use Rattle.std.proofs.Math.Logic.{∥∥₁_elim, ∥∥₁_map}
use Rattle.std.proofs.Props.{props}
use Rattle.std.proofs.lemmas.Bool.Decides.{Decides-and, Decides-or, Decides-not, Decides-eqb, Decides-ltb}
use Rattle.boardfile.specs.Layout.{name_field}
use Rattle.boardfile.specs.Rules.{Framed, RightDevice, RightDevices, RightLinks}
use Rattle.board.proofs.Names.{leb_decides, named_decides}

-- what a test decides
by_test : {P : Type 0} (r : Bool) → Decides r P → ∥ P ∥₁ → P
by_test r decides p = decides.0 (∥∥₁_elim p (Prim.hlevel props) decides.1)

pub framed_known : {bs : List ℕ} → ∥ Framed bs ∥₁ → Framed bs
framed_known f =
    record {
      sized = ∥∥₁_elim f (Prim.hlevel props) (λ x. x.sized);
      marked = ∥∥₁_elim f (Prim.hlevel props) (λ x. x.marked);
      counted = ∥∥₁_elim f (Prim.hlevel props) (λ x. x.counted);
      tabled =
          record {
            device_room = ∥∥₁_elim f (Prim.hlevel props) (λ x. x.tabled.device_room);
            device_start = ∥∥₁_elim f (Prim.hlevel props) (λ x. x.tabled.device_start);
            link_room = ∥∥₁_elim f (Prim.hlevel props) (λ x. x.tabled.link_room);
            link_start = ∥∥₁_elim f (Prim.hlevel props) (λ x. x.tabled.link_start);
            apart = λ some. by_test _ (Decides-or _ _ (leb_decides _ _) (leb_decides _ _)) (∥∥₁_map f (λ x. x.tabled.apart some));
          };
    }

device_known : {bs : List ℕ} {i : ℕ} → ∥ RightDevice bs i ∥₁ → RightDevice bs i
device_known {bs} {i} f =
    record {
      named = by_test _ (named_decides (name_field bs i)) (∥∥₁_map f (λ x. x.named));
      new = ∥∥₁_elim f (Prim.hlevel props) (λ x. x.new);
      parent =
          by_test _ (Decides-or _ _ (Decides-eqb _ _) (Decides-and _ _ (Decides-ltb _ _) (Decides-not _ (Decides-eqb _ _)))) (∥∥₁_map f (λ x. x.parent));
      zero_9 = ∥∥₁_elim f (Prim.hlevel props) (λ x. x.zero_9);
      zero_10 = ∥∥₁_elim f (Prim.hlevel props) (λ x. x.zero_10);
      zero_11 = ∥∥₁_elim f (Prim.hlevel props) (λ x. x.zero_11);
    }

pub devices_known : {bs : List ℕ} → ∥ RightDevices bs ∥₁ → RightDevices bs
devices_known f i l = device_known (∥∥₁_map f (λ x. x i l))

pub links_known : {bs : List ℕ} → ∥ RightLinks bs ∥₁ → RightLinks bs
links_known f = ∥∥₁_elim f (Prim.hlevel props) (λ x. x)
