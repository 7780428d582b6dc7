-- The line of a refusal.
use Rattle.std.specs.Prelude.{ℕ, ◌==◌, cond, List, ◌++◌, codes, decimal}
use Rattle.refusal.specs.declared.layer.Layer.{Layer}
use Rattle.refusal.specs.declared.layer.Layer.TheVariants.{Bank, Engine, File, Other}
use Rattle.refusal.specs.declared.refusal.Refusal.{Refusal}

-- the number by which a layer is printed
abbrev pub layer_number : Layer → ℕ
layer_number Bank = 1
layer_number Engine = 2
layer_number File = 3
layer_number (Other number) = number

-- the layer that has a number
abbrev pub layer_of : ℕ → Layer
layer_of number = cond (number == 1) Bank (cond (number == 2) Engine (cond (number == 3) File (Other number)))

-- an exclamation mark, the layer's number, the number and the place in base ten, with one space between
abbrev pub line : Refusal → List ℕ
line refusal =
    codes "! " ++ (decimal (layer_number refusal.layer) ++ (codes " " ++ (decimal refusal.number ++ (codes " " ++ decimal refusal.place))))
