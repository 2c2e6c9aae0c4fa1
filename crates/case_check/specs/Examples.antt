-- How worked cases spell what patterns ask for, and skeletons.
use Rattle.std.specs.Prelude.{List, [], ◌∷◌, codes}
use Prim.Native.String.{String}
use Rattle.case_check.specs.Shapes.{Choice, Wanted, NoWanteds, wanteds, Shape, shapes}

abbrev pub bools : List Choice
bools = (codes "True", 0) ∷ (codes "False", 0) ∷ []

abbrev pub maybes : List Choice
maybes = (codes "Just", 1) ∷ (codes "Nothing", 0) ∷ []

abbrev pub yes : Wanted
yes = Wanted.Made bools (codes "True") NoWanteds

abbrev pub no_ : Wanted
no_ = Wanted.Made bools (codes "False") NoWanteds

abbrev pub just : Wanted → Wanted
just w = Wanted.Made maybes (codes "Just") (wanteds (w ∷ []))

abbrev pub nothing : Wanted
nothing = Wanted.Made maybes (codes "Nothing") NoWanteds

abbrev pub made : String → List Shape → Shape
made name ss = Shape.Made (codes name) (shapes ss)
