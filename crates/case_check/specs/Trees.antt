-- The trees that the types of the code stand for.
use Rattle.std.specs.Prelude.{Option, Some, None, List, map}
use Rattle.case_check.specs.declared.form.Form.{Form}
use Rattle.case_check.specs.declared.form.Form.TheOpen as form
use Rattle.case_check.specs.declared.form.Form.TheFolds.{fold-Form}
use Rattle.case_check.specs.declared.skeleton.Skeleton.{Skeleton}
use Rattle.case_check.specs.declared.skeleton.Skeleton.TheOpen as skeleton
use Rattle.case_check.specs.declared.skeleton.Skeleton.TheFolds.{fold-Skeleton}
use Rattle.case_check.specs.Search.{filled_at}
use Rattle.case_check.specs.Shapes.{Wanted, Wanteds, Anything, Literal, Shape, Shapes, Hole, OtherLiteral, wanteds, shapes}

abbrev pub wanted_step : form.Form-F Wanted → Wanted
wanted_step form.Anything = Anything
wanted_step form.Literal = Literal
wanted_step (form.Made union constructor parts) = Wanted.Made union constructor (wanteds parts)

abbrev pub wanted_of : Form → Wanted
wanted_of = fold-Form Wanted wanted_step

abbrev pub wanteds_of : List Form → Wanteds
wanteds_of forms = wanteds (map wanted_of forms)

-- arguments, filled in against these patterns
abbrev pub filler : List Form → Shapes → List Shapes
filler forms = λ ss. filled_at ss (wanteds_of forms)

abbrev pub shape_step : skeleton.Skeleton-F Shape → Shape
shape_step skeleton.Hole = Hole
shape_step skeleton.OtherLiteral = OtherLiteral
shape_step (skeleton.Made constructor parts) = Shape.Made constructor (shapes parts)

abbrev pub shape_of : Skeleton → Shape
shape_of = fold-Skeleton Shape shape_step

abbrev pub shapes_of : List Skeleton → Shapes
shapes_of skeletons = shapes (map shape_of skeletons)

abbrev pub option_shape : Option Skeleton → Option Shape
option_shape None = None
option_shape (Some s) = Some (shape_of s)
