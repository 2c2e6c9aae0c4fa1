-- Names of worked cases.
use Rattle.std.specs.Prelude.{ℕ, ◌==◌, if◌then◌else◌, Option, Some, None, List, [], ◌∷◌, codes}
use Rattle.elm_base.specs.declared.native.TheConstants.{ADD}
use Rattle.elm_base.specs.declared.token.At.{At}
use Rattle.elm_base.specs.declared.project.Thing.{Thing}
use Rattle.elm_base.specs.declared.project.Thing.TheVariants as thing
use Rattle.typing_rules.specs.Core.{Core, Native, Top}
use Rattle.typing_rules.specs.WrittenTypes.{Written, Fields, NoWrittenFields, AndWrittenField}
use Rattle.typing_rules.specs.Library.{int_}
use Rattle.plain_form.specs.Naming.{Naming, Maker}

abbrev pub place : ℕ → ℕ → At
place line column = record { line = line; column = column }

-- a place of line 1
abbrev pub at : ℕ → At
at column = record { line = 1; column = column }

abbrev pub point : Maker
point =
    record {
      written = Fields None (AndWrittenField (codes "x") int_ (AndWrittenField (codes "y") int_ NoWrittenFields));
      labels = codes "x" ∷ codes "y" ∷ [];
    }

-- A binder's number is its column. At column 7 stands what is bound at column 2, at column 8 a top value, at column 9
-- Just, at column 10 the maker Point.
abbrev pub things : ℕ → Option Thing
things column =
    if column == 7 then Some (thing.Local (at 2))
    else (if column == 8 then Some (thing.Top (codes "Main") (codes "f"))
    else (if column == 9 then Some (thing.Constructor (codes "Maybe") (codes "Just"))
    else (if column == 10 then Some (thing.Maker (codes "Main") (codes "Point"))
    else None)))

-- the `let` at column 20 has two groups, of which the second is of two functions
abbrev pub names : Naming
names =
    record {
      thing = λ place. things place.column;
      number = λ place. place.column;
      own = λ place i. if i == 0 then 100 else 101;
      groups = λ place. (at 21 ∷ []) ∷ (at 22 ∷ at 23 ∷ []) ∷ [];
      top = λ module_name name. Top 5;
      constructor = λ module_name name. (codes "Maybe.Maybe", 1);
      maker = λ module_name name. point;
      written = λ type. int_;
    }
