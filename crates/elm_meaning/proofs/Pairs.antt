-- Each comparison visits a pair.
use Rattle.std.proofs.Common.{ℕ, suc, ◌<◌, Bool, true, false, arith}
use Rattle.elm_meaning.specs.declared.compared.Compared.{Compared}
use Rattle.elm_meaning.specs.declared.compared.Comparison.{Comparison}
use Rattle.elm_meaning.specs.declared.compared.Comparison.TheVariants.{Equality}
use Rattle.elm_meaning.specs.Values.{Value, Int, Char, Text, Unit, Nil, Cons, Tuple, Made, Record, Applicable, Cells, Signal}
use Rattle.elm_meaning.specs.PairsVisited.{visited, parts_where}

some : (n : ℕ) → 0 < suc n
some n = omega arith

parts_some : (b : Bool) (v : Compared) → 0 < (parts_where b v).work
parts_some true v = some v.work
parts_some false v = some 0

pub visited_some : (c : Comparison) (v w : Value) → 0 < (visited c v w).work
visited_some c (Int a) (Int b) = some 0
visited_some c (Char a) (Char b) = some 0
visited_some c (Text a) (Text b) = some _
visited_some c Nil Nil = some 0
visited_some c Nil (Cons w ws) = some 0
visited_some c (Cons v vs) Nil = some 0
visited_some c (Cons v vs) (Cons w ws) = some _
visited_some c (Tuple vs) (Tuple ws) = parts_some _ _
visited_some c (Applicable f) (Applicable g) = some 0
visited_some Equality Unit Unit = some 0
visited_some Equality (Made k vs) (Made l ws) = parts_some _ _
visited_some Equality (Record fs) (Record gs) = parts_some _ _
visited_some Equality (Cells w h rows) (Cells x i others) = parts_some _ _
visited_some Equality (Signal m) (Signal n) = some 0
visited_some c _ _ = some 0
