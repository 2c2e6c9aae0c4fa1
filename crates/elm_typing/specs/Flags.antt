-- Which types have which flag.
use Rattle.std.specs.Prelude.{◌≡◌, ◌⊎◌}
use Rattle.elm_typing.specs.declared.flag.Flag.{Flag}
use Rattle.elm_typing.specs.declared.flag.Flag.TheVariants.{Plain, Comparable, Appendable, Both}
use Rattle.elm_typing.specs.Ground.{Ground, Grounds, Named, Tuple, Opaque, NoGrounds, AndGround}
use Rattle.elm_typing.specs.Names.{int_name, char_name, string_name, list_name}

-- an opaque type is comparable, or appendable, by its flag alone
abbrev pub GivesOrder : Flag → Type 0
GivesOrder Comparable = Unit {0}
GivesOrder Both = Unit {0}
GivesOrder _ = ⊥

abbrev pub GivesJoining : Flag → Type 0
GivesJoining Appendable = Unit {0}
GivesJoining Both = Unit {0}
GivesJoining _ = ⊥

-- Int, Char, String, and lists and tuples with parts, of comparable types
abbrev mutual
  pub IsComparable : Ground → Type 0
  IsComparable (Named name NoGrounds) = (name ≡ int_name) ⊎ (name ≡ char_name) ⊎ (name ≡ string_name)
  IsComparable (Named name (AndGround element NoGrounds)) = (name ≡ list_name) × IsComparable element
  IsComparable (Tuple (AndGround first others)) = IsComparable first × AllComparable others
  IsComparable (Opaque number flag) = GivesOrder flag
  IsComparable _ = ⊥

  pub AllComparable : Grounds → Type 0
  AllComparable NoGrounds = Unit {0}
  AllComparable (AndGround first others) = IsComparable first × AllComparable others

-- String and lists
abbrev pub IsAppendable : Ground → Type 0
IsAppendable (Named name NoGrounds) = name ≡ string_name
IsAppendable (Named name (AndGround element NoGrounds)) = name ≡ list_name
IsAppendable (Opaque number flag) = GivesJoining flag
IsAppendable _ = ⊥

-- the type is as the flag asks
abbrev pub HasFlag : Flag → Ground → Type 0
HasFlag Plain type = Unit {0}
HasFlag Comparable type = IsComparable type
HasFlag Appendable type = IsAppendable type
HasFlag Both type = IsComparable type × IsAppendable type

-- what both flags ask
abbrev pub joined : Flag → Flag → Flag
joined Plain flag = flag
joined Both flag = Both
joined Comparable Plain = Comparable
joined Comparable Comparable = Comparable
joined Comparable _ = Both
joined Appendable Plain = Appendable
joined Appendable Appendable = Appendable
joined Appendable _ = Both
