-- Patterns as typing asks for them: a constructor may be known to be of one union. Which types a pattern fits, and which
-- types its names then have.
use Rattle.std.specs.Prelude.{◌≡◌, ℕ, Option, Some, None, List, [], ◌∷◌, ◌++◌}
use Rattle.elm_base.specs.declared.term.Literal.{Literal as TermLiteral}
use Rattle.elm_base.specs.declared.term.Literal.TheVariants as literal
use Rattle.elm_typing.specs.Ground.{Ground, Grounds, Row, NoGrounds, AndGround}
use Rattle.elm_typing.specs.Names.{list_of}
use Rattle.elm_typing.specs.Rows.{newest}
use Rattle.elm_typing.specs.Spelling.{int, char, string}
use Rattle.elm_meaning.specs.Patterns.{Pattern, Patterns, NoPatterns, AndPattern}
use Rattle.typing_rules.specs.Unions.{Union, Makes}
use Rattle.typing_rules.specs.Worlds.{Bound}

mutual
  pub data CorePattern : Type 0 where
    Anything : CorePattern
    Local : (number : ℕ) → CorePattern
    Literal : (value : TermLiteral) → CorePattern
    -- of the union with this name, or of any that has the constructor
    Made : (union : Option (List ℕ)) (constructor : List ℕ) (parts : CorePatterns) → CorePattern
    Nil : CorePattern
    Cons : (head tail : CorePattern) → CorePattern
    Tuple : (parts : CorePatterns) → CorePattern
    Fields : (labels : List (List ℕ × ℕ)) → CorePattern
    Named : (inner : CorePattern) (number : ℕ) → CorePattern

  pub data CorePatterns : Type 0 where
    NoCorePatterns : CorePatterns
    AndCorePattern : (first : CorePattern) (others : CorePatterns) → CorePatterns

-- what evaluation keeps of a pattern
abbrev mutual
  pub erased_pattern : CorePattern → Pattern
  erased_pattern CorePattern.Anything = Pattern.Anything
  erased_pattern (CorePattern.Local number) = Pattern.Local number
  erased_pattern (CorePattern.Literal value) = Pattern.Literal value
  erased_pattern (CorePattern.Made union constructor parts) = Pattern.Made constructor (erased_patterns parts)
  erased_pattern CorePattern.Nil = Pattern.Nil
  erased_pattern (CorePattern.Cons head tail) = Pattern.Cons (erased_pattern head) (erased_pattern tail)
  erased_pattern (CorePattern.Tuple parts) = Pattern.Tuple (erased_patterns parts)
  erased_pattern (CorePattern.Fields labels) = Pattern.Fields labels
  erased_pattern (CorePattern.Named inner number) = Pattern.Named (erased_pattern inner) number

  pub erased_patterns : CorePatterns → Patterns
  erased_patterns NoCorePatterns = NoPatterns
  erased_patterns (AndCorePattern first others) = AndPattern (erased_pattern first) (erased_patterns others)

-- a pattern of a plain term, whose constructors may be of any union that has them
abbrev mutual
  pub core_pattern : Pattern → CorePattern
  core_pattern Pattern.Anything = CorePattern.Anything
  core_pattern (Pattern.Local number) = CorePattern.Local number
  core_pattern (Pattern.Literal value) = CorePattern.Literal value
  core_pattern (Pattern.Made constructor parts) = CorePattern.Made None constructor (core_patterns parts)
  core_pattern Pattern.Nil = CorePattern.Nil
  core_pattern (Pattern.Cons head tail) = CorePattern.Cons (core_pattern head) (core_pattern tail)
  core_pattern (Pattern.Tuple parts) = CorePattern.Tuple (core_patterns parts)
  core_pattern (Pattern.Fields labels) = CorePattern.Fields labels
  core_pattern (Pattern.Named inner number) = CorePattern.Named (core_pattern inner) number

  pub core_patterns : Patterns → CorePatterns
  core_patterns NoPatterns = NoCorePatterns
  core_patterns (AndPattern first others) = AndCorePattern (core_pattern first) (core_patterns others)

abbrev pub literal_type : TermLiteral → Ground
literal_type (literal.Int n) = int
literal_type (literal.Char code) = char
literal_type (literal.Text bytes) = string
literal_type literal.Unit = Ground.Tuple NoGrounds

-- each label is of the row, and its name has the first of the label's types
abbrev pub LabelsFit : List (List ℕ × ℕ) → Row → Bound → Type 0
LabelsFit [] row bound = bound ≡ []
LabelsFit (l ∷ ls) row bound =
    (type : Ground) × (more : Bound) × (newest l.0 row ≡ Some type) × LabelsFit ls row more × (bound ≡ (l.1, type) ∷ more)

-- the pattern fits the type, and its names have these
abbrev mutual
  pub Fits : List Union → CorePattern → Ground → Bound → Type 0
  Fits unions CorePattern.Anything type bound = bound ≡ []
  Fits unions (CorePattern.Local number) type bound = bound ≡ (number, type) ∷ []
  Fits unions (CorePattern.Literal value) type bound = (type ≡ literal_type value) × (bound ≡ [])
  Fits unions (CorePattern.Made union constructor ps) type bound =
      (name : List ℕ) × (types : Grounds) × (parts : Grounds)
      × (type ≡ Ground.Named name types)
      × Makes unions union constructor name types parts
      × AllFit unions ps parts bound
  Fits unions CorePattern.Nil type bound = (element : Ground) × (type ≡ list_of element) × (bound ≡ [])
  Fits unions (CorePattern.Cons head tail) type bound =
      (element : Ground) × (first more : Bound)
      × (type ≡ list_of element)
      × Fits unions head element first
      × Fits unions tail (list_of element) more
      × (bound ≡ first ++ more)
  Fits unions (CorePattern.Tuple ps) type bound =
      (parts : Grounds) × (type ≡ Ground.Tuple parts) × AllFit unions ps parts bound
  Fits unions (CorePattern.Fields labels) type bound = (row : Row) × (type ≡ Ground.Record row) × LabelsFit labels row bound
  Fits unions (CorePattern.Named inner number) type bound =
      (first : Bound) × Fits unions inner type first × (bound ≡ first ++ (number, type) ∷ [])

  -- as many patterns as there are types, and each fits its own
  pub AllFit : List Union → CorePatterns → Grounds → Bound → Type 0
  AllFit unions NoCorePatterns NoGrounds bound = bound ≡ []
  AllFit unions (AndCorePattern p ps) (AndGround t ts) bound =
      (first more : Bound) × Fits unions p t first × AllFit unions ps ts more × (bound ≡ first ++ more)
  AllFit unions _ _ bound = ⊥
