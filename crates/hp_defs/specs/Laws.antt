-- What the names of a ground problem say of words, sorts and definitions, and what stays so while definitions are added.
use Rattle.std.specs.Prelude.{◌≡◌, ℕ, length, Some, None, slice_get}
use Rattle.hp_tree.specs.Value.{Word}
use Rattle.hp_names.specs.Names.{AreDistinct}
use Rattle.hp_lit.specs.Growing.{Begins}
use Rattle.hp_lit.specs.Words.{number}
use Rattle.hp_lit.specs.declared.literal.Name.{Name}
use Rattle.hp_lit.specs.declared.line.Body.{Body}
use Rattle.hp_lit.specs.declared.line.Def.{Def}
use Rattle.hp_defs.specs.First.{IsFirst}
use Rattle.hp_defs.specs.Fit.{BodyFits, DefinitionFits, IsFitNames}
use Rattle.hp_defs.specs.Made.{IsMade}
use Rattle.hp_defs.specs.Names.{BeginsNames, NameList, bodies, sorts, with_definition, words}
use Rattle.hp_defs.specs.Same.{place}

-- ---- words and sorts
-- no two names have one word
abbrev pub WordsAreDistinct : Type 0
WordsAreDistinct = (names : NameList) → IsMade names → AreDistinct (words names)

-- each word stands for the name that has it
abbrev pub WordsStandForNames : Type 0
WordsStandForNames = (names : NameList) (k : ℕ) (word : Word) → IsMade names → slice_get (words names) k ≡ Some word
    → number (words names) word ≡ Some (record { 0 = k })

-- while definitions are added, words stay, and so do sorts
pub record NamesStay (old new : NameList) : Type 0 where
  pub words : Begins (words old) (words new)
  pub sorts : Begins (sorts old) (sorts new)

abbrev pub NamesBegin : Type 0
NamesBegin = (old new : NameList) → BeginsNames old new → NamesStay old new

-- a word stands for the same name while definitions are added
abbrev pub NumbersStay : Type 0
NumbersStay = (old new : NameList) (word : Word) (name : Name) → BeginsNames old new → IsMade new → number (words old) word ≡ Some name
    → number (words new) word ≡ Some name

-- ---- definitions
-- the place of a body is the first at which it stands, and there is none exactly where it stands nowhere
abbrev pub PlacesAreFirst : Type 0
PlacesAreFirst = (body : Body) (names : NameList) → IsFirst body (bodies names) (place body names.definitions)

-- a place stays while definitions are added
abbrev pub PlacesStay : Type 0
PlacesStay = (body : Body) (old new : NameList) (k : ℕ) → BeginsNames old new → place body old.definitions ≡ Some k → place body new.definitions ≡ Some k

-- a definition that is added has the last place
abbrev pub AddedIsLast : Type 0
AddedIsLast = (body : Body) (names : NameList) → place body names.definitions ≡ None
    → place body (with_definition names body).definitions ≡ Some (length names.definitions)

-- what fits names fits them while definitions are added
abbrev pub BodiesStayFit : Type 0
BodiesStayFit = (body : Body) (old new : NameList) → BeginsNames old new → BodyFits old body → BodyFits new body

-- definitions fit the names before them while others are added
abbrev pub DefinitionsStayFit : Type 0
DefinitionsStayFit = (old new : NameList) (k : ℕ) (d : Def) → BeginsNames old new → IsFitNames old → slice_get old.definitions k ≡ Some d → DefinitionFits new k d

-- with a definition whose body fits, all definitions fit
abbrev pub FitNamesGrow : Type 0
FitNamesGrow = (names : NameList) (body : Body) → IsFitNames names → BodyFits names body → IsFitNames (with_definition names body)
