-- What the search answers, and where it stands between two nodes.
use Rattle.std.specs.Prelude.{◌≡◌, ℕ, suc, ◌+◌, ◌-◌, ◌<◌, ◌≤◌, ◌⊎◌, List, [], ◌∷◌, ◌++◌, length, Bool, true, false, Option, Some, None}
use Rattle.std.specs.List.{All}
use Rattle.hp_num.specs.declared.wide.Wide.{Wide}
use Rattle.hp_lit.specs.declared.line.Line.{Line}
use Rattle.hp_lit.specs.declared.literal.Lit.{Lit}
use Rattle.hp_lit.specs.declared.proof.Choice.{Choice}
use Rattle.hp_tree.specs.declared.problem.Sort.{Sort}
use Rattle.hp_lit.specs.declared.valuation.Valuation.{Valuation}
use Rattle.hp_lit.specs.Sorts.{AreOfSorts}
use Rattle.hp_lit.specs.Truth.{IsTrueAt, LineIsTrue}
use Rattle.hp_leaf.specs.declared.tree.Node.{Node}
use Rattle.hp_leaf.specs.Leaf.{IsValid}
use Rattle.hp_leaf.specs.Path.{InRange, IsHonestPath}
use Rattle.hp_leaf.specs.Tree.{lits_at, lit_at, IsLine, Place, place_lits, children, IsOpenAt, Reads, IsClosed, IsSpent}
use Rattle.hp_lit.specs.declared.literal.NumLit.{NumLit}
use Rattle.hp_lit.specs.declared.literal.Lit.TheVariants.{Num}
use Rattle.hp_descent.specs.declared.answer.At.TheVariants as At
use Rattle.hp_descent.specs.declared.answer.Form.TheVariants as Form
use Rattle.hp_descent.specs.declared.answer.Place.TheVariants.{Path}
use Rattle.hp_descent.specs.declared.answer.RowStrain.{RowStrain}
use Rattle.hp_descent.specs.declared.answer.Solution.{Solution}
use Rattle.hp_descent.specs.declared.answer.Strain.{Strain}
use Rattle.hp_descent.specs.Answers.{IsStrained}
use Rattle.hp_descent.specs.Values.{IsSumStrained}
use Rattle.hp_path.specs.Kinds.{num_lits}
use Rattle.hp_path.specs.Decided.{AreOfChain, AreSmallIdx, AreValuesFor}
use Rattle.hp_search.specs.declared.ahead.Ahead.{Ahead}
use Rattle.hp_search.specs.declared.ahead.Ahead.TheVariants as ahead
use Rattle.hp_search.specs.declared.looking.QuickLook.{QuickLook}
use Rattle.hp_search.specs.declared.looking.QuickLook.TheVariants as quick_look
use Rattle.hp_search.specs.declared.searching.SearchErr.{SearchErr}
use Rattle.hp_search.specs.declared.searching.SearchErr.TheVariants as search_err
use Rattle.hp_search.specs.declared.looking.Seen.{Seen}
use Rattle.hp_search.specs.declared.looking.Seen.TheVariants.{Model as SeenModel, Split as SeenSplit, Leaf as SeenLeaf}
use Rattle.hp_search.specs.declared.searching.Found.{Found}
use Rattle.hp_search.specs.declared.searching.Found.TheVariants.{Model, Closed, Spent}
use Rattle.hp_search.specs.declared.searching.Turn.{Turn}
use Rattle.hp_search.specs.declared.searching.Turn.TheVariants.{Model as TurnModel, Closed as TurnClosed, Open as TurnOpen}

-- values of the names' sorts that make the literals of the place and every line true, those of sort idx of a magnitude of at
-- most 10^37
pub record IsModelAt (sorts : List Sort) (lines : List Line) (place : Place) (v : Valuation) : Type 0 where
  pub sorted : AreOfSorts sorts v.values
  pub small : AreSmallIdx sorts v.values
  pub holds : All (IsTrueAt v.values) (place_lits lines place)
  pub all : All (λ line. LineIsTrue v.values line.lits) lines

-- where the search is exact there is a chain of the literals of the place, and it gives the values of sort num; else there is
-- none
abbrev pub HasChain : List Sort → List Line → Place → Valuation → Bool → Option (List ℕ) → Type 0
HasChain sorts lines place v true (Some chain) = AreOfChain sorts (place_lits lines place) chain v.values
HasChain sorts lines place v true None = ⊥
HasChain sorts lines place v false chain = chain ≡ None

abbrev pub FindsAhead : List Sort → List Lit → Ahead → Type 0
FindsAhead sorts lits (ahead.Values v suspects) = AreValuesFor sorts lits v.values
FindsAhead sorts lits (ahead.Leaf proof) = IsValid lits proof
FindsAhead sorts lits (ahead.Strained places) = Unit {0}

abbrev pub Sees : List Sort → List Line → Place → Bool → Seen → Type 0
Sees sorts lines place exact (SeenModel v chain) = IsModelAt sorts lines place v × HasChain sorts lines place v exact chain
Sees sorts lines place exact (SeenSplit n) = IsLine lines n × IsOpenAt sorts lines place n
Sees sorts lines place exact (SeenLeaf proof) = IsValid (place_lits lines place) proof

abbrev pub SeesChain : List Sort → List Line → Place → Seen → Type 0
SeesChain sorts lines place seen = Sees sorts lines place true seen

abbrev pub Looks : List Sort → List Line → Place → QuickLook → Type 0
Looks sorts lines place (quick_look.Seen seen) = Sees sorts lines place false seen
Looks sorts lines place (quick_look.Strained places) = Unit {0}
Looks sorts lines place (quick_look.Wide choice) = Unit {0}

-- ---- strains
-- the sum of a literal of a line is strained at values that satisfy the literals of the place
pub record IsStrainedLit (lines : List Line) (place : Place) (s : RowStrain) : Type 0 where
  pub choice : Choice
  pub at : s.at ≡ At.Literal choice.line choice.lit
  pub within : IsLine lines choice.line
  pub in_range : InRange lines choice
  pub lit : NumLit
  pub is : lit_at lines choice ≡ Num lit
  pub strained : IsSumStrained (num_lits (place_lits lines place)) lit s

-- the strain relation over the literals over fractions of the place
abbrev pub IsStrainedAt : List Line → Place → RowStrain → Type 0
IsStrainedAt lines place s = IsStrained (num_lits (place_lits lines place)) s ⊎ IsStrainedLit lines place s

-- a strain of the sum of the literal of a choice
abbrev pub sum_strain : List ℕ → Choice → Wide → RowStrain
sum_strain chain choice wide = record { chain = chain; at = At.Literal choice.line choice.lit; form = Form.Sum; wide = wide }

abbrev pub IsStrainOf : List Line → Place → Strain → Type 0
IsStrainOf lines place s = (s.place ≡ Path place) × IsStrainedAt lines place s.row

-- want of memory claims nothing
abbrev pub IsCauseAt : List Line → Place → SearchErr → Type 0
IsCauseAt lines place (search_err.Strain s) = IsStrainOf lines place s
IsCauseAt lines place search_err.Memory = Unit {0}

-- choices of the second place, in its order
abbrev pub IsPartOf : Place → Place → Type 0
IsPartOf [] place = Unit {0}
IsPartOf (c ∷ cs) [] = ⊥
IsPartOf (c ∷ cs) (d ∷ ds) = ((c ≡ d) × IsPartOf cs ds) ⊎ IsPartOf (c ∷ cs) ds

-- the same for the literals of some choices of the place
pub record IsCauseWithin (lines : List Line) (place : Place) (e : SearchErr) : Type 0 where
  pub part : Place
  pub of : IsPartOf part place
  pub cause : IsCauseAt lines part e

abbrev pub IsStrainedAs : Place → RowStrain → SearchErr → Type 0
IsStrainedAs place row (search_err.Strain s) = (s.place ≡ Path place) × (s.row ≡ row)
IsStrainedAs place row search_err.Memory = Unit {0}

-- a strain over the literals of an honest path
pub record IsHonestStrain (sorts : List Sort) (lines : List Line) (s : Strain) : Type 0 where
  pub path : Place
  pub honest : IsHonestPath sorts lines path
  pub strain : IsStrainOf lines path s

abbrev pub IsCause : List Sort → List Line → SearchErr → Type 0
IsCause sorts lines (search_err.Strain s) = IsHonestStrain sorts lines s
IsCause sorts lines search_err.Memory = Unit {0}

-- the places after a place, in preorder: from the last choice on up, the literals that are not tried yet
abbrev pub later : List Line → Place → Place → List Place
later lines above [] = []
later lines above (c ∷ cs) = later lines (above ++ c ∷ []) cs ++ children above c.line c.lit (length (lits_at lines c.line) - c.lit)

abbrev pub IsSibling : List Line → Choice → Option Choice → Type 0
IsSibling lines c None = length (lits_at lines c.line) ≤ c.lit
IsSibling lines c (Some d) = (c.lit < length (lits_at lines c.line)) × (d ≡ record { line = c.line; lit = suc c.lit })

-- the path is the first of these places; false where there is none
abbrev pub MovedOn : List Line → List Place → Place → Bool → Type 0
MovedOn lines places path true = places ≡ path ∷ later lines [] path
MovedOn lines places path false = places ≡ []

-- the nodes so far are honest, and the path and the places after it wait
abbrev pub IsAt : List Sort → List Line → List Node → Place → Type 0
IsAt sorts lines tree path = Reads (IsOpenAt sorts lines) lines tree ([] ∷ []) (path ∷ later lines [] path)

pub record IsNextAt (sorts : List Sort) (lines : List Line) (old tree : List Node) (path : Place) : Type 0 where
  pub at : IsAt sorts lines tree path
  pub one : length tree ≡ length old + 1

abbrev pub Turned : List Sort → List Line → Bool → List Node → List Node → Place → Turn → Type 0
Turned sorts lines exact old tree path (TurnModel v chain) = IsModelAt sorts lines path v × HasChain sorts lines path v exact chain × IsHonestPath sorts lines path
Turned sorts lines exact old tree path TurnClosed = IsClosed lines tree
Turned sorts lines exact old tree path TurnOpen = IsNextAt sorts lines old tree path

-- values at an honest path, with their chain where the search is exact
pub record IsSolution (sorts : List Sort) (lines : List Line) (exact : Bool) (s : Solution) : Type 0 where
  pub model : IsModelAt sorts lines s.path s.values
  pub chain : HasChain sorts lines s.path s.values exact s.chain
  pub honest : IsHonestPath sorts lines s.path

abbrev pub IsFound : List Sort → List Line → ℕ → Bool → Found → Type 0
IsFound sorts lines most exact (Model s) = IsSolution sorts lines exact s
IsFound sorts lines most exact (Closed tree) = IsClosed lines tree
IsFound sorts lines most exact (Spent tree) = IsSpent sorts lines tree most

abbrev pub IsNotSpent : Found → Type 0
IsNotSpent (Model s) = Unit {0}
IsNotSpent (Closed tree) = Unit {0}
IsNotSpent (Spent tree) = ⊥
