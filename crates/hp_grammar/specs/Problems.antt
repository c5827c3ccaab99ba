-- The grammar of items and of whole problems.
use Rattle.std.specs.Prelude.{ℕ, Bool, true, false, List, [], ◌∷◌, ◌++◌}
use Rattle.hp_tree.specs.declared.problem.Atom.{Atom}
use Rattle.hp_tree.specs.declared.problem.Clause.{Clause}
use Rattle.hp_tree.specs.declared.problem.Decl.{Decl}
use Rattle.hp_tree.specs.declared.problem.Problem.{Problem}
use Rattle.hp_tree.specs.declared.problem.Var.{Var}
use Rattle.hp_text.specs.declared.token.Kind.TheVariants as kinds
use Rattle.hp_grammar.specs.Token.{Token, word, numeral}
use Rattle.hp_grammar.specs.Bodies.{SpellsBody}
use Rattle.hp_grammar.specs.Declarations.{SpellsConstants, SpellsFunction, SpellsVariables}

-- decl = "const" name { "," name } ":" sort ";" | "fun" name "(" sort { "," sort } ")" ":" sort "level" numeral ";"
pub data SpellsDeclaration : List Token → List Decl → Type 0 where
  constants : (u : List Token) (ds : List Decl) → SpellsConstants u ds → SpellsDeclaration (word kinds.Const ∷ u ++ word kinds.Semicolon ∷ []) ds
  function : (u : List Token) (d : Decl) → SpellsFunction u d → SpellsDeclaration (word kinds.Fun ∷ u ++ word kinds.Semicolon ∷ []) (d ∷ [])

abbrev pub clause_of : Bool → List Var → List Atom → List Atom → Clause
clause_of q vs g h = record { query = q; vars = vs; guard = g; head = h }

-- item = "clause" "[" [ var { "," var } ] "]" body ";" | "query" body ";"
pub data SpellsItem : List Token → Clause → Type 0 where
  clause : (u v : List Token) (vs : List Var) (g h : List Atom) → SpellsVariables u vs → SpellsBody v g h
      → SpellsItem (word kinds.Clause ∷ word kinds.OpenSquare ∷ u ++ (word kinds.CloseSquare ∷ v ++ word kinds.Semicolon ∷ [])) (clause_of false vs g h)
  query : (u : List Token) (g h : List Atom) → SpellsBody u g h
      → SpellsItem (word kinds.Query ∷ u ++ word kinds.Semicolon ∷ []) (clause_of true [] g h)

-- [ "profile" one ";" ], and 1 where it is missing
pub data SpellsProfile : List Token → ℕ → Type 0 where
  missing : SpellsProfile [] 1
  given : SpellsProfile (word kinds.Profile ∷ numeral 1 ∷ word kinds.Semicolon ∷ []) 1

pub data SpellsDeclarations : List Token → List Decl → Type 0 where
  none : SpellsDeclarations [] []
  more : (u v : List Token) (ds es : List Decl) → SpellsDeclarations u ds → SpellsDeclaration v es → SpellsDeclarations (u ++ v) (ds ++ es)

pub data SpellsItems : List Token → List Clause → Type 0 where
  none : SpellsItems [] []
  more : (u v : List Token) (cs : List Clause) (c : Clause) → SpellsItems u cs → SpellsItem v c → SpellsItems (u ++ v) (cs ++ c ∷ [])

abbrev pub problem_of : ℕ → List Decl → List Clause → Problem
problem_of n ds cs = record { profile = n; decls = ds; clauses = cs }

-- problem = [ "profile" one ";" ] { decl } { item }
pub data SpellsProblem : List Token → Problem → Type 0 where
  problem : (u v w : List Token) (n : ℕ) (ds : List Decl) (cs : List Clause) → SpellsProfile u n → SpellsDeclarations v ds → SpellsItems w cs
      → SpellsProblem (u ++ (v ++ w)) (problem_of n ds cs)
