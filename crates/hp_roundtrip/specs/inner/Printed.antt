-- The tokens of the printed text of a problem and of each of its parts, in the order in which the text has them.
use Rattle.std.specs.Prelude.{ℤ, pos, Bool, true, false, if◌then◌else◌, List, [], ◌∷◌, ◌++◌, unsigned_abs}
use Rattle.std.specs.List.{flat_map, join_by}
use Rattle.hp_math.specs.Rational.{ℚ, is_whole}
use Rattle.hp_text.specs.declared.token.Kind.{Kind}
use Rattle.hp_text.specs.declared.token.Kind.TheVariants as kinds
use Rattle.hp_ast.specs.declared.printing.Place.{Place}
use Rattle.hp_ast.specs.declared.printing.Place.TheVariants.{Whole, Operand, Factor}
use Rattle.hp_tree.specs.declared.term.Term.{Term, fold-Term}
use Rattle.hp_tree.specs.declared.term.Term.TheOpen.{Term-F}
use Rattle.hp_tree.specs.declared.problem.Sort.{Sort}
use Rattle.hp_tree.specs.declared.problem.Sort.TheVariants.{Num, Idx, Ptr}
use Rattle.hp_tree.specs.declared.problem.Cmp.{Cmp}
use Rattle.hp_tree.specs.declared.problem.Cmp.TheVariants.{Le, Lt, Eq, Ne, Ge, Gt}
use Rattle.hp_tree.specs.declared.problem.Atom.{Atom}
use Rattle.hp_tree.specs.declared.problem.Var.{Var}
use Rattle.hp_tree.specs.declared.problem.Clause.{Clause}
use Rattle.hp_tree.specs.declared.problem.Decl.{Decl}
use Rattle.hp_tree.specs.declared.problem.Decl.TheVariants.{Const, Fun}
use Rattle.hp_tree.specs.declared.problem.Problem.{Problem}
use Rattle.hp_ast.specs.Printing.{encloses_sum, encloses_product}
use Rattle.hp_grammar.specs.declared.symbol.Symbol.{Symbol as Token}
use Rattle.hp_grammar.specs.declared.symbol.Symbol.TheVariants.{Word as word, Name as name, Numeral as numeral}

-- ---- numbers
-- a negative number has its sign in front
abbrev pub whole_tokens : ℤ → List Token
whole_tokens (pos n) = numeral n ∷ []
whole_tokens n = word kinds.Minus ∷ numeral (unsigned_abs n) ∷ []

abbrev pub frac_tokens : ℚ → List Token
frac_tokens q = if is_whole q then whole_tokens q.num else (whole_tokens q.num ++ (word kinds.Slash ∷ numeral q.den ∷ []))

-- ---- terms
abbrev pub enclosed_tokens : Bool → List Token → List Token
enclosed_tokens true ts = word kinds.OpenRound ∷ ts ++ word kinds.CloseRound ∷ []
enclosed_tokens false ts = ts

-- a term at each place, from its parts at each place
abbrev pub tokens_step : Term-F (Place → List Token) → Place → List Token
tokens_step (Term-F.Number q) place = enclosed_tokens (encloses_product place) (frac_tokens q)
tokens_step Term-F.Null place = word kinds.Null ∷ []
tokens_step (Term-F.Name n) place = name n ∷ []
tokens_step (Term-F.Apply func args) place = name func ∷ word kinds.OpenRound ∷ join_by (λ arg. arg Whole) (word kinds.Comma ∷ []) args ++ word kinds.CloseRound ∷ []
tokens_step (Term-F.Add left right) place = enclosed_tokens (encloses_sum place) (left Whole ++ word kinds.Plus ∷ right Operand)
tokens_step (Term-F.Sub left right) place = enclosed_tokens (encloses_sum place) (left Whole ++ word kinds.Minus ∷ right Operand)
tokens_step (Term-F.Neg inner) place = enclosed_tokens (encloses_sum place) (word kinds.Minus ∷ inner Operand)
tokens_step (Term-F.Scale q inner) place = enclosed_tokens (encloses_product place) (frac_tokens q ++ word kinds.Star ∷ inner Factor)

abbrev pub tokens_at : Term → Place → List Token
tokens_at = fold-Term (Place → List Token) tokens_step

-- ---- clauses
abbrev pub relation_kind : Cmp → Kind
relation_kind Le = kinds.LessEq
relation_kind Lt = kinds.Less
relation_kind Eq = kinds.Equal
relation_kind Ne = kinds.NotEqual
relation_kind Ge = kinds.GreaterEq
relation_kind Gt = kinds.Greater

abbrev pub atom_tokens : Atom → List Token
atom_tokens atom = tokens_at atom.left Whole ++ word (relation_kind atom.cmp) ∷ tokens_at atom.right Whole

-- the guard with its arrow, or nothing
abbrev pub guard_tokens : List Atom → List Token
guard_tokens [] = []
guard_tokens (atom ∷ atoms) = join_by atom_tokens (word kinds.And ∷ []) (atom ∷ atoms) ++ word kinds.Arrow ∷ []

abbrev pub head_tokens : List Atom → List Token
head_tokens [] = word kinds.False ∷ []
head_tokens (atom ∷ atoms) = join_by atom_tokens (word kinds.Or ∷ []) (atom ∷ atoms)

abbrev pub sort_kind : Sort → Kind
sort_kind Num = kinds.Num
sort_kind Idx = kinds.Idx
sort_kind Ptr = kinds.Ptr

abbrev pub sort_tokens : Sort → List Token
sort_tokens sort = word (sort_kind sort) ∷ []

abbrev pub var_tokens : Var → List Token
var_tokens var = name var.name ∷ word kinds.Colon ∷ sort_tokens var.sort

-- the word of a clause, with its variables unless it is a query
abbrev pub word_tokens : Bool → List Var → List Token
word_tokens true vars = word kinds.Query ∷ []
word_tokens false vars = word kinds.Clause ∷ word kinds.OpenSquare ∷ join_by var_tokens (word kinds.Comma ∷ []) vars ++ word kinds.CloseSquare ∷ []

abbrev pub clause_tokens : Clause → List Token
clause_tokens clause = word_tokens clause.query clause.vars ++ guard_tokens clause.guard ++ head_tokens clause.head ++ word kinds.Semicolon ∷ []

-- ---- problems
abbrev pub decl_tokens : Decl → List Token
decl_tokens (Const n sort) = word kinds.Const ∷ name n ∷ word kinds.Colon ∷ sort_tokens sort ++ word kinds.Semicolon ∷ []
decl_tokens (Fun n args value level) =
    word kinds.Fun ∷ name n ∷ word kinds.OpenRound ∷ join_by sort_tokens (word kinds.Comma ∷ []) args
    ++ word kinds.CloseRound ∷ word kinds.Colon ∷ sort_tokens value ++ word kinds.Level ∷ numeral level ∷ word kinds.Semicolon ∷ []

abbrev pub problem_tokens : Problem → List Token
problem_tokens problem =
    word kinds.Profile ∷ numeral problem.profile ∷ word kinds.Semicolon ∷ flat_map decl_tokens problem.decls ++ flat_map clause_tokens problem.clauses
