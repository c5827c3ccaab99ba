-- The index set of a group of arrays: the arguments of their applications, and the bounds that guards put on variables.
use Rattle.std.specs.Prelude.{ℕ, List, [], ◌∷◌, ◌++◌, map, Bool, true, false, ◌&&◌, not, nat_eq, nat_lt, if◌then◌else◌, Option, Some, None, ℤ, pos, neg_ℤ}
use Rattle.std.specs.List.{flat_map, list_any}
use Rattle.std.specs.Ordering.{int_eq}
use Rattle.hp_tree.specs.declared.problem.Atom.{Atom}
use Rattle.hp_tree.specs.declared.problem.Sort.{Sort}
use Rattle.hp_tree.specs.declared.problem.Sort.TheVariants.{Num, Idx, Ptr}
use Rattle.hp_tree.specs.declared.problem.Var.{Var}
use Rattle.hp_tree.specs.Value.{Word}
use Rattle.hp_terms.specs.Sorting.{sort_of}
use Rattle.hp_lit.specs.declared.literal.Name.{Name}
use Rattle.hp_lit.specs.declared.literal.IdxLit.{IdxLit}
use Rattle.hp_lit.specs.declared.literal.Lit.{Lit}
use Rattle.hp_lit.specs.declared.literal.Lit.TheVariants as lit
use Rattle.hp_lit.specs.declared.line.Arg.{Arg}
use Rattle.hp_lit.specs.declared.line.Arg.TheVariants.{Number, Named, Index, Null}
use Rattle.hp_lit.specs.declared.line.Body.{Body}
use Rattle.hp_lit.specs.declared.line.Body.TheVariants.{Apply, Sum}
use Rattle.hp_lit.specs.declared.line.Def.{Def}
use Rattle.hp_defs.specs.Names.{NameList, count, words}
use Rattle.hp_index.specs.Literals.{literals}
use Rattle.hp_norm.specs.declared.flat.FlatClause.{FlatClause}
use Rattle.hp_norm.specs.Scopes.{clause_scope}
use Rattle.hp_class.specs.Frame.{is_place}

-- ---- indexes, each once
abbrev pub same_base : Option Name → Option Name → Bool
same_base None None = true
same_base None (Some b) = false
same_base (Some a) None = false
same_base (Some a) (Some b) = nat_eq a.0 b.0

abbrev pub same_index : Arg → Arg → Bool
same_index (Index a m) (Index b n) = same_base a b && int_eq m n
same_index _ _ = false

-- an index behind others, unless it is among them
abbrev pub with_index : List Arg → Arg → List Arg
with_index indexes x = if list_any (same_index x) indexes then indexes else indexes ++ x ∷ []

abbrev pub with_indexes : List Arg → List Arg → List Arg
with_indexes indexes [] = indexes
with_indexes indexes (x ∷ xs) = with_indexes (with_index indexes x) xs

-- ---- applications
abbrev pub body_indexes : List ℕ → Body → List Arg
body_indexes own (Apply func args) = if is_place own func then args else []
body_indexes own (Sum lin) = []

-- the arguments of the applications of these functions, in the order of their making
abbrev pub applied_at : List ℕ → List Def → List Arg
applied_at own definitions = flat_map (λ d. body_indexes own d.body) definitions

-- ---- guards
-- names first, and then the variables
abbrev pub var_words : List Var → List Word
var_words vars = map (λ v. v.name) vars

abbrev pub clause_words : NameList → FlatClause → List Word
clause_words names c = words names ++ var_words c.vars

-- a side of a literal over so many names and variables behind them is a variable
abbrev pub is_variable : ℕ → Option Name → Bool
is_variable names None = false
is_variable names (Some n) = not (nat_lt n.0 names)

-- the bound of a variable against a constant or a number: `i - c <= b` and `i - c = b` give c + b, `c - i <= b` and `c - i = b` give c - b
abbrev pub bounds_between : Bool → Bool → IdxLit → List Arg
bounds_between true false l = Index l.right l.bound ∷ []
bounds_between false true l = Index l.left (neg_ℤ l.bound) ∷ []
bounds_between _ _ l = []

abbrev pub literal_bounds : ℕ → Lit → List Arg
literal_bounds names (lit.Idx l) = bounds_between (is_variable names l.left) (is_variable names l.right) l
literal_bounds names (lit.Num l) = []
literal_bounds names (lit.Ptr l) = []

abbrev pub sorted_bounds : Sort → NameList → FlatClause → Atom → List Arg
sorted_bounds Idx names c atom = flat_map (literal_bounds (count names)) (literals (clause_words names c) true atom)
sorted_bounds Num names c atom = []
sorted_bounds Ptr names c atom = []

-- those of an atom of the guard, by its literals as an atom that is to be true
abbrev pub atom_bounds : NameList → FlatClause → Atom → List Arg
atom_bounds names c atom = sorted_bounds (sort_of (clause_scope names c.vars) atom) names c atom

abbrev pub guard_bounds : NameList → FlatClause → List Arg
guard_bounds names c = flat_map (atom_bounds names c) c.guard

-- ---- the index set
-- 0 where there is no other
abbrev pub or_zero : List Arg → List Arg
or_zero [] = Index None (pos 0) ∷ []
or_zero (x ∷ xs) = x ∷ xs

-- of a group of these functions with these clauses, over names
abbrev pub index_set : List ℕ → List FlatClause → NameList → List Arg
index_set own clauses names = or_zero (with_indexes (with_indexes [] (applied_at own names.definitions)) (flat_map (guard_bounds names) clauses))
