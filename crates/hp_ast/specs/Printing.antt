-- The text of a problem and of each of its parts, as a list of bytes.
use Rattle.std.specs.Prelude.{ℕ, Bool, true, false, if◌then◌else◌, List, [], ◌∷◌, ◌++◌, codes}
use Rattle.std.specs.List.{flat_map, join_by}
use Rattle.std.specs.Fmt.{decimal, signed_decimal}
use Rattle.hp_math.specs.Rational.{ℚ, is_whole}
use Rattle.hp_ast.specs.declared.printing.Place.{Place}
use Rattle.hp_ast.specs.declared.printing.Place.TheVariants.{Whole, Operand, Factor}
use Rattle.hp_tree.specs.declared.term.Term.{Term, fold-Term}
use Rattle.hp_tree.specs.declared.term.Term.TheOpen.{Term-F}
use Rattle.hp_tree.specs.declared.problem.Sort.{Sort}
use Rattle.hp_tree.specs.declared.problem.Sort.TheVariants.{Num, Idx, Ptr}
use Rattle.hp_tree.specs.declared.problem.Cmp.{Cmp}
use Rattle.hp_tree.specs.declared.problem.Cmp.TheVariants.{Le, Lt, Eq, Ne, Ge, Gt}
use Rattle.hp_tree.specs.declared.problem.Atom.{Atom}
use Rattle.hp_tree.specs.declared.problem.Var.{Var}
use Rattle.hp_tree.specs.declared.problem.Clause.{Clause}
use Rattle.hp_tree.specs.declared.problem.Decl.{Decl}
use Rattle.hp_tree.specs.declared.problem.Decl.TheVariants.{Const, Fun}
use Rattle.hp_tree.specs.declared.problem.Problem.{Problem}

-- a number in lowest terms: its denominator is written unless it is 1
abbrev pub frac_text : ℚ → List ℕ
frac_text q = if is_whole q then signed_decimal q.num else (signed_decimal q.num ++ codes "/" ++ decimal q.den)

-- ---- terms

-- a text in parentheses where they are asked for
abbrev pub opening : Bool → List ℕ
opening true = codes "("
opening false = []

abbrev pub closing : Bool → List ℕ
closing true = codes ")"
closing false = []

abbrev pub enclosed : Bool → List ℕ → List ℕ
enclosed asked text = opening asked ++ text ++ closing asked

-- a sum, a difference or a negation stands in parentheses but where a whole term may stand
abbrev pub encloses_sum : Place → Bool
encloses_sum Whole = false
encloses_sum Operand = true
encloses_sum Factor = true

-- a number or a multiple stands in parentheses behind the sign of a product alone
abbrev pub encloses_product : Place → Bool
encloses_product Whole = false
encloses_product Operand = false
encloses_product Factor = true

-- a term at each place, from its parts at each place
abbrev pub text_step : Term-F (Place → List ℕ) → Place → List ℕ
text_step (Term-F.Number q) place = enclosed (encloses_product place) (frac_text q)
text_step Term-F.Null place = codes "null"
text_step (Term-F.Name name) place = name
text_step (Term-F.Apply func args) place = func ++ codes "(" ++ join_by (λ arg. arg Whole) (codes ", ") args ++ codes ")"
text_step (Term-F.Add left right) place = enclosed (encloses_sum place) (left Whole ++ codes " + " ++ right Operand)
text_step (Term-F.Sub left right) place = enclosed (encloses_sum place) (left Whole ++ codes " - " ++ right Operand)
text_step (Term-F.Neg inner) place = enclosed (encloses_sum place) (codes "-" ++ inner Operand)
text_step (Term-F.Scale q inner) place = enclosed (encloses_product place) (frac_text q ++ codes " * " ++ inner Factor)

abbrev pub text_at : Term → Place → List ℕ
text_at = fold-Term (Place → List ℕ) text_step

abbrev pub term_text : Term → List ℕ
term_text term = text_at term Whole

-- ---- clauses

abbrev pub relation_text : Cmp → List ℕ
relation_text Le = codes "<="
relation_text Lt = codes "<"
relation_text Eq = codes "="
relation_text Ne = codes "!="
relation_text Ge = codes ">="
relation_text Gt = codes ">"

abbrev pub atom_text : Atom → List ℕ
atom_text atom = term_text atom.left ++ codes " " ++ relation_text atom.cmp ++ codes " " ++ term_text atom.right

-- the guard with its arrow, or nothing
abbrev pub guard_text : List Atom → List ℕ
guard_text [] = []
guard_text (atom ∷ atoms) = join_by atom_text (codes " & ") (atom ∷ atoms) ++ codes " -> "

abbrev pub head_text : List Atom → List ℕ
head_text [] = codes "false"
head_text (atom ∷ atoms) = join_by atom_text (codes " | ") (atom ∷ atoms)

abbrev pub sort_text : Sort → List ℕ
sort_text Num = codes "num"
sort_text Idx = codes "idx"
sort_text Ptr = codes "ptr"

abbrev pub var_text : Var → List ℕ
var_text var = var.name ++ codes ":" ++ sort_text var.sort

-- the word of a clause, with its variables unless it is a query
abbrev pub word_text : Bool → List Var → List ℕ
word_text true vars = codes "query "
word_text false vars = codes "clause [" ++ join_by var_text (codes ", ") vars ++ codes "] "

abbrev pub clause_text : Clause → List ℕ
clause_text clause = word_text clause.query clause.vars ++ guard_text clause.guard ++ head_text clause.head ++ codes ";"

-- ---- problems

abbrev pub decl_text : Decl → List ℕ
decl_text (Const name sort) = codes "const " ++ name ++ codes ": " ++ sort_text sort ++ codes ";"
decl_text (Fun name args value level) =
    codes "fun " ++ name ++ codes "(" ++ join_by sort_text (codes ", ") args ++ codes "): " ++ sort_text value ++ codes " level " ++ decimal level ++ codes ";"

-- a text that is a line of its own
abbrev pub line : List ℕ → List ℕ
line text = text ++ codes "\n"

-- the line of the profile and those of the declarations
abbrev pub heading_text : Problem → List ℕ
heading_text problem =
    line (codes "profile " ++ decimal problem.profile ++ codes ";")
    ++ flat_map (λ decl. line (decl_text decl)) problem.decls

abbrev pub clauses_text : List Clause → List ℕ
clauses_text clauses = flat_map (λ clause. line (clause_text clause)) clauses

abbrev pub problem_text : Problem → List ℕ
problem_text problem = heading_text problem ++ clauses_text problem.clauses
