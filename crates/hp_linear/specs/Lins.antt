-- Linear forms: fractions of copies of names, in the order of the names, and a fraction; and the form of a term.
use Rattle.std.specs.Prelude.{List, [], ◌∷◌, map, Option, Some, None, Ok, pos, if◌then◌else◌, nat_lt}
use Rattle.hp_math.specs.Rational.{ℚ, whole, neg_ℚ, eq_ℚ}
use Rattle.hp_num.specs.Wide.{add_of, mul_of, ◌>>=◌}
use Rattle.hp_tree.specs.declared.term.Term.{Term, fold-Term}
use Rattle.hp_tree.specs.declared.term.Term.TheOpen.{Term-F}
use Rattle.hp_tree.specs.Value.{Word}
use Rattle.hp_lit.specs.declared.literal.Name.{Name}
use Rattle.hp_lit.specs.declared.line.LinPart.{LinPart}
use Rattle.hp_lit.specs.declared.line.Lin.{Lin}
use Rattle.hp_lit.specs.Words.{number}
use Rattle.hp_linear.specs.Steps.{Refusable, behind, unless_wide}

-- ---- fractions
abbrev pub sum_of : ℚ → ℚ → Refusable ℚ
sum_of x y = unless_wide (add_of x y)

abbrev pub product_of : ℚ → ℚ → Refusable ℚ
product_of x y = unless_wide (mul_of x y)

-- ---- summands
abbrev pub copies : Name → ℚ → LinPart
copies name coef = record { name = name; coef = coef }

-- a summand is there only where its coefficient isn't 0
abbrev pub unless_zero : Name → ℚ → List LinPart
unless_zero name coef = if eq_ℚ coef (whole (pos 0)) then [] else copies name coef ∷ []

-- the coefficients of each name added, where the names rise in both lists
abbrev pub plus_parts : List LinPart → List LinPart → Refusable (List LinPart)
plus_parts [] ys = Ok ys
plus_parts (x ∷ xs) [] = Ok (x ∷ xs)
plus_parts (x ∷ xs) (y ∷ ys) =
    if nat_lt x.name.0 y.name.0 then behind (x ∷ []) (plus_parts xs (y ∷ ys))
    else if nat_lt y.name.0 x.name.0 then behind (y ∷ []) (plus_parts (x ∷ xs) ys)
    else sum_of x.coef y.coef >>= λ coef. behind (unless_zero x.name coef) (plus_parts xs ys)

abbrev pub times_parts : ℚ → List LinPart → Refusable (List LinPart)
times_parts q [] = Ok []
times_parts q (s ∷ ss) = product_of q s.coef >>= λ coef. behind (unless_zero s.name coef) (times_parts q ss)

abbrev pub neg_part : LinPart → LinPart
neg_part s = copies s.name (neg_ℚ s.coef)

-- ---- forms
abbrev pub lin_with : List LinPart → ℚ → Lin
lin_with parts rest = record { parts = parts; rest = rest }

abbrev pub number_lin : ℚ → Lin
number_lin q = lin_with [] q

abbrev pub zero_lin : Lin
zero_lin = number_lin (whole (pos 0))

abbrev pub named_lin : Name → Lin
named_lin name = lin_with (copies name (whole (pos 1)) ∷ []) (whole (pos 0))

abbrev pub plus_lin : Lin → Lin → Refusable Lin
plus_lin f g =
    plus_parts f.parts g.parts >>= λ parts.
    sum_of f.rest g.rest >>= λ rest.
    Ok (lin_with parts rest)

abbrev pub neg_lin : Lin → Lin
neg_lin f = lin_with (map neg_part f.parts) (neg_ℚ f.rest)

-- the second form is negated and added
abbrev pub minus_lin : Lin → Lin → Refusable Lin
minus_lin f g = plus_lin f (neg_lin g)

abbrev pub times_lin : ℚ → Lin → Refusable Lin
times_lin q f =
    times_parts q f.parts >>= λ parts.
    product_of q f.rest >>= λ rest.
    Ok (lin_with parts rest)

-- ---- terms
-- a word that stands for no name counts as 0
abbrev pub word_lin : Option Name → Lin
word_lin None = zero_lin
word_lin (Some name) = named_lin name

-- null and applications count as 0
abbrev pub lin_step : List Word → Term-F (Refusable Lin) → Refusable Lin
lin_step words (Term-F.Number q) = Ok (number_lin q)
lin_step words Term-F.Null = Ok zero_lin
lin_step words (Term-F.Name word) = Ok (word_lin (number words word))
lin_step words (Term-F.Apply func args) = Ok zero_lin
lin_step words (Term-F.Add a b) = a >>= λ f. b >>= λ g. plus_lin f g
lin_step words (Term-F.Sub a b) = a >>= λ f. b >>= λ g. minus_lin f g
lin_step words (Term-F.Neg a) = a >>= λ f. Ok (neg_lin f)
lin_step words (Term-F.Scale q a) = a >>= λ f. times_lin q f

-- the form of a term over these words, from inside out, the left operand first
abbrev pub lin_of : List Word → Term → Refusable Lin
lin_of words = fold-Term (Refusable Lin) (lin_step words)
