-- The blanks and signs of a printed text.
use Rattle.std.proofs.Common.{◌≡◌, ℕ, true, List, [], ◌∷◌, ◌++◌, length, drop, Ok, refl, sym, ap, subst, ◌∙◌, append_assoc}
use Rattle.std.specs.Prelude.{codes}
use Rattle.std.proofs.Math.Numerals.{one-add}
use Rattle.hp_text.specs.declared.token.Kind.{Kind}
use Rattle.hp_text.specs.declared.token.Kind.TheVariants as kinds
use Rattle.hp_text.specs.Words.{is_fixed}
use Rattle.hp_text.specs.Tokens.{gap, token, front}
use Rattle.hp_text.proofs.Fixeds.{fixed_no_end}
use Rattle.hp_tree.specs.declared.problem.Cmp.{Cmp}
use Rattle.hp_tree.specs.declared.problem.Cmp.TheVariants.{Le, Lt, Eq, Ne, Ge, Gt}
use Rattle.hp_ast.specs.Printing.{relation_text}
use Rattle.hp_grammar.specs.declared.symbol.Symbol.TheVariants.{Word as word}
use Rattle.hp_grammar.specs.Symbols.{symbol_by}
use Rattle.hp_roundtrip.specs.inner.Printed.{relation_kind}
use Rattle.hp_roundtrip.proofs.Cutting.{bare, Cuts, cuts_from, cuts_join}
use Rattle.hp_roundtrip.proofs.Pieces.{Stops, IsSign, sign_sign}

-- ---- signs
symbol_fixed : (k : Kind) (text : List ℕ) → is_fixed k ≡ true → symbol_by k text ≡ word k
symbol_fixed kinds.Name text e = absurd (cc)
symbol_fixed kinds.Numeral text e = absurd (cc)
symbol_fixed k text e = refl

-- a sign or a reserved word in front
pub one : (text rest : List ℕ) (k : Kind) → bare (text ++ rest) ≡ text ++ rest → ((start : ℕ) → front start (text ++ rest) ≡ Ok (token start k (length text))) → is_fixed k ≡ true
    → Cuts (text ++ rest) (word k ∷ []) rest
one text rest k e f h = (
  rest,
  record {
    kind = k;
    text = text;
    cut = e;
    first = λ start. ap (front start) e ∙ f start;
    inner = fixed_no_end k h;
    says = symbol_fixed k text h;
  },
  refl,
)

-- a blank
pub blank : IsSign (32 ∷ []) []
blank = record { stops = λ rest. refl; cuts = λ rest. ap (λ n. drop n (32 ∷ rest)) (one-add (gap rest)) }

pub line_feed : IsSign (10 ∷ []) []
line_feed = record { stops = λ rest. refl; cuts = λ rest. ap (λ n. drop n (10 ∷ rest)) (one-add (gap rest)) }

-- a sign that no other byte makes longer
pub tight : (text : List ℕ) (k : Kind) → ((rest : List ℕ) → Stops (text ++ rest)) → ((rest : List ℕ) → bare (text ++ rest) ≡ text ++ rest)
    → ((start : ℕ) (rest : List ℕ) → front start (text ++ rest) ≡ Ok (token start k (length text))) → is_fixed k ≡ true → IsSign text (word k ∷ [])
tight text k s e f h = record { stops = s; cuts = λ rest. one text rest k (e rest) (λ start. f start rest) h }

-- a sign between blanks
pub spaced : (text : List ℕ) (k : Kind) → ((rest : List ℕ) → bare (text ++ 32 ∷ rest) ≡ text ++ 32 ∷ rest)
    → ((start : ℕ) (rest : List ℕ) → front start (text ++ 32 ∷ rest) ≡ Ok (token start k (length text))) → is_fixed k ≡ true → IsSign (32 ∷ text ++ 32 ∷ []) (word k ∷ [])
spaced text k e f h = record {
  stops = λ rest. refl;
  cuts = λ rest. subst (λ (z : List ℕ). Cuts (32 ∷ z) (word k ∷ []) rest) (sym (append_assoc text (32 ∷ []) rest)) (
      let inner : Cuts (text ++ 32 ∷ rest) (word k ∷ []) (32 ∷ rest) = one text (32 ∷ rest) k (e rest) (λ start. f start rest) h in
      cuts_join (32 ∷ (text ++ 32 ∷ rest)) (32 ∷ rest) rest (word k ∷ []) []
      (cuts_from (32 ∷ (text ++ 32 ∷ rest)) (text ++ 32 ∷ rest) (word k ∷ []) (32 ∷ rest) (blank.cuts (text ++ 32 ∷ rest)) inner)
      (blank.cuts rest));
}

-- ---- the signs of terms
pub open_round : IsSign (codes "(") (word kinds.OpenRound ∷ [])
open_round = tight (codes "(") kinds.OpenRound (λ rest. refl) (λ rest. refl) (λ start rest. refl) refl

pub close_round : IsSign (codes ")") (word kinds.CloseRound ∷ [])
close_round = tight (codes ")") kinds.CloseRound (λ rest. refl) (λ rest. refl) (λ start rest. refl) refl

pub comma : IsSign (codes ", ") (word kinds.Comma ∷ [])
comma = sign_sign (tight (codes ",") kinds.Comma (λ rest. refl) (λ rest. refl) (λ start rest. refl) refl) blank

pub slash : IsSign (codes "/") (word kinds.Slash ∷ [])
slash = tight (codes "/") kinds.Slash (λ rest. refl) (λ rest. refl) (λ start rest. refl) refl

pub plus_sign : IsSign (codes " + ") (word kinds.Plus ∷ [])
plus_sign = spaced (codes "+") kinds.Plus (λ rest. refl) (λ start rest. refl) refl

pub minus_sign : IsSign (codes " - ") (word kinds.Minus ∷ [])
minus_sign = spaced (codes "-") kinds.Minus (λ rest. refl) (λ start rest. refl) refl

pub times_sign : IsSign (codes " * ") (word kinds.Star ∷ [])
times_sign = spaced (codes "*") kinds.Star (λ rest. refl) (λ start rest. refl) refl

-- ---- the signs of clauses and declarations
pub colon : IsSign (codes ":") (word kinds.Colon ∷ [])
colon = tight (codes ":") kinds.Colon (λ rest. refl) (λ rest. refl) (λ start rest. refl) refl

pub semicolon : IsSign (codes ";") (word kinds.Semicolon ∷ [])
semicolon = tight (codes ";") kinds.Semicolon (λ rest. refl) (λ rest. refl) (λ start rest. refl) refl

pub open_square : IsSign (codes "[") (word kinds.OpenSquare ∷ [])
open_square = tight (codes "[") kinds.OpenSquare (λ rest. refl) (λ rest. refl) (λ start rest. refl) refl

pub close_square : IsSign (codes "]") (word kinds.CloseSquare ∷ [])
close_square = tight (codes "]") kinds.CloseSquare (λ rest. refl) (λ rest. refl) (λ start rest. refl) refl

pub conjunction : IsSign (codes " & ") (word kinds.And ∷ [])
conjunction = spaced (codes "&") kinds.And (λ rest. refl) (λ start rest. refl) refl

pub disjunction : IsSign (codes " | ") (word kinds.Or ∷ [])
disjunction = spaced (codes "|") kinds.Or (λ rest. refl) (λ start rest. refl) refl

pub arrow : IsSign (codes " -> ") (word kinds.Arrow ∷ [])
arrow = spaced (codes "->") kinds.Arrow (λ rest. refl) (λ start rest. refl) refl

pub relation : (cmp : Cmp) → IsSign (codes " " ++ relation_text cmp ++ codes " ") (word (relation_kind cmp) ∷ [])
relation Le = spaced (codes "<=") kinds.LessEq (λ rest. refl) (λ start rest. refl) refl
relation Lt = spaced (codes "<") kinds.Less (λ rest. refl) (λ start rest. refl) refl
relation Eq = spaced (codes "=") kinds.Equal (λ rest. refl) (λ start rest. refl) refl
relation Ne = spaced (codes "!=") kinds.NotEqual (λ rest. refl) (λ start rest. refl) refl
relation Ge = spaced (codes ">=") kinds.GreaterEq (λ rest. refl) (λ start rest. refl) refl
relation Gt = spaced (codes ">") kinds.Greater (λ rest. refl) (λ start rest. refl) refl
