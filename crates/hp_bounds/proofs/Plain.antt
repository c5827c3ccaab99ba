-- A declared name is a token of its text, so that it begins with a letter.
use Rattle.std.proofs.Common.{◌≡◌, ◌≢◌, ◌∙◌, ℕ, ◌≤◌, Bool, true, false, nat_eq, List, [], ◌∷◌, ◌++◌, length, Ok, refl, sym, subst, codes, arith}
use Rattle.std.specs.List.{All}
use Rattle.std.specs.Str.{all_ascii_digits, bytes_eq}
use Rattle.std.proofs.lemmas.Bool.{and_left, and_parts, eqb-true, lt-ltb, or_from}
use Rattle.std.proofs.lemmas.List.Elements.{All-nil, All-cons, All-append, All-map, All-weaker}
use Rattle.hp_tree.specs.declared.problem.Decl.{Decl}
use Rattle.hp_tree.specs.declared.problem.Decl.TheVariants.{Const}
use Rattle.hp_tree.specs.declared.problem.Clause.{Clause}
use Rattle.hp_tree.specs.declared.problem.Problem.{Problem}
use Rattle.hp_tree.specs.declared.problem.Var.{Var}
use Rattle.hp_terms.specs.Words.{IsPlainWord, declared_word}
use Rattle.hp_names.specs.Names.{is_among}
use Rattle.hp_local.specs.Rows.{argument_words}
use Rattle.hp_text.specs.Bytes.{is_letter}
use Rattle.hp_text.specs.Words.{is_name}
use Rattle.hp_text.specs.declared.token.Kind.{Kind}
use Rattle.hp_text.specs.declared.token.Kind.TheVariants as kinds
use Rattle.hp_text.specs.declared.token.Token.{Token as Placed}
use Rattle.hp_text.specs.Lexes.{Passes, IsSaid, said_by, said}
use Rattle.hp_text.specs.Placed.{IsPlaced, text_of}
use Rattle.hp_text.proofs.Fronts.{next_placed}
use Rattle.hp_text.proofs.Saying.{token_says}
use Rattle.hp_grammar.specs.declared.symbol.Symbol.{Symbol as Token}
use Rattle.hp_grammar.specs.declared.symbol.Symbol.TheVariants.{Word as word}
use Rattle.hp_grammar.specs.Token.{AreTokens, is_token}
use Rattle.hp_grammar.specs.Symbols.{symbol_by, symbol_of, symbols}
use Rattle.hp_grammar.specs.Bodies.{Separated, one, more}
use Rattle.hp_grammar.specs.Declarations as lines
use Rattle.hp_grammar.specs.Declarations.{SpellsConstants, SpellsFunction, SpellsName, SpellsVariable, SpellsVariables, called}
use Rattle.hp_grammar.specs.Problems.{SpellsDeclaration, constants, function, SpellsDeclarations, SpellsItem, SpellsItems, SpellsProblem, problem}
use Rattle.hp_grammar.specs.Problems as grammar
use Rattle.hp_grammar.specs.Spells.{Spells}
use Rattle.hp_bounds.specs.Laws.{HasPlainVariables, PlainArguments, PlainNames, PlainVariables}

-- ---- the tokens of a text
symbol_token : (k : Kind) (text : List ℕ) → IsSaid (said_by k text) → is_token (symbol_by k text) ≡ true
symbol_token kinds.Name text h = h
symbol_token kinds.Numeral text h = lt-ltb _ _ h
symbol_token k text h = h

token_token : (bytes : List ℕ) (from : ℕ) (t : Placed) → IsPlaced bytes from t → t.kind ≢ kinds.End → is_token (symbol_of bytes t) ≡ true
unfolding symbol_of said
token_token bytes from t p e = symbol_token t.kind (text_of bytes t) (token_says bytes from t p e)

are_tokens : (bytes : List ℕ) (from to : ℕ) (ts : List Placed) → from ≤ length bytes → Passes bytes from ts to → AreTokens (symbols bytes ts)
are_tokens bytes from to [] h p = tt
are_tokens bytes from to (t ∷ ts) h p =
    let placed : IsPlaced bytes from t = next_placed bytes from (Ok t) h (sym p.0) in
    (token_token bytes from t placed p.1, are_tokens bytes t.end to ts placed.within p.2)

front : (u v : List Token) → AreTokens (u ++ v) → AreTokens u
front [] v i = tt
front (t ∷ u) v i = (i.0, front u v i.1)

back : (u v : List Token) → AreTokens (u ++ v) → AreTokens v
back [] v i = i
back (t ∷ u) v i = back u v i.1

-- ---- names
-- `_` and `$` are no letters
no_letter : (c sign : ℕ) → is_letter sign ≡ false → is_letter c ≡ true → nat_eq c sign ≡ false
no_letter c sign f h = by (nat_eq c sign) refl
  where
    by : (b : Bool) → nat_eq c sign ≡ b → nat_eq c sign ≡ false
    by true e = absurd (let both : true ≡ false = sym (subst (λ d. is_letter d ≡ true) (eqb-true c sign e) h) ∙ f in cc)
    by false e = e

first_letter : (c : ℕ) (cs : List ℕ) → is_name (c ∷ cs) ≡ true → is_letter c ≡ true
first_letter c cs h = (and_parts (is_letter c) _ h).0

plain_word : (x : List ℕ) → is_name x ≡ true → IsPlainWord x
plain_word [] h = refl
plain_word (c ∷ cs) h = and_left (nat_eq c 95) (all_ascii_digits cs) (no_letter c 95 refl (first_letter c cs h))

plain_argument : (x : List ℕ) → is_name x ≡ true → is_among x argument_words ≡ false
plain_argument [] h = refl
plain_argument (c ∷ cs) h = or_from _ _ (unlike (codes "1")) (or_from _ _ (unlike (codes "2")) (or_from _ _ (unlike (codes "3")) (or_from _ _ (unlike (codes "4")) refl)))
  where
    unlike : (digit : List ℕ) → bytes_eq (c ∷ cs) (36 ∷ digit) ≡ false
    unlike digit = and_left (nat_eq c 36) (bytes_eq cs digit) (no_letter c 36 refl (first_letter c cs h))

abbrev IsNamed : List ℕ → Type 0
IsNamed x = is_name x ≡ true

spelled_name : (u : List Token) (x : List ℕ) → SpellsName u x → AreTokens u → IsNamed x
spelled_name u x (called y) i = i.0

spelled_between : (u : List Token) (xs : List (List ℕ)) → Separated SpellsName kinds.Comma u xs → AreTokens u → All IsNamed xs
spelled_between u xs (one v a h) i = All-cons IsNamed a [] (spelled_name v a h i) (All-nil IsNamed)
spelled_between u xs (more v w ys a g h) i =
    All-append IsNamed ys (a ∷ []) (spelled_between v ys g (front v (word kinds.Comma ∷ w) i))
    (All-cons IsNamed a [] (spelled_name w a h (back v (word kinds.Comma ∷ w) i).1) (All-nil IsNamed))

-- ---- declarations
abbrev IsNamedDecl : Decl → Type 0
IsNamedDecl d = IsNamed (declared_word d)

spelled_constants : (u : List Token) (ds : List Decl) → SpellsConstants u ds → AreTokens u → All IsNamedDecl ds
spelled_constants u ds (lines.constants v w xs s g h) i = All-map IsNamedDecl (λ x. Const x s) xs (spelled_between v xs g (front v (word kinds.Colon ∷ w) i))

spelled_function : (u : List Token) (d : Decl) → SpellsFunction u d → AreTokens u → IsNamedDecl d
spelled_function u d (lines.function x v w ss s n g h) i = i.0

spelled_declared : (u : List Token) (ds : List Decl) → SpellsDeclaration u ds → AreTokens u → All IsNamedDecl ds
spelled_declared u ds (constants v es h) i = spelled_constants v es h (front v (word kinds.Semicolon ∷ []) i.1)
spelled_declared u ds (function v d h) i = All-cons IsNamedDecl d [] (spelled_function v d h (front v (word kinds.Semicolon ∷ []) i.1)) (All-nil IsNamedDecl)

spelled_declarations : (u : List Token) (ds : List Decl) → SpellsDeclarations u ds → AreTokens u → All IsNamedDecl ds
spelled_declarations u ds grammar.none i = All-nil IsNamedDecl
spelled_declarations u ds (grammar.more v w es fs g h) i =
    All-append IsNamedDecl es fs (spelled_declarations v es g (front v w i)) (spelled_declared w fs h (back v w i))

spelled_problem : (u : List Token) (p : Problem) → SpellsProblem u p → AreTokens u → All IsNamedDecl p.decls
spelled_problem u p (problem x v w n ds cs f g h) i = spelled_declarations v ds g (front v w (back x (v ++ w) i))

text_tokens : (bytes : List ℕ) (p : Problem) → (s : Spells bytes p) → AreTokens (symbols bytes s.tokens)
text_tokens bytes p s = are_tokens bytes 0 s.lexes.place s.tokens (omega arith) s.lexes.passes

declared_names : (bytes : List ℕ) (p : Problem) → Spells bytes p → All IsNamedDecl p.decls
declared_names bytes p s = spelled_problem (symbols bytes s.tokens) p s.spelled (text_tokens bytes p s)

pub plain_names : PlainNames
plain_names bytes p s = All-weaker IsNamedDecl (λ d. IsPlainWord (declared_word d)) (λ d. plain_word (declared_word d)) p.decls (declared_names bytes p s)

pub plain_arguments : PlainArguments
plain_arguments bytes p s =
    All-weaker IsNamedDecl (λ d. is_among (declared_word d) argument_words ≡ false) (λ d. plain_argument (declared_word d)) p.decls (declared_names bytes p s)

-- ---- variables
abbrev IsPlainVar : Var → Type 0
IsPlainVar v = IsPlainWord v.name

plain_variable : (u : List Token) (v : Var) → SpellsVariable u v → AreTokens u → IsPlainVar v
plain_variable u v (lines.variable x w s g) i = plain_word x i.0

plain_separated : (u : List Token) (vs : List Var) → Separated SpellsVariable kinds.Comma u vs → AreTokens u → All IsPlainVar vs
plain_separated u vs (one v a h) i = All-cons IsPlainVar a [] (plain_variable v a h i) (All-nil IsPlainVar)
plain_separated u vs (more v w ys a g h) i =
    All-append IsPlainVar ys (a ∷ []) (plain_separated v ys g (front v (word kinds.Comma ∷ w) i))
    (All-cons IsPlainVar a [] (plain_variable w a h (back v (word kinds.Comma ∷ w) i).1) (All-nil IsPlainVar))

plain_vars : (u : List Token) (vs : List Var) → SpellsVariables u vs → AreTokens u → All IsPlainVar vs
plain_vars u vs lines.none i = All-nil IsPlainVar
plain_vars u vs (lines.some v ws h) i = plain_separated v ws h i

plain_item : (u : List Token) (c : Clause) → SpellsItem u c → AreTokens u → HasPlainVariables c
plain_item u c (grammar.clause v w vs g h a b) i = plain_vars v vs a (front v (word kinds.CloseSquare ∷ w ++ word kinds.Semicolon ∷ []) i.1.1)
plain_item u c (grammar.query v g h b) i = All-nil IsPlainVar

plain_items : (u : List Token) (cs : List Clause) → SpellsItems u cs → AreTokens u → All HasPlainVariables cs
plain_items u cs grammar.none i = All-nil HasPlainVariables
plain_items u cs (grammar.more v w es c g h) i =
    All-append HasPlainVariables es (c ∷ []) (plain_items v es g (front v w i))
    (All-cons HasPlainVariables c [] (plain_item w c h (back v w i)) (All-nil HasPlainVariables))

plain_clauses : (u : List Token) (p : Problem) → SpellsProblem u p → AreTokens u → All HasPlainVariables p.clauses
plain_clauses u p (problem x v w n ds cs f g h) i = plain_items w cs h (back v w (back x (v ++ w) i))

pub plain_variables : PlainVariables
plain_variables bytes p s = plain_clauses (symbols bytes s.tokens) p s.spelled (text_tokens bytes p s)
