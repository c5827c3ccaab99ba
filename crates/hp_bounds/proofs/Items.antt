-- Each declaration and each clause has a token of its own.
use Rattle.std.proofs.Common.{◌+◌, ◌≤◌, List, [], ◌∷◌, ◌++◌, length, length-append, arith}
use Rattle.std.proofs.lemmas.List.{length-map}
use Rattle.hp_tree.specs.declared.problem.Clause.{Clause}
use Rattle.hp_tree.specs.declared.problem.Decl.{Decl}
use Rattle.hp_tree.specs.declared.problem.Decl.TheVariants.{Const}
use Rattle.hp_tree.specs.declared.problem.Problem.{Problem}
use Rattle.hp_text.specs.declared.token.Kind.{Kind}
use Rattle.hp_text.specs.declared.token.Kind.TheVariants as kinds
use Rattle.hp_grammar.specs.declared.symbol.Symbol.{Symbol as Token}
use Rattle.hp_grammar.specs.declared.symbol.Symbol.TheVariants.{Word as word}
use Rattle.hp_grammar.specs.Bodies.{Separated, one, more}
use Rattle.hp_grammar.specs.Declarations as lines
use Rattle.hp_grammar.specs.Declarations.{SpellsName, SpellsConstants}
use Rattle.hp_grammar.specs.Problems.{SpellsDeclaration, constants, function, SpellsItem, clause, query, SpellsDeclarations, SpellsItems, SpellsProblem, problem}
use Rattle.hp_grammar.specs.Problems as grammar

-- a list that a sign lies between has at most one item more than tokens
few_between : {A : Type 0} (Spells : List Token → A → Type 0) (sign : Kind) (u : List Token) (xs : List A) → Separated Spells sign u xs → length xs ≤ length u + 1
few_between Spells sign u xs (one v a h) = omega arith
few_between Spells sign u xs (more v w ys a g h) =
    omega (arith, length-append ys (a ∷ []), length-append v (word sign ∷ w), few_between Spells sign v ys g)

few_constants : (u : List Token) (ds : List Decl) → SpellsConstants u ds → length ds ≤ length u
few_constants u ds (lines.constants v w xs s g h) =
    omega (arith, length-map xs (λ x. Const x s), length-append v (word kinds.Colon ∷ w), few_between SpellsName kinds.Comma v xs g)

few_declared : (u : List Token) (ds : List Decl) → SpellsDeclaration u ds → length ds ≤ length u
few_declared u ds (constants v es h) = omega (arith, length-append v (word kinds.Semicolon ∷ []), few_constants v es h)
few_declared u ds (function v d h) = omega arith

few_declarations : (u : List Token) (ds : List Decl) → SpellsDeclarations u ds → length ds ≤ length u
few_declarations u ds grammar.none = omega arith
few_declarations u ds (grammar.more v w es fs g h) = omega (arith, length-append v w, length-append es fs, few_declarations v es g, few_declared w fs h)

some_token : (u : List Token) (c : Clause) → SpellsItem u c → 1 ≤ length u
some_token u c (clause v w vs g h a b) = omega arith
some_token u c (query v g h b) = omega arith

few_clauses : (u : List Token) (cs : List Clause) → SpellsItems u cs → length cs ≤ length u
few_clauses u cs grammar.none = omega arith
few_clauses u cs (grammar.more v w ds c g h) = omega (arith, length-append v w, length-append ds (c ∷ []), few_clauses v ds g, some_token w c h)

pub few_in_problem : (u : List Token) (p : Problem) → SpellsProblem u p → (length p.decls + length p.clauses) ≤ length u
few_in_problem u p (problem x v w n ds cs f g h) = omega (arith, length-append x (v ++ w), length-append v w, few_declarations v ds g, few_clauses w cs h)
