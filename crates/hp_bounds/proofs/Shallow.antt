-- The terms of a problem nest no deeper than the limits on its tokens allow.
use Rattle.std.proofs.Common.{List, [], ◌∷◌, ◌++◌, subst, sym, arith}
use Rattle.std.specs.List.{All}
use Rattle.std.proofs.lemmas.List.Elements.{All-nil, All-cons, All-append}
use Rattle.hp_tree.specs.declared.problem.Atom.{Atom}
use Rattle.hp_tree.specs.declared.problem.Clause.{Clause}
use Rattle.hp_tree.specs.declared.problem.Problem.{Problem}
use Rattle.hp_text.specs.declared.token.Kind.{Kind}
use Rattle.hp_text.specs.declared.token.Kind.TheVariants as kinds
use Rattle.hp_grammar.specs.declared.symbol.Symbol.{Symbol as Token}
use Rattle.hp_grammar.specs.declared.symbol.Symbol.TheVariants.{Word as word}
use Rattle.hp_grammar.specs.Bodies.{SpellsAtom, SpellsAtoms, one, more, SpellsGuard, none, some, SpellsHead, empty, atoms, SpellsBody, body}
use Rattle.hp_grammar.specs.Counts.{nothing_counted}
use Rattle.hp_grammar.specs.Problems.{SpellsItem, clause, query, SpellsItems, SpellsProblem, problem}
use Rattle.hp_grammar.specs.Problems as grammar
use Rattle.hp_grammar.specs.Symbols.{symbols}
use Rattle.hp_bounds.specs.Depth.{IsShallowAtom, IsShallowClause, IsShallow}
use Rattle.hp_bounds.specs.Laws.{ShallowTerms}
use Rattle.hp_bounds.proofs.Counted.{IsCounted, left_counted, right_counted, rest_counted, behind_counted}
use Rattle.hp_bounds.proofs.Nesting.{shallow_term}

shallow_atom : (u : List Token) (a : Atom) → SpellsAtom u a → IsCounted u → IsShallowAtom a
shallow_atom u a h i =
    let parts : IsCounted (h.left_tokens ++ word h.sign ∷ h.right_tokens) = subst IsCounted h.tokens i in
    subst IsShallowAtom (sym h.atom) (
      shallow_term h.left_tokens h.left_term h.left_is (left_counted h.left_tokens (word h.sign ∷ h.right_tokens) parts),
      shallow_term h.right_tokens h.right_term h.right_is (behind_counted h.sign h.left_tokens h.right_tokens parts),
    )

shallow_one : (u : List Token) (a : Atom) → SpellsAtom u a → IsCounted u → All IsShallowAtom (a ∷ [])
shallow_one u a h i = All-cons IsShallowAtom a [] (shallow_atom u a h i) (All-nil IsShallowAtom)

shallow_atoms : (sign : Kind) (u : List Token) (bs : List Atom) → SpellsAtoms sign u bs → IsCounted u → All IsShallowAtom bs
shallow_atoms sign u bs (one v a h) i = shallow_one v a h i
shallow_atoms sign u bs (more v w cs a g h) i =
    All-append IsShallowAtom cs (a ∷ []) (shallow_atoms sign v cs g (left_counted v (word sign ∷ w) i)) (shallow_one w a h (behind_counted sign v w i))

shallow_guard : (u : List Token) (bs : List Atom) → SpellsGuard u bs → IsCounted u → All IsShallowAtom bs
shallow_guard u bs none i = All-nil IsShallowAtom
shallow_guard u bs (some v cs h) i = shallow_atoms kinds.And v cs h (left_counted v (word kinds.Arrow ∷ []) i)

shallow_head : (u : List Token) (bs : List Atom) → SpellsHead u bs → IsCounted u → All IsShallowAtom bs
shallow_head u bs empty i = All-nil IsShallowAtom
shallow_head u bs (atoms v cs h) i = shallow_atoms kinds.Or v cs h i

shallow_body : (u : List Token) (guard head : List Atom) → SpellsBody u guard head → IsCounted u → All IsShallowAtom guard × All IsShallowAtom head
shallow_body u guard head (body v w g h a b) i = (shallow_guard v g a (left_counted v w i), shallow_head w h b (right_counted v w i))

shallow_item : (u : List Token) (c : Clause) → SpellsItem u c → IsCounted u → IsShallowClause c
shallow_item u c (clause v w vs g h a b) i =
    let end : List Token = word kinds.Semicolon ∷ [] in
    let behind : IsCounted (w ++ end) = behind_counted kinds.CloseSquare (word kinds.Clause ∷ word kinds.OpenSquare ∷ v) (w ++ end) i in
    let both = shallow_body w g h b (left_counted w end behind) in record { guard = both.0; head = both.1 }
shallow_item u c (query v g h b) i =
    let end : List Token = word kinds.Semicolon ∷ [] in
    let both = shallow_body v g h b (left_counted v end (rest_counted (word kinds.Query) (v ++ end) i)) in record { guard = both.0; head = both.1 }

shallow_items : (u : List Token) (cs : List Clause) → SpellsItems u cs → IsCounted u → All IsShallowClause cs
shallow_items u cs grammar.none i = All-nil IsShallowClause
shallow_items u cs (grammar.more v w ds c g h) i =
    All-append IsShallowClause ds (c ∷ []) (shallow_items v ds g (left_counted v w i))
    (All-cons IsShallowClause c [] (shallow_item w c h (right_counted v w i)) (All-nil IsShallowClause))

shallow_problem : (u : List Token) (p : Problem) → SpellsProblem u p → IsCounted u → IsShallow p
shallow_problem u p (problem x v w n ds cs f g h) i = shallow_items w cs h (right_counted v w (right_counted x (v ++ w) i))

pub shallow_terms : ShallowTerms
shallow_terms bytes p s = shallow_problem (symbols bytes s.tokens) p s.spelled (record {
  from = nothing_counted;
  to = s.within.0;
  bounded = record { parentheses = omega arith; signs = omega arith };
  goes = s.within.1;
})
