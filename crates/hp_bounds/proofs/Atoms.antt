-- Atoms weigh no more than the tokens of their text carry.
use Rattle.std.proofs.Common.{◌+◌, ◌<◌, ◌≤◌, List, [], ◌∷◌, ◌++◌, ap, subst, sym, arith}
use Rattle.std.specs.List.{All}
use Rattle.std.proofs.lemmas.List.Elements.{All-nil, All-cons, All-append}
use Rattle.hp_tree.specs.declared.problem.Atom.{Atom}
use Rattle.hp_tree.specs.declared.problem.Clause.{Clause}
use Rattle.hp_tree.specs.declared.problem.Problem.{Problem}
use Rattle.hp_text.specs.declared.token.Kind.{Kind}
use Rattle.hp_text.specs.declared.token.Kind.TheVariants as kinds
use Rattle.hp_grammar.specs.declared.symbol.Symbol.{Symbol as Token}
use Rattle.hp_grammar.specs.declared.symbol.Symbol.TheVariants.{Word as word}
use Rattle.hp_grammar.specs.Bodies.{SpellsAtom, SpellsAtoms, one, more, SpellsGuard, none, some, SpellsHead, empty, atoms, SpellsBody, body}
use Rattle.hp_grammar.specs.Problems.{SpellsItem, clause, query, SpellsItems, SpellsProblem, problem}
use Rattle.hp_grammar.specs.Problems as grammar
use Rattle.hp_terms.specs.Weight.{IsLightAtom, IsLightClause, IsLight, largest_offset, weight}
use Rattle.hp_bounds.proofs.Loads.{load, load-append, load-between, term_carried}

atom_carried : (u : List Token) (a : Atom) → SpellsAtom u a → (weight a.left + weight a.right) ≤ load u
atom_carried u a h =
    subst (λ (b : Atom). (weight b.left + weight b.right) ≤ load u) (sym h.atom)
    (omega (arith, ap load h.tokens, load-between h.sign h.left_tokens h.right_tokens, term_carried h.left_tokens h.left_term h.left_is, term_carried h.right_tokens h.right_term h.right_is))

-- ---- where the tokens carry less than the largest offset
light_one : (u : List Token) (a : Atom) → SpellsAtom u a → load u < largest_offset → All IsLightAtom (a ∷ [])
light_one u a h l = All-cons IsLightAtom a [] (omega (arith, atom_carried u a h)) (All-nil IsLightAtom)

light_atoms : (sign : Kind) (u : List Token) (bs : List Atom) → SpellsAtoms sign u bs → load u < largest_offset → All IsLightAtom bs
light_atoms sign u bs (one v a h) l = light_one v a h l
light_atoms sign u bs (more v w cs a g h) l =
    All-append IsLightAtom cs (a ∷ []) (light_atoms sign v cs g (omega (arith, load-between sign v w))) (light_one w a h (omega (arith, load-between sign v w)))

light_guard : (u : List Token) (bs : List Atom) → SpellsGuard u bs → load u < largest_offset → All IsLightAtom bs
light_guard u bs none l = All-nil IsLightAtom
light_guard u bs (some v cs h) l = light_atoms kinds.And v cs h (omega (arith, load-between kinds.Arrow v []))

light_head : (u : List Token) (bs : List Atom) → SpellsHead u bs → load u < largest_offset → All IsLightAtom bs
light_head u bs empty l = All-nil IsLightAtom
light_head u bs (atoms v cs h) l = light_atoms kinds.Or v cs h l

light_body : (u : List Token) (guard head : List Atom) → SpellsBody u guard head → load u < largest_offset → All IsLightAtom guard × All IsLightAtom head
light_body u guard head (body v w g h a b) l = (light_guard v g a (omega (arith, load-append v w)), light_head w h b (omega (arith, load-append v w)))

light_item : (u : List Token) (c : Clause) → SpellsItem u c → load u < largest_offset → IsLightClause c
light_item u c (clause v w vs g h a b) l =
    let inner : load w < largest_offset = omega (arith, load-append v (word kinds.CloseSquare ∷ w ++ word kinds.Semicolon ∷ []), load-between kinds.Semicolon w []) in
    let both = light_body w g h b inner in record { guard = both.0; head = both.1 }
light_item u c (query v g h b) l =
    let inner : load v < largest_offset = omega (arith, load-between kinds.Semicolon v []) in
    let both = light_body v g h b inner in record { guard = both.0; head = both.1 }

light_items : (u : List Token) (cs : List Clause) → SpellsItems u cs → load u < largest_offset → All IsLightClause cs
light_items u cs grammar.none l = All-nil IsLightClause
light_items u cs (grammar.more v w ds c g h) l =
    All-append IsLightClause ds (c ∷ []) (light_items v ds g (omega (arith, load-append v w)))
    (All-cons IsLightClause c [] (light_item w c h (omega (arith, load-append v w))) (All-nil IsLightClause))

pub light_problem : (u : List Token) (p : Problem) → SpellsProblem u p → load u < largest_offset → IsLight p
light_problem u p (problem x v w n ds cs f g h) l = light_items w cs h (omega (arith, load-append x (v ++ w), load-append v w))
