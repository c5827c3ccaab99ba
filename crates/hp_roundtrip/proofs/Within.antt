-- The tokens of a derived problem pass the limits where its text does.
use Rattle.std.proofs.Common.{◌≡◌, ℕ, false, List, [], ◌∷◌, ◌++◌, Some, refl, sym, ap, subst, ◌∙◌, append_assoc, append-nil}
use Rattle.std.specs.List.{flat_map, join_by}
use Rattle.std.proofs.lemmas.Grind.{flat_map-append}
use Rattle.hp_tree.specs.declared.problem.Atom.{Atom}
use Rattle.hp_tree.specs.declared.problem.Clause.{Clause}
use Rattle.hp_tree.specs.declared.problem.Cmp.{Cmp}
use Rattle.hp_tree.specs.declared.problem.Cmp.TheVariants.{Le, Lt, Eq, Ne, Ge, Gt}
use Rattle.hp_tree.specs.declared.problem.Decl.{Decl}
use Rattle.hp_tree.specs.declared.problem.Problem.{Problem}
use Rattle.hp_tree.specs.declared.problem.Sort.{Sort}
use Rattle.hp_tree.specs.declared.problem.Var.{Var}
use Rattle.hp_text.specs.declared.token.Kind.{Kind}
use Rattle.hp_text.specs.declared.token.Kind.TheVariants as kinds
use Rattle.hp_grammar.specs.declared.symbol.Symbol.{Symbol as Token}
use Rattle.hp_grammar.specs.declared.symbol.Symbol.TheVariants.{Word as word, Numeral as numeral}
use Rattle.hp_grammar.specs.Token.{same}
use Rattle.hp_grammar.specs.Counts.{ends_atom, count_other, count_sign, count_word, nothing_counted}
use Rattle.hp_grammar.specs.Faults.{IsWithin}
use Rattle.hp_grammar.specs.Bodies.{relation, atom_of, one, more, SpellsAtom, SpellsAtoms, none, some, SpellsHead, empty, atoms, SpellsBody, body}
use Rattle.hp_grammar.specs.Declarations as lines
use Rattle.hp_grammar.specs.Declarations.{SpellsSort, num, idx, ptr, SpellsName, called, SpellsConstants, SpellsFunction, SpellsVariable, variable, SpellsVariables}
use Rattle.hp_grammar.specs.Problems as grammar
use Rattle.hp_grammar.specs.Problems.{SpellsDeclaration, constants, function, SpellsItem, clause, query, clause_of, SpellsProfile, missing, given, SpellsDeclarations, SpellsItems, SpellsProblem, problem}
use Rattle.hp_roundtrip.specs.inner.Printed.{relation_kind, atom_tokens, guard_tokens, head_tokens, var_tokens, clause_tokens, decl_tokens, problem_tokens}
use Rattle.hp_roundtrip.proofs.Joined.{join_by-append, some_items, regrouped}
use Rattle.hp_roundtrip.proofs.Derived.{guard-some, head-some, variables_derived, declarations_derived}
use Rattle.hp_roundtrip.proofs.Counting.{other_follows, IsOther}
use Rattle.hp_roundtrip.proofs.Measured.{term_measured}
use Rattle.hp_roundtrip.proofs.Returning.{Agrees, follows_agree, idle_agrees, end_agrees, IsEnd, and_end, or_end, arrow_end, Returns, append_returns, end_returns, IsIdle, idle_returns, append_idle, IsLoose, append_loose, other_loose, name_loose, numeral_loose, nothing_loose, round_loose, separated_loose, line_idle, opening_idle}

-- ---- atoms
relation_other : (c : Cmp) → IsOther (relation_kind c)
unfolding same count_word count_sign count_other ends_atom
relation_other Le a = refl
relation_other Lt a = refl
relation_other Eq a = refl
relation_other Ne a = refl
relation_other Ge a = refl
relation_other Gt a = refl

sign_is : (k : Kind) (c : Cmp) → relation k ≡ Some c → k ≡ relation_kind c
unfolding same relation
sign_is kinds.LessEq c e = let z : Le ≡ c = cc in ap relation_kind z
sign_is kinds.Less c e = let z : Lt ≡ c = cc in ap relation_kind z
sign_is kinds.Equal c e = let z : Eq ≡ c = cc in ap relation_kind z
sign_is kinds.NotEqual c e = let z : Ne ≡ c = cc in ap relation_kind z
sign_is kinds.GreaterEq c e = let z : Ge ≡ c = cc in ap relation_kind z
sign_is kinds.Greater c e = let z : Gt ≡ c = cc in ap relation_kind z
sign_is k c e = absurd (cc)

atom_agrees : (u : List Token) (a : Atom) → SpellsAtom u a → Agrees u (atom_tokens a)
atom_agrees u a h =
    let left = term_measured h.left_tokens h.left_term h.left_is in
    let right = term_measured h.right_tokens h.right_term h.right_is in
    let split : u ≡ h.left_tokens ++ word (relation_kind h.cmp_of) ∷ h.right_tokens =
    h.tokens ∙ ap (λ k. h.left_tokens ++ word k ∷ h.right_tokens) (sign_is h.sign h.cmp_of h.rel_is) in
    subst (λ b. Agrees u (atom_tokens b)) (sym h.atom) (subst (λ z. Agrees z (atom_tokens (atom_of h.left_term h.cmp_of h.right_term))) (sym split)
    (follows_agree _ _ (other_follows (relation_kind h.cmp_of) (relation_other h.cmp_of) h.left_tokens h.right_tokens _ _ left.whole right.whole)))

atoms_agree : (k : Kind) → IsEnd k → (u : List Token) (bs : List Atom) → SpellsAtoms k u bs → Agrees u (join_by atom_tokens (word k ∷ []) bs)
atoms_agree k is u bs (one v a h) = rw (append-nil (atom_tokens a)) (atom_agrees v a h)
atoms_agree k is u bs (more v w cs a g h) =
    rw (join_by-append atom_tokens (word k ∷ []) cs a (some_items SpellsAtom k v cs g)) (end_agrees k is v w _ _ (atoms_agree k is v cs g) (atom_agrees w a h))

-- ---- bodies
false_idle : IsIdle (word kinds.False ∷ [])
unfolding same count_word count_sign count_other ends_atom
false_idle = refl

head_agrees : (u : List Token) (bs : List Atom) → SpellsHead u bs → Agrees u (head_tokens bs)
head_agrees u bs empty = idle_agrees (word kinds.False ∷ []) false_idle
head_agrees u bs (atoms v cs h) = rw (head-some cs (some_items SpellsAtom kinds.Or v cs h)) (atoms_agree kinds.Or or_end v cs h)

arrow_agrees : (u v x y : List Token) → Agrees u x → Agrees v y → Agrees ((u ++ word kinds.Arrow ∷ []) ++ v) ((x ++ word kinds.Arrow ∷ []) ++ y)
arrow_agrees u v x y g h = rw (append_assoc u (word kinds.Arrow ∷ []) v, append_assoc x (word kinds.Arrow ∷ []) y) (end_agrees kinds.Arrow arrow_end u v x y g h)

body_agrees : (u : List Token) (g h : List Atom) → SpellsBody u g h → Agrees u (guard_tokens g ++ head_tokens h)
body_agrees u g h (body v w gs hs none b) = head_agrees w hs b
body_agrees u g h (body v w gs hs (some x cs a) b) =
    rw (guard-some cs (some_items SpellsAtom kinds.And x cs a)) (arrow_agrees x w _ _ (atoms_agree kinds.And and_end x cs a) (head_agrees w hs b))

-- ---- variables and declarations
sort_loose : (o : ℕ) (u : List Token) (s : Sort) → SpellsSort u s → IsLoose o u
unfolding same count_word count_sign count_other ends_atom
sort_loose o u s num = other_loose o kinds.Num [] (λ c. refl) (nothing_loose o)
sort_loose o u s idx = other_loose o kinds.Idx [] (λ c. refl) (nothing_loose o)
sort_loose o u s ptr = other_loose o kinds.Ptr [] (λ c. refl) (nothing_loose o)

colon_other : IsOther kinds.Colon
unfolding same count_word count_sign count_other ends_atom
colon_other c = refl

variable_loose : (u : List Token) (v : Var) → SpellsVariable u v → IsLoose 0 u
variable_loose u v (variable x w s h) = name_loose 0 x (word kinds.Colon ∷ w) (other_loose 0 kinds.Colon w colon_other (sort_loose 0 w s h))

variables_loose : (u : List Token) (vs : List Var) → SpellsVariables u vs → IsLoose 0 u
variables_loose u vs lines.none = nothing_loose 0
variables_loose u vs (lines.some v ws h) = separated_loose SpellsVariable 0 variable_loose v ws h

called_loose : (u : List Token) (x : List ℕ) → SpellsName u x → IsLoose 0 u
called_loose u x (called y) = name_loose 0 y [] (nothing_loose 0)

constants_loose : (u : List Token) (ds : List Decl) → SpellsConstants u ds → IsLoose 0 u
constants_loose u ds (lines.constants v w xs s g h) =
    append_loose 0 v (word kinds.Colon ∷ w) (separated_loose SpellsName 0 called_loose v xs g) (other_loose 0 kinds.Colon w colon_other (sort_loose 0 w s h))

function_loose : (u : List Token) (d : Decl) → SpellsFunction u d → IsLoose 0 u
unfolding same count_word count_sign count_other ends_atom
function_loose u d (lines.function x v w ss s n g h) =
    let level : List Token = word kinds.Level ∷ numeral n ∷ [] in
    let value : List Token = word kinds.Colon ∷ w ++ level in
    name_loose 0 x (word kinds.OpenRound ∷ v ++ word kinds.CloseRound ∷ value) (round_loose v value (separated_loose SpellsSort 1 (λ y t. sort_loose 1 y t) v ss g)
    (other_loose 0 kinds.Colon (w ++ level) colon_other
    (append_loose 0 w level (sort_loose 0 w s h) (other_loose 0 kinds.Level (numeral n ∷ []) (λ c. refl) (numeral_loose 0 n [] (nothing_loose 0))))))

declaration_idle : (u : List Token) (ds : List Decl) → SpellsDeclaration u ds → IsIdle u
unfolding same count_word count_sign count_other ends_atom
declaration_idle u ds (constants v es h) = line_idle (word kinds.Const ∷ v) (other_loose 0 kinds.Const v (λ c. refl) (constants_loose v es h))
declaration_idle u ds (function v d h) = line_idle (word kinds.Fun ∷ v) (other_loose 0 kinds.Fun v (λ c. refl) (function_loose v d h))

declarations_idle : (u : List Token) (ds : List Decl) → SpellsDeclarations u ds → IsIdle u
declarations_idle u ds grammar.none = refl
declarations_idle u ds (grammar.more v w es fs g h) = append_idle v w (declarations_idle v es g) (declaration_idle w fs h)

-- ---- clauses and problems
clause_idle : (u : List Token) (vs : List Var) → SpellsVariables u vs → IsIdle (word kinds.Clause ∷ word kinds.OpenSquare ∷ u ++ word kinds.CloseSquare ∷ [])
unfolding same count_word count_sign count_other ends_atom
clause_idle u vs h =
    opening_idle kinds.CloseSquare (word kinds.Clause ∷ word kinds.OpenSquare ∷ u) (λ c. refl)
    (other_loose 0 kinds.Clause (word kinds.OpenSquare ∷ u) (λ c. refl) (other_loose 0 kinds.OpenSquare u (λ c. refl) (variables_loose u vs h)))

query_idle : IsIdle (word kinds.Query ∷ [])
unfolding same count_word count_sign count_other ends_atom
query_idle = refl

item_returns : (u : List Token) (c : Clause) → SpellsItem u c → Returns u (clause_tokens c)
item_returns u c (clause v w vs g h a b) =
    let end : List Token = word kinds.Semicolon ∷ [] in
    let before : List Token = word kinds.Clause ∷ word kinds.OpenSquare ∷ v ++ word kinds.CloseSquare ∷ [] in
    let printed : List Token = word kinds.Clause ∷ word kinds.OpenSquare ∷ join_by var_tokens (word kinds.Comma ∷ []) vs ++ word kinds.CloseSquare ∷ [] in
    subst (λ z. Returns z (clause_tokens (clause_of false vs g h))) (append_assoc (word kinds.Clause ∷ word kinds.OpenSquare ∷ v) (word kinds.CloseSquare ∷ []) (w ++ end))
    (subst (λ z. Returns (before ++ (w ++ end)) z) (regrouped printed (guard_tokens g) (head_tokens h) end)
    (append_returns before (w ++ end) printed ((guard_tokens g ++ head_tokens h) ++ end)
    (idle_returns before printed (clause_idle v vs a) (clause_idle _ vs (variables_derived v vs a))) (end_returns w _ (body_agrees w g h b))))
item_returns u c (query v g h b) =
    append_returns (word kinds.Query ∷ []) (v ++ word kinds.Semicolon ∷ []) (word kinds.Query ∷ []) ((guard_tokens g ++ head_tokens h) ++ (word kinds.Semicolon ∷ []))
    (idle_returns _ _ query_idle query_idle) (end_returns v _ (body_agrees v g h b))

items_return : (u : List Token) (cs : List Clause) → SpellsItems u cs → Returns u (flat_map clause_tokens cs)
items_return u cs grammar.none = idle_returns [] [] refl refl
items_return u cs (grammar.more v w ds c g h) =
    rw (flat_map-append clause_tokens ds (c ∷ []), append-nil (clause_tokens c)) (append_returns v w _ _ (items_return v ds g) (item_returns w c h))

profile_idle : (n : ℕ) → IsIdle (word kinds.Profile ∷ numeral n ∷ word kinds.Semicolon ∷ [])
unfolding same count_word count_sign count_other ends_atom
profile_idle n = refl

read_profile_idle : (u : List Token) (n : ℕ) → SpellsProfile u n → IsIdle u
read_profile_idle u n missing = refl
read_profile_idle u n given = profile_idle 1

pub problem_within : (ts : List Token) (p : Problem) → SpellsProblem ts p → IsWithin ts → IsWithin (problem_tokens p)
problem_within ts p (problem u v w n ds cs f g h) i =
    let top : List Token = word kinds.Profile ∷ numeral n ∷ word kinds.Semicolon ∷ [] in
    let declared = idle_returns v (flat_map decl_tokens ds) (declarations_idle v ds g) (declarations_idle _ ds (declarations_derived v ds g)) in
    let all = append_returns u (v ++ w) top (flat_map decl_tokens ds ++ flat_map clause_tokens cs) (idle_returns u top (read_profile_idle u n f) (profile_idle n))
    (append_returns v w (flat_map decl_tokens ds) (flat_map clause_tokens cs) declared (items_return w cs h)) in
    (nothing_counted, (all.returns i.0 i.1).1)
