-- The tokens of a derived problem derive it.
use Rattle.std.proofs.Common.{◌≡◌, ℕ, false, List, [], ◌∷◌, ◌++◌, refl, sym, subst, ◌∙◌, append_assoc, append-nil, Some}
use Rattle.std.specs.List.{flat_map, join_by}
use Rattle.std.proofs.lemmas.Grind.{flat_map-append}
use Rattle.hp_ast.specs.declared.printing.Place.TheVariants.{Whole}
use Rattle.hp_tree.specs.declared.problem.Atom.{Atom}
use Rattle.hp_tree.specs.declared.problem.Clause.{Clause}
use Rattle.hp_tree.specs.declared.problem.Cmp.{Cmp}
use Rattle.hp_tree.specs.declared.problem.Cmp.TheVariants.{Le, Lt, Eq, Ne, Ge, Gt}
use Rattle.hp_tree.specs.declared.problem.Decl.{Decl}
use Rattle.hp_tree.specs.declared.problem.Decl.TheVariants.{Const, Fun}
use Rattle.hp_tree.specs.declared.problem.Problem.{Problem}
use Rattle.hp_tree.specs.declared.problem.Sort.{Sort}
use Rattle.hp_tree.specs.declared.problem.Sort.TheVariants.{Num, Idx, Ptr}
use Rattle.hp_tree.specs.declared.problem.Var.{Var}
use Rattle.hp_text.specs.declared.token.Kind.TheVariants as kinds
use Rattle.hp_grammar.specs.declared.symbol.Symbol.{Symbol as Token}
use Rattle.hp_grammar.specs.declared.symbol.Symbol.TheVariants.{Word as word, Name as name, Numeral as numeral}
use Rattle.hp_grammar.specs.Token.{same}
use Rattle.hp_grammar.specs.Bodies.{relation, Separated, one, SpellsAtom, SpellsGuard, none, some, SpellsHead, empty, atoms, SpellsBody, body}
use Rattle.hp_grammar.specs.Declarations as lines
use Rattle.hp_grammar.specs.Declarations.{SpellsSort, num, idx, ptr, called, constants_of, SpellsVariable, variable, SpellsVariables}
use Rattle.hp_grammar.specs.Problems as grammar
use Rattle.hp_grammar.specs.Problems.{SpellsDeclaration, constants, function, SpellsItem, clause, query, clause_of, SpellsProfile, missing, given, SpellsDeclarations, SpellsItems, SpellsProblem, problem}
use Rattle.hp_roundtrip.specs.inner.Printed.{tokens_at, relation_kind, atom_tokens, guard_tokens, head_tokens, sort_tokens, var_tokens, clause_tokens, decl_tokens, problem_tokens}
use Rattle.hp_roundtrip.proofs.Joined.{some_items, separated, regrouped}
use Rattle.hp_roundtrip.proofs.Deriving.{term_derived}

-- ---- atoms and bodies
relation_is : (c : Cmp) → relation (relation_kind c) ≡ Some c
unfolding relation same
relation_is Le = refl
relation_is Lt = refl
relation_is Eq = refl
relation_is Ne = refl
relation_is Ge = refl
relation_is Gt = refl

atom_derived : (u : List Token) (a : Atom) → SpellsAtom u a → SpellsAtom (atom_tokens a) a
atom_derived u a h =
    let l = term_derived h.left_tokens h.left_term h.left_is in
    let r = term_derived h.right_tokens h.right_term h.right_is in
    subst (λ b. SpellsAtom (atom_tokens b) b) (sym h.atom) (record {
      left_tokens = tokens_at h.left_term Whole;
      right_tokens = tokens_at h.right_term Whole;
      left_term = h.left_term;
      right_term = h.right_term;
      sign = relation_kind h.cmp_of;
      cmp_of = h.cmp_of;
      left_is = l.whole;
      rel_is = relation_is h.cmp_of;
      right_is = r.whole;
      tokens = refl;
      atom = refl;
    })

pub guard-some : (bs : List Atom) → (bs ≡ [] → ⊥) → guard_tokens bs ≡ join_by atom_tokens (word kinds.And ∷ []) bs ++ word kinds.Arrow ∷ []
guard-some [] h = absurd (h refl)
guard-some (b ∷ bs) h = refl

pub head-some : (bs : List Atom) → (bs ≡ [] → ⊥) → head_tokens bs ≡ join_by atom_tokens (word kinds.Or ∷ []) bs
head-some [] h = absurd (h refl)
head-some (b ∷ bs) h = refl

guard_derived : (u : List Token) (bs : List Atom) → SpellsGuard u bs → SpellsGuard (guard_tokens bs) bs
guard_derived u bs none = none
guard_derived u bs (some v cs h) = rw (guard-some cs (some_items SpellsAtom kinds.And v cs h)) (some _ cs (separated SpellsAtom atom_tokens kinds.And atom_derived v cs h))

head_derived : (u : List Token) (bs : List Atom) → SpellsHead u bs → SpellsHead (head_tokens bs) bs
head_derived u bs empty = empty
head_derived u bs (atoms v cs h) = rw (head-some cs (some_items SpellsAtom kinds.Or v cs h)) (atoms _ cs (separated SpellsAtom atom_tokens kinds.Or atom_derived v cs h))

body_derived : (u : List Token) (g h : List Atom) → SpellsBody u g h → SpellsBody (guard_tokens g ++ head_tokens h) g h
body_derived u g h (body v w gs hs a b) = body _ _ gs hs (guard_derived v gs a) (head_derived w hs b)

-- ---- variables and declarations
sort_derived : (s : Sort) → SpellsSort (sort_tokens s) s
sort_derived Num = num
sort_derived Idx = idx
sort_derived Ptr = ptr

variable_derived : (u : List Token) (v : Var) → SpellsVariable u v → SpellsVariable (var_tokens v) v
variable_derived u v (variable x w s h) = variable x (sort_tokens s) s (sort_derived s)

pub variables_derived : (u : List Token) (vs : List Var) → SpellsVariables u vs → SpellsVariables (join_by var_tokens (word kinds.Comma ∷ []) vs) vs
variables_derived u vs lines.none = lines.none
variables_derived u vs (lines.some v ws h) = lines.some _ ws (separated SpellsVariable var_tokens kinds.Comma variable_derived v ws h)

joined : (u v : List Token) (ds es : List Decl) → SpellsDeclarations u ds → SpellsDeclarations v es → SpellsDeclarations (u ++ v) (ds ++ es)
joined u v ds es g grammar.none = rw (append-nil u, append-nil ds) g
joined u v ds es g (grammar.more w x fs gs h k) =
    rw (← append_assoc u w x, ← append_assoc ds fs gs) (grammar.more (u ++ w) x (ds ++ fs) gs (joined u w ds fs g h) k)

alone : (u : List Token) (ds : List Decl) → SpellsDeclaration u ds → SpellsDeclarations u ds
alone u ds h = grammar.more [] u [] ds grammar.none h

constant_derived : (x : List ℕ) (s : Sort) → SpellsDeclaration (decl_tokens (Const x s)) (Const x s ∷ [])
constant_derived x s =
    constants (name x ∷ word kinds.Colon ∷ sort_tokens s) (Const x s ∷ [])
    (lines.constants (name x ∷ []) (sort_tokens s) (x ∷ []) s (one (name x ∷ []) x (called x)) (sort_derived s))

constants_derived : (xs : List (List ℕ)) (s : Sort) → SpellsDeclarations (flat_map decl_tokens (constants_of xs s)) (constants_of xs s)
constants_derived [] s = grammar.none
constants_derived (x ∷ xs) s = joined _ _ (Const x s ∷ []) _ (alone _ _ (constant_derived x s)) (constants_derived xs s)

function_derived : (x : List ℕ) (u : List Token) (ss : List Sort) (s : Sort) (n : ℕ) → Separated SpellsSort kinds.Comma u ss
    → SpellsDeclaration (decl_tokens (Fun x ss s n)) (Fun x ss s n ∷ [])
function_derived x u ss s n h =
    let k = separated SpellsSort sort_tokens kinds.Comma (λ v a g. sort_derived a) u ss h in
    let sorts : List Token = join_by sort_tokens (word kinds.Comma ∷ []) ss in
    let value : List Token = word kinds.CloseRound ∷ word kinds.Colon ∷ sort_tokens s in
    subst (λ z. SpellsDeclaration (word kinds.Fun ∷ name x ∷ word kinds.OpenRound ∷ z) (Fun x ss s n ∷ []))
    (append_assoc sorts (value ++ (word kinds.Level ∷ numeral n ∷ [])) (word kinds.Semicolon ∷ [])
    ∙ sym (append_assoc sorts value (word kinds.Level ∷ numeral n ∷ word kinds.Semicolon ∷ [])))
    (function _ _ (lines.function x _ _ ss s n k (sort_derived s)))

declaration_derived : (u : List Token) (ds : List Decl) → SpellsDeclaration u ds → SpellsDeclarations (flat_map decl_tokens ds) ds
declaration_derived u ds (constants v es (lines.constants w x xs s g h)) = constants_derived xs s
declaration_derived u ds (function v d (lines.function x w y ss s n g h)) = rw (append-nil (decl_tokens (Fun x ss s n))) (alone _ _ (function_derived x w ss s n g))

pub declarations_derived : (u : List Token) (ds : List Decl) → SpellsDeclarations u ds → SpellsDeclarations (flat_map decl_tokens ds) ds
declarations_derived u ds grammar.none = grammar.none
declarations_derived u ds (grammar.more v w es fs g h) =
    rw (flat_map-append decl_tokens es fs) (joined _ _ es fs (declarations_derived v es g) (declaration_derived w fs h))

-- ---- clauses and problems
item_derived : (u : List Token) (c : Clause) → SpellsItem u c → SpellsItem (clause_tokens c) c
item_derived u c (clause v w vs g h a b) =
    let variables : List Token = join_by var_tokens (word kinds.Comma ∷ []) vs in
    subst (λ z. SpellsItem (word kinds.Clause ∷ word kinds.OpenSquare ∷ z) (clause_of false vs g h))
    (sym (append_assoc variables (word kinds.CloseSquare ∷ []) ((guard_tokens g ++ head_tokens h) ++ (word kinds.Semicolon ∷ [])))
    ∙ regrouped (variables ++ word kinds.CloseSquare ∷ []) (guard_tokens g) (head_tokens h) (word kinds.Semicolon ∷ []))
    (clause _ _ vs g h (variables_derived v vs a) (body_derived w g h b))
item_derived u c (query v g h b) = query _ g h (body_derived v g h b)

items_derived : (u : List Token) (cs : List Clause) → SpellsItems u cs → SpellsItems (flat_map clause_tokens cs) cs
items_derived u cs grammar.none = grammar.none
items_derived u cs (grammar.more v w ds c g h) =
    rw (flat_map-append clause_tokens ds (c ∷ []), append-nil (clause_tokens c)) (grammar.more _ _ ds c (items_derived v ds g) (item_derived w c h))

profile_one : (u : List Token) (n : ℕ) → SpellsProfile u n → n ≡ 1
profile_one u n missing = refl
profile_one u n given = refl

pub problem_derived : (ts : List Token) (p : Problem) → SpellsProblem ts p → SpellsProblem (problem_tokens p) p
problem_derived ts p (problem u v w n ds cs f g h) =
    rw (profile_one u n f)
    (problem (word kinds.Profile ∷ numeral 1 ∷ word kinds.Semicolon ∷ []) _ _ 1 ds cs given (declarations_derived v ds g) (items_derived w cs h))
