-- The tokens of a derived problem are names and numerals that a text has.
use Rattle.std.proofs.Common.{◌≡◌, ℕ, ◌^◌, ◌<◌, ◌≤◌, Bool, true, false, List, [], ◌∷◌, ◌++◌, refl, sym, subst, append-nil, arith}
use Rattle.std.specs.Prelude.{pos, nat_lt}
use Rattle.std.specs.List.{flat_map, join_by}
use Rattle.std.proofs.lemmas.Bool.{ltb-true, lt-ltb}
use Rattle.std.proofs.lemmas.Grind.{flat_map-append}
use Rattle.std.proofs.lemmas.List.{map-append}
use Rattle.hp_math.specs.Rational.{ℚ, ratio}
use Rattle.hp_tree.specs.declared.term.Term.{Term}
use Rattle.hp_ast.specs.declared.printing.Place.{Place}
use Rattle.hp_ast.specs.declared.printing.Place.TheVariants.{Whole, Operand, Factor}
use Rattle.hp_tree.specs.declared.problem.Atom.{Atom}
use Rattle.hp_tree.specs.declared.problem.Clause.{Clause}
use Rattle.hp_tree.specs.declared.problem.Cmp.{Cmp}
use Rattle.hp_tree.specs.declared.problem.Cmp.TheVariants.{Le, Lt, Eq, Ne, Ge, Gt}
use Rattle.hp_tree.specs.declared.problem.Decl.{Decl}
use Rattle.hp_tree.specs.declared.problem.Decl.TheVariants.{Const, Fun}
use Rattle.hp_tree.specs.declared.problem.Problem.{Problem}
use Rattle.hp_tree.specs.declared.problem.Sort.{Sort}
use Rattle.hp_tree.specs.declared.problem.Sort.TheVariants.{Num, Idx, Ptr}
use Rattle.hp_tree.specs.declared.problem.Var.{Var}
use Rattle.hp_ast.specs.Printing.{encloses_sum, encloses_product}
use Rattle.hp_text.specs.declared.token.Kind.{Kind}
use Rattle.hp_text.specs.declared.token.Kind.TheVariants as kinds
use Rattle.hp_grammar.specs.declared.symbol.Symbol.{Symbol as Token}
use Rattle.hp_grammar.specs.declared.symbol.Symbol.TheVariants.{Word as word, Name as name, Numeral as numeral}
use Rattle.hp_grammar.specs.Token.{is_word, is_token, AreTokens}
use Rattle.hp_grammar.specs.Grammar as terms
use Rattle.hp_grammar.specs.Grammar.{SpellsNumber, SpellsTerm, SpellsPart, SpellsFactor, SpellsTerms, whole, fraction, part, minus, sum, difference, number, product, factor, single, call, nothing, group, first}
use Rattle.hp_grammar.specs.Bodies.{Separated, one, more, SpellsAtom, SpellsGuard, none, some, SpellsHead, empty, atoms, SpellsBody, body}
use Rattle.hp_grammar.specs.Declarations as lines
use Rattle.hp_grammar.specs.Declarations.{SpellsSort, SpellsName, called, constants_of, SpellsVariable, variable, SpellsVariables}
use Rattle.hp_grammar.specs.Problems as grammar
use Rattle.hp_grammar.specs.Problems.{SpellsDeclaration, constants, function, SpellsItem, clause, query, SpellsProfile, missing, given, SpellsDeclarations, SpellsItems, SpellsProblem, problem}
use Rattle.hp_grammar.proofs.Machines.{are_both}
use Rattle.hp_roundtrip.specs.inner.Printed.{tokens_at, frac_tokens, enclosed_tokens, relation_kind, atom_tokens, guard_tokens, head_tokens, sort_tokens, var_tokens, clause_tokens, decl_tokens, problem_tokens}
use Rattle.hp_roundtrip.proofs.Joined.{join_by-append, some_items}
use Rattle.hp_roundtrip.proofs.Lowest.{is_low, low_tokens, tokens-low}
use Rattle.hp_roundtrip.proofs.Trees.{arguments_tokens, tokens-number_of, tokens-null, tokens-named, tokens-apply, tokens-add, tokens-sub, tokens-neg, tokens-scale}
use Rattle.hp_roundtrip.proofs.Deriving.{some_terms}
use Rattle.hp_roundtrip.proofs.Derived.{guard-some, head-some}

parts : (u v : List Token) → AreTokens (u ++ v) → AreTokens u × AreTokens v
parts [] v h = (tt, h)
parts (t ∷ u) v h = let r = parts u v h.1 in ((h.0, r.0), r.1)

-- tokens in parentheses
in_round : (u : List Token) → AreTokens u → AreTokens (word kinds.OpenRound ∷ u ++ word kinds.CloseRound ∷ [])
in_round u h = (refl, are_both u (word kinds.CloseRound ∷ []) h (refl, tt))

enclosed : (b : Bool) (u : List Token) → AreTokens u → AreTokens (enclosed_tokens b u)
enclosed true u h = in_round u h
enclosed false u h = h

-- ---- numbers
smaller : (m n : ℕ) → m ≤ n → nat_lt n (10 ^ 18) ≡ true → nat_lt m (10 ^ 18) ≡ true
smaller m n l e = let below : n < 10 ^ 18 = ltb-true n (10 ^ 18) e in lt-ltb m (10 ^ 18) (omega arith)

one_fits : nat_lt 1 (10 ^ 18) ≡ true
one_fits = refl

low_real : (b : Bool) (m d : ℕ) → nat_lt m (10 ^ 18) ≡ true → nat_lt d (10 ^ 18) ≡ true → AreTokens (low_tokens b m d)
low_real true m d g h = (g, tt)
low_real false m d g h = (g, (refl, (h, tt)))

number_real : (u : List Token) (q : ℚ) → SpellsNumber u q → AreTokens u → AreTokens (frac_tokens q)
number_real u q (whole n) r =
    let l = is_low n 1 (omega arith) in
    rw (tokens-low (ratio (pos n) 1) l.top l.is_top) (low_real _ l.top _ (smaller l.top n l.top_most r.0) (smaller _ 1 l.den_most one_fits))
number_real u q (fraction n d p) r =
    let l = is_low n d p in
    rw (tokens-low (ratio (pos n) d) l.top l.is_top) (low_real _ l.top _ (smaller l.top n l.top_most r.0) (smaller _ d l.den_most r.1.1.0))

-- ---- terms
mutual
  term_real : (u : List Token) (t : Term) → SpellsTerm u t → AreTokens u → (place : Place) → AreTokens (tokens_at t place)
  term_real u t (part v a h) r place = part_real v a h r place
  term_real u t (minus v a h) r place =
      rw (tokens-neg a place) (enclosed (encloses_sum place) (word kinds.Minus ∷ tokens_at a Operand) (refl, part_real v a h r.1 Operand))
  term_real u t (sum v w a b g h) r place =
      let s = parts v (word kinds.Plus ∷ w) r in
      rw (tokens-add a b place) (enclosed (encloses_sum place) (tokens_at a Whole ++ word kinds.Plus ∷ tokens_at b Operand)
      (are_both (tokens_at a Whole) (word kinds.Plus ∷ tokens_at b Operand) (term_real v a g s.0 Whole) (refl, part_real w b h s.1.1 Operand)))
  term_real u t (difference v w a b g h) r place =
      let s = parts v (word kinds.Minus ∷ w) r in
      rw (tokens-sub a b place) (enclosed (encloses_sum place) (tokens_at a Whole ++ word kinds.Minus ∷ tokens_at b Operand)
      (are_both (tokens_at a Whole) (word kinds.Minus ∷ tokens_at b Operand) (term_real v a g s.0 Whole) (refl, part_real w b h s.1.1 Operand)))

  part_real : (u : List Token) (t : Term) → SpellsPart u t → AreTokens u → (place : Place) → AreTokens (tokens_at t place)
  part_real u t (number v q h) r place = rw (tokens-number_of q place) (enclosed (encloses_product place) (frac_tokens q) (number_real v q h r))
  part_real u t (product v w q a g h) r place =
      let s = parts v (word kinds.Star ∷ w) r in
      rw (tokens-scale q a place) (enclosed (encloses_product place) (frac_tokens q ++ word kinds.Star ∷ tokens_at a Factor)
      (are_both (frac_tokens q) (word kinds.Star ∷ tokens_at a Factor) (number_real v q g s.0) (refl, factor_real w a h s.1.1 Factor)))
  part_real u t (factor v a h) r place = factor_real v a h r place

  factor_real : (u : List Token) (t : Term) → SpellsFactor u t → AreTokens u → (place : Place) → AreTokens (tokens_at t place)
  factor_real u t (single n) r place = rw (tokens-named n place) r
  factor_real u t (call n v ts h) r place =
      let s = parts v (word kinds.CloseRound ∷ []) r.1.1 in
      rw (tokens-apply n ts place) (r.0, in_round (arguments_tokens ts) (terms_real v ts h s.0))
  factor_real u t nothing r place = rw (tokens-null place) (refl, tt)
  factor_real u t (group v a h) r place =
      let s = parts v (word kinds.CloseRound ∷ []) r.1 in
      term_real v a h s.0 place

  terms_real : (u : List Token) (ts : List Term) → SpellsTerms u ts → AreTokens u → AreTokens (arguments_tokens ts)
  terms_real u ts (first v t h) r = rw append-nil (term_real v t h r Whole)
  terms_real u ts (terms.more v w bs t g h) r =
      let s = parts v (word kinds.Comma ∷ w) r in
      rw (join_by-append (λ a. tokens_at a Whole) (word kinds.Comma ∷ []) bs t (some_terms v bs g))
      (are_both (arguments_tokens bs) (word kinds.Comma ∷ tokens_at t Whole) (terms_real v bs g s.0) (refl, term_real w t h s.1.1 Whole))

-- ---- lists with a sign between their items
separated_real : {A : Type 0} (Spells : List Token → A → Type 0) (tokens : A → List Token) (k : Kind) → is_word k ≡ true
    → ((v : List Token) (a : A) → Spells v a → AreTokens v → AreTokens (tokens a)) → (u : List Token) (xs : List A) → Separated Spells k u xs → AreTokens u
    → AreTokens (join_by tokens (word k ∷ []) xs)
separated_real Spells tokens k is each u xs (one v a h) r = rw append-nil (each v a h r)
separated_real Spells tokens k is each u xs (more v w ys a g h) r =
    let s = parts v (word k ∷ w) r in
    rw (join_by-append tokens (word k ∷ []) ys a (some_items Spells k v ys g))
    (are_both (join_by tokens (word k ∷ []) ys) (word k ∷ tokens a) (separated_real Spells tokens k is each v ys g s.0) (is, each w a h s.1.1))

-- ---- atoms and bodies
relation_word : (c : Cmp) → is_word (relation_kind c) ≡ true
relation_word Le = refl
relation_word Lt = refl
relation_word Eq = refl
relation_word Ne = refl
relation_word Ge = refl
relation_word Gt = refl

atom_real : (u : List Token) (a : Atom) → SpellsAtom u a → AreTokens u → AreTokens (atom_tokens a)
atom_real u a h r =
    let s = parts h.left_tokens (word h.sign ∷ h.right_tokens) (subst (λ z. AreTokens z) h.tokens r) in
    subst (λ b. AreTokens (atom_tokens b)) (sym h.atom)
    (are_both (tokens_at h.left_term Whole) (word (relation_kind h.cmp_of) ∷ tokens_at h.right_term Whole) (term_real h.left_tokens h.left_term h.left_is s.0 Whole)
    (relation_word h.cmp_of, term_real h.right_tokens h.right_term h.right_is s.1.1 Whole))

guard_real : (u : List Token) (bs : List Atom) → SpellsGuard u bs → AreTokens u → AreTokens (guard_tokens bs)
guard_real u bs none r = tt
guard_real u bs (some v cs h) r =
    let s = parts v (word kinds.Arrow ∷ []) r in
    rw (guard-some cs (some_items SpellsAtom kinds.And v cs h))
    (are_both (join_by atom_tokens (word kinds.And ∷ []) cs) (word kinds.Arrow ∷ []) (separated_real SpellsAtom atom_tokens kinds.And refl atom_real v cs h s.0) (refl, tt))

head_real : (u : List Token) (bs : List Atom) → SpellsHead u bs → AreTokens u → AreTokens (head_tokens bs)
head_real u bs empty r = (refl, tt)
head_real u bs (atoms v cs h) r = rw (head-some cs (some_items SpellsAtom kinds.Or v cs h)) (separated_real SpellsAtom atom_tokens kinds.Or refl atom_real v cs h r)

body_real : (u : List Token) (g h : List Atom) → SpellsBody u g h → AreTokens u → AreTokens (guard_tokens g) × AreTokens (head_tokens h)
body_real u g h (body v w gs hs a b) r = let s = parts v w r in (guard_real v gs a s.0, head_real w hs b s.1)

-- what stands before a body, the body, and the sign behind it
item_tokens_real : (x g h : List Token) → AreTokens x → AreTokens g × AreTokens h → AreTokens (((x ++ g) ++ h) ++ (word kinds.Semicolon ∷ []))
item_tokens_real x g h r s = are_both ((x ++ g) ++ h) (word kinds.Semicolon ∷ []) (are_both (x ++ g) h (are_both x g r s.0) s.1) (refl, tt)

-- ---- variables and declarations
sort_real : (s : Sort) → AreTokens (sort_tokens s)
sort_real Num = (refl, tt)
sort_real Idx = (refl, tt)
sort_real Ptr = (refl, tt)

variable_real : (u : List Token) (v : Var) → SpellsVariable u v → AreTokens u → AreTokens (var_tokens v)
variable_real u v (variable x w s h) r = (r.0, (refl, sort_real s))

variables_real : (u : List Token) (vs : List Var) → SpellsVariables u vs → AreTokens u → AreTokens (join_by var_tokens (word kinds.Comma ∷ []) vs)
variables_real u vs lines.none r = tt
variables_real u vs (lines.some v ws h) r = separated_real SpellsVariable var_tokens kinds.Comma refl variable_real v ws h r

constant_real : (x : List ℕ) (s : Sort) → is_token (name x) ≡ true → AreTokens (decl_tokens (Const x s))
constant_real x s r = (refl, (r, (refl, are_both (sort_tokens s) (word kinds.Semicolon ∷ []) (sort_real s) (refl, tt))))

alone_real : (d : Decl) → AreTokens (decl_tokens d) → AreTokens (flat_map decl_tokens (d ∷ []))
alone_real d h = are_both (decl_tokens d) [] h tt

constants_real : (u : List Token) (xs : List (List ℕ)) (s : Sort) → Separated SpellsName kinds.Comma u xs → AreTokens u → AreTokens (flat_map decl_tokens (constants_of xs s))
constants_real u xs s (one v x (called y)) r = alone_real (Const y s) (constant_real y s r.0)
constants_real u xs s (more v w ys x g (called y)) r =
    let p = parts v (word kinds.Comma ∷ w) r in
    rw (map-append (λ z. Const z s) ys (y ∷ []), flat_map-append decl_tokens (constants_of ys s) (Const y s ∷ []))
    (are_both (flat_map decl_tokens (constants_of ys s)) (flat_map decl_tokens (Const y s ∷ [])) (constants_real v ys s g p.0) (alone_real (Const y s) (constant_real y s p.1.1.0)))

declaration_real : (u : List Token) (ds : List Decl) → SpellsDeclaration u ds → AreTokens u → AreTokens (flat_map decl_tokens ds)
declaration_real u ds (constants v es (lines.constants w x xs s g h)) r =
    constants_real w xs s g (parts w (word kinds.Colon ∷ x) (parts (w ++ word kinds.Colon ∷ x) (word kinds.Semicolon ∷ []) r.1).0).0
declaration_real u ds (function v d (lines.function x w y ss s n g h)) r =
    let behind : List Token = word kinds.CloseRound ∷ word kinds.Colon ∷ y ++ (word kinds.Level ∷ numeral n ∷ []) in
    let sorts : List Token = join_by sort_tokens (word kinds.Comma ∷ []) ss in
    let value : List Token = word kinds.CloseRound ∷ word kinds.Colon ∷ sort_tokens s in
    let p = parts w behind (parts (w ++ behind) (word kinds.Semicolon ∷ []) r.1.1.1).0 in
    let q = parts y (word kinds.Level ∷ numeral n ∷ []) p.1.1.1 in
    alone_real (Fun x ss s n) (
      refl,
      (
        r.1.0,
        (
          refl,
          are_both (sorts ++ value) (word kinds.Level ∷ numeral n ∷ word kinds.Semicolon ∷ [])
              (are_both sorts value (separated_real SpellsSort sort_tokens kinds.Comma refl (λ v a g r. sort_real a) w ss g p.0) (refl, (refl, sort_real s)))
              (refl, (q.1.1.0, (refl, tt))),
        ),
      ),
    )

declarations_real : (u : List Token) (ds : List Decl) → SpellsDeclarations u ds → AreTokens u → AreTokens (flat_map decl_tokens ds)
declarations_real u ds grammar.none r = tt
declarations_real u ds (grammar.more v w es fs g h) r =
    let s = parts v w r in
    rw (flat_map-append decl_tokens es fs) (are_both (flat_map decl_tokens es) (flat_map decl_tokens fs) (declarations_real v es g s.0) (declaration_real w fs h s.1))

-- ---- clauses and problems
item_real : (u : List Token) (c : Clause) → SpellsItem u c → AreTokens u → AreTokens (clause_tokens c)
item_real u c (clause v w vs g h a b) r =
    let s = parts v (word kinds.CloseSquare ∷ w ++ word kinds.Semicolon ∷ []) r.1.1 in
    let variables : List Token = join_by var_tokens (word kinds.Comma ∷ []) vs in
    item_tokens_real (word kinds.Clause ∷ word kinds.OpenSquare ∷ variables ++ word kinds.CloseSquare ∷ []) (guard_tokens g) (head_tokens h)
    (refl, (refl, are_both variables (word kinds.CloseSquare ∷ []) (variables_real v vs a s.0) (refl, tt)))
    (body_real w g h b (parts w (word kinds.Semicolon ∷ []) s.1.1).0)
item_real u c (query v g h b) r =
    item_tokens_real (word kinds.Query ∷ []) (guard_tokens g) (head_tokens h) (refl, tt) (body_real v g h b (parts v (word kinds.Semicolon ∷ []) r.1).0)

items_real : (u : List Token) (cs : List Clause) → SpellsItems u cs → AreTokens u → AreTokens (flat_map clause_tokens cs)
items_real u cs grammar.none r = tt
items_real u cs (grammar.more v w ds c g h) r =
    let s = parts v w r in
    rw (flat_map-append clause_tokens ds (c ∷ []), append-nil (clause_tokens c))
    (are_both (flat_map clause_tokens ds) (clause_tokens c) (items_real v ds g s.0) (item_real w c h s.1))

pub problem_real : (ts : List Token) (p : Problem) → SpellsProblem ts p → AreTokens ts → AreTokens (problem_tokens p)
problem_real ts p (problem u v w n ds cs f g h) r =
    let s = parts u (v ++ w) r in
    let t = parts v w s.1 in
    (refl, (profile_real u n f, (refl, are_both (flat_map decl_tokens ds) (flat_map clause_tokens cs) (declarations_real v ds g t.0) (items_real w cs h t.1))))
  where
    profile_real : (x : List Token) (k : ℕ) → SpellsProfile x k → nat_lt k (10 ^ 18) ≡ true
    profile_real x k missing = refl
    profile_real x k given = refl
